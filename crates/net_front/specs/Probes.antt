-- What a server answers to those who ask how it is, and which resources it has.
use Rattle.std.specs.Prelude.{ℕ, ◌-◌, ◌/◌, Bool, not, true, false, ◌&&◌, ◌||◌, Option, Some, None}
use Rattle.kube_meta.specs.declared.resources.Resource.{Resource}
use Rattle.client_api.specs.Facts.{Facts, all_served}
use Rattle.client_api.specs.declared.resources.Resources.{Resources}
use Rattle.net_front.specs.declared.followed.Followed.{Followed}

-- a mirror is ready while it follows its peer; any other server as its log is
abbrev pub is_ready : Option Bool → Bool → Bool
is_ready (Some is_followed) is_kept = is_followed
is_ready None is_kept = is_kept

-- a mirror is live unless it has ended following its peer for good; any other server always is
abbrev pub is_live : Option Bool → Bool
is_live (Some is_over) = not is_over
is_live None = true

-- it holds of each of these resources
abbrev pub of_all : Resources → Bool → Bool → Bool → Bool
of_all these pods config_maps deployments =
    (not these.pods || pods) && ((not these.config_maps || config_maps) && (not these.deployments || deployments))

-- whole seconds between two times in milliseconds; none where the second isn't later
abbrev pub seconds_since : ℕ → ℕ → ℕ
seconds_since then now = (now - then) / 1000

-- the resources that a server has: those that it mirrors, and all where it mirrors none
abbrev pub resources_of : Option Followed → Resources
resources_of (Some followed) = followed.resources
resources_of None = all_served

-- whether a server takes operations: not where each resource has a log of its own, and this client's is that of one
abbrev pub takes_operations : Option Resource → Bool → Bool
takes_operations (Some own) takes = false
takes_operations None takes = takes

-- What a client tells of itself, and what is known of the server whose it is: its resources, and whether it takes
-- operations. `own` is the one resource that the client's log has, where each has a log of its own.
abbrev pub facts_of : Option Resource → Option Followed → Facts → Facts
facts_of own followed facts =
    record facts { resources = resources_of followed; operable = takes_operations own facts.operable }

-- the same where all resources have one log
abbrev pub facts_at : Option Followed → Facts → Facts
facts_at followed facts = record facts { resources = resources_of followed }

-- the same where each has a log of its own: no operation is taken
abbrev pub facts_in_each : Option Followed → Facts → Facts
facts_in_each followed facts = record facts { resources = resources_of followed; operable = false }
