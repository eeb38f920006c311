-- What a pump does to a cache, to what it follows and to the pass that it is lent.
use Rattle.std.specs.Prelude.{◌≡◌, ℕ, zero, suc, ◌<◌, ◌≤◌, ◌⊎◌, Option, Some, None, option_map}
use Rattle.kube_meta.specs.declared.resources.Resource.{Resource}
use Rattle.rev_front.specs.Passes.{Pass}
use Rattle.rev_log.specs.Changes.{RevisionData}
use Rattle.rev_log.specs.Logs.{Log}
use Rattle.up_api.specs.Feeds.{PolledData, IsPoll, feed_at}
use Rattle.up_api.specs.Sections.{raised_once}
use Rattle.up_api.specs.declared.feeds.Feed.{Feed}
use Rattle.reflect_core.specs.declared.pump.Pumped.{Pumped}

-- a reflector: the resource, how many changes it polls at a time, and the feed that it follows
pub record ReflectorState : Type 0 where
  pub resource : Resource
  pub batch : ℕ
  pub feed : Option Feed

-- the feed, if there is one, is of this resource
abbrev pub HasFeedOf : Resource → Option Feed → Type 0
HasFeedOf resource (Some feed) = feed.resource ≡ resource
HasFeedOf resource None = Unit {0}

-- a feed of a resource that is complete up to a revision, of a generation between two
pub record FeedsFrom (resource : Resource) (upto low high : ℕ) (feed : Feed) : Type 0 where
  pub resource_is : feed.resource ≡ resource
  pub upto_is : feed.upto ≡ upto
  pub low_gen : low ≤ feed.gen_
  pub high_gen : feed.gen_ ≤ high

-- the generation in which the feed was begun, or the one that the pass knows where there is no feed
abbrev pub generation_of : Option Feed → Pass RevisionData → ℕ
generation_of (Some feed) p = feed.gen_
generation_of None p = p.gen

-- the feed is of no later generation than the pass knows
abbrev pub IsKnown : Option Feed → Pass RevisionData → Type 0
IsKnown (Some feed) p = feed.gen_ ≤ p.gen
IsKnown None p = Unit {0}

-- what a pump answers that had nothing to do
abbrev pub unmoved : ℕ → Pumped
unmoved end = record { end = end; cuts = 0; rebuilds = 0 }

-- there is a feed, and it is complete up to this revision
abbrev pub IsCompleteTo : ℕ → Option Feed → Type 0
IsCompleteTo at (Some feed) = feed.upto ≡ at
IsCompleteTo at None = ⊥

-- the last poll of a pump: it began below what was asked, at the cache's end or behind it, and gave all up to the cache's new end
pub record LastPoll (log : Log) (resource : Resource) (batch old until new : ℕ) : Type 0 where
  pub from : ℕ
  pub polled : PolledData
  pub behind : old ≤ from
  pub short : from < until
  pub poll : IsPoll log resource from batch polled
  pub reached : polled.upto ≡ new

-- what a pump did that had to poll and didn't build the cache anew: the feed stands at the cache's new end, in the generation
-- that the pass knows. Where it stood at the old end and no cut was met, it is the same feed, moved on
pub record GoesOn (log : Log) (r s : ReflectorState) (p q : Pass RevisionData) (old until new cuts : ℕ) : Type 0 where
  pub feed : s.feed ≡ Some (feed_at r.resource new q.gen)
  pub uncut : IsCompleteTo old r.feed → cuts ≡ 0 → q.gen ≡ generation_of r.feed p
  pub last_poll : LastPoll log r.resource r.batch old until new

-- a count that goes up by so many
abbrev pub raised : ℕ → ℕ → ℕ
raised zero n = n
raised (suc more) n = raised_once (raised more n)

-- why a cache that ended at a revision is built anew: the log was compacted past it, or the feeds were cut in this call
abbrev pub HasCause : ℕ → Pass RevisionData → Pass RevisionData → Type 0
HasCause end p q = (end < q.floor) ⊎ (p.gen < q.gen)

-- a count stands, or it went up by one for a cause
abbrev pub RisesFor : Type 0 → ℕ → ℕ → Type 0
RisesFor cause old new = (new ≡ old) ⊎ ((new ≡ raised_once old) × cause)

-- the same of a count that may not be told
abbrev pub MayRiseFor : Type 0 → Option ℕ → Option ℕ → Type 0
MayRiseFor cause old new = (new ≡ old) ⊎ ((new ≡ option_map raised_once old) × cause)

abbrev pub raised_where_told : ℕ → Option ℕ → Option ℕ
raised_where_told more count = option_map (raised more) count
