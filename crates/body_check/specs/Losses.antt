-- Which losses a log bears out, as a test.
use Rattle.std.specs.Prelude.{ℕ, Bool, ◌&&◌, ◌||◌, nat_lt, nat_le, List, []}
use Rattle.kube_meta.specs.declared.resources.Resource.{Resource}
use Rattle.rev_log.specs.Changes.{RevisionData}
use Rattle.rev_log.specs.Logs.{Log, end_of}
use Rattle.select_all.specs.Floors.{is_passed}

-- a log that begins with nothing
abbrev pub log_from : ℕ → List RevisionData → Log
log_from first revisions = record { first = first; base = []; revisions = revisions }

-- whether a watch at a position may have lost a revision
abbrev pub is_lost : Log → ℕ → ℕ → Resource → ℕ → ℕ → Bool
is_lost log log_floor window resource at floor = nat_lt at floor && (nat_le floor log_floor || is_passed log resource window (end_of log) floor)
