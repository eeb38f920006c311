-- At which revision a read answers, between what was known before it and what is known afterwards (Kubernetes API
-- concepts, "Resource versions"; KEP-2340).
use Rattle.std.specs.Prelude.{◌≡◌, ℕ, ◌≤◌}
use Rattle.rev_front.specs.Passes.{Pass, end_from, last_of}
use Rattle.rev_log.specs.Changes.{RevisionData}
use Rattle.select_all.specs.declared.selection.Meaning.{Meaning}
use Rattle.select_all.specs.declared.selection.Meaning.TheVariants.{MostRecent, Any, NotOlder, Exact}
use Rattle.client_api.specs.Facts.{HasLoaded}

-- What each meaning asks of a revision. The most recent is at least what a load of this very call gave; any is at
-- least all that was shown before; and one that isn't older than r is at least both r and that. One revision alone
-- is that one, and isn't below the compaction floor.
abbrev pub Meets : Pass RevisionData → Meaning → ℕ → Pass RevisionData → Type 0
Meets p MostRecent at q = HasLoaded p q × (last_of q ≤ at)
Meets p Any at q = p.shown ≤ at
Meets p (NotOlder asked) at q = (asked ≤ at) × (p.shown ≤ at)
Meets p (Exact asked) at q = (at ≡ asked) × (q.floor ≤ at)

-- the revision is one that is seen, and fresh enough for the meaning
pub record IsFresh (p : Pass RevisionData) (meaning : Meaning) (at : ℕ) (q : Pass RevisionData) : Type 0 where
  pub seen : at ≤ end_from q.first q.seen
  pub meets : Meets p meaning at q
