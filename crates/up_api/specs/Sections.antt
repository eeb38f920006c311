-- What a section of upstream leaves of a pass.
use Rattle.std.specs.Prelude.{◌≡◌, ℕ, ◌+◌, ◌^◌, ◌<◌, ◌≤◌, ◌⊎◌, min, List, Result, Ok, Err}
use Rattle.kube_meta.specs.Rows.{RowData}
use Rattle.rev_front.specs.Passes.{Pass, Whole, Extends, end_from}
use Rattle.rev_log.specs.Changes.{RevisionData}
use Rattle.rev_log.specs.Logs.{Log, upto, grown}
use Rattle.up_api.specs.declared.feeds.Feed.{Feed}
use Rattle.up_api.specs.declared.refusals.UpNo.{UpNo}
use Rattle.up_api.specs.declared.refusals.UpNo.TheVariants.{Compacted, Future, Cut, Memory}

-- the log that a pass has seen
abbrev pub log_of : List RowData → Pass RevisionData → Log
log_of base p = record { first = p.first; base = base; revisions = p.seen }

-- this log up to a revision
abbrev pub log_upto : List RowData → Pass RevisionData → ℕ → Log
log_upto base p at = record (log_of base p) { revisions = upto (log_of base p) at }

-- the log of a pass that goes on from another is the other's log, grown
abbrev pub LogsGrow : Type 0
LogsGrow = (base : List RowData) (p q : Pass RevisionData) (later : Extends p q) → log_of base q ≡ grown (log_of base p) later.seen_on.0

-- a cache of which this is told stands for the log up to a revision that the pass has seen
pub record StandsAt (stands_for : Log → Type 0) (base : List RowData) (p : Pass RevisionData) (at : ℕ) : Type 0 where
  pub begun : p.first ≤ at
  pub within : at ≤ end_from p.first p.seen
  pub stands : stands_for (log_upto base p at)

-- it goes on from what it knew, and makes no load
pub record Learns (p q : Pass RevisionData) : Type 0 where
  pub extends : Extends p q
  pub loads_stay : q.loads ≡ p.loads

-- it has seen all that it was told of: the log of the section, whole
abbrev pub HasSeenAll : Pass RevisionData → Type 0
HasSeenAll p = p.shown ≡ end_from p.first p.seen

-- it is as before, or it has seen all that it was told of
abbrev pub StaysOrSeesAll : Pass RevisionData → Pass RevisionData → Type 0
StaysOrSeesAll p q = (q ≡ p) ⊎ HasSeenAll q

-- after each answer it has seen all; after want of memory it may be as before
abbrev pub Sections : {A : Type 0} → Result A UpNo → Pass RevisionData → Pass RevisionData → Type 0
Sections (Ok answer) p q = HasSeenAll q
Sections (Err Memory) p q = StaysOrSeesAll p q
Sections (Err fault) p q = HasSeenAll q

abbrev pub SectionsAll : {A E : Type 0} → Result A E → Pass RevisionData → Pass RevisionData → Type 0
SectionsAll (Ok answer) p q = HasSeenAll q
SectionsAll (Err memory) p q = StaysOrSeesAll p q

-- it knows this log, its floor and its generation
pub record Knows (w : Whole RevisionData) (p : Pass RevisionData) : Type 0 where
  pub first : p.first ≡ w.first
  pub seen : p.seen ≡ w.log
  pub floor : p.floor ≡ w.floor
  pub gen : p.gen ≡ w.gen

-- it knows as much as before
pub record Stays (p q : Pass RevisionData) : Type 0 where
  pub seen : q.seen ≡ p.seen
  pub floor : q.floor ≡ p.floor
  pub gen : q.gen ≡ p.gen

-- after each answer it knows the log that upstream has; after want of memory it may know as much as before
abbrev pub StaysOrKnows : {A : Type 0} → Whole RevisionData → Result A UpNo → Pass RevisionData → Pass RevisionData → Type 0
StaysOrKnows w (Ok answer) p q = Knows w q
StaysOrKnows w (Err Memory) p q = Stays p q ⊎ Knows w q
StaysOrKnows w (Err fault) p q = Knows w q

abbrev pub StaysOrKnowsAll : {A E : Type 0} → Whole RevisionData → Result A E → Pass RevisionData → Pass RevisionData → Type 0
StaysOrKnowsAll w (Ok answer) p q = Knows w q
StaysOrKnowsAll w (Err memory) p q = Stays p q ⊎ Knows w q

-- why a revision isn't served
abbrev pub RefusesAt : Pass RevisionData → ℕ → UpNo → Type 0
RefusesAt q at (Compacted asked floor) = (asked ≡ at) × (floor ≡ q.floor) × (asked < floor)
RefusesAt q at (Future asked current) = (asked ≡ at) × (current ≡ q.shown) × (current < asked)
RefusesAt q at (Cut opened now) = ⊥
RefusesAt q at Memory = Unit {0}

-- why a feed isn't polled: that it was cut comes first
abbrev pub RefusesPoll : Pass RevisionData → Feed → UpNo → Type 0
RefusesPoll q feed (Cut opened now) = (opened ≡ feed.gen_) × (now ≡ q.gen) × (opened < now)
RefusesPoll q feed (Compacted asked floor) = (asked ≡ feed.upto) × (floor ≡ q.floor) × (asked < floor) × (q.gen ≤ feed.gen_)
RefusesPoll q feed (Future asked current) = ⊥
RefusesPoll q feed Memory = Unit {0}

-- a count goes up by one, and stays at its last value, 2 ^ 62
abbrev pub raised_once : ℕ → ℕ
raised_once n = min (n + 1) (2 ^ 62)
