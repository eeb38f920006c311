-- What contracts see of a store: its log, and what operations leave of it.
use Rattle.std.specs.Prelude.{◌≡◌, ℕ, ◌+◌, ◌-◌, ◌^◌, ◌<◌, ◌≤◌, max, Bool, List, [], ◌∷◌, ◌++◌, Result, Ok, Err}
use Rattle.kube_meta.specs.Rows.{RowData}
use Rattle.rev_front.specs.Passes.{Authored, Pass, Whole, Covers, Extends, credited, ordered, revision}
use Rattle.rev_log.specs.Changes.{RevisionData}
use Rattle.rev_log.specs.Logs.{Log}
use Rattle.up_api.specs.Sections.{Knows, HasSeenAll}
use Rattle.up_store.specs.declared.kept.Kept.{Kept}
use Rattle.up_store.specs.declared.operations.Operate.{Operate}
use Rattle.up_store.specs.declared.operations.Operate.TheVariants.{Cut, Compact, Restart, Disconnect}
use Rattle.up_store.specs.declared.operations.OpNo.{OpNo}
use Rattle.up_store.specs.declared.operations.OpNo.TheVariants.{Compacted, Future, UsedUp}
use Rattle.up_store.specs.Kept.{Keeps, floor_within}

-- the log with its floor and its generation, how many revisions the floor is behind the end at most, how many bytes those
-- carry at most to which it is trimmed, and how often states and histories were read
pub record StoreData : Type 0 where
  pub whole : Whole RevisionData
  pub history : ℕ
  pub bytes : ℕ
  pub reads : ℕ

-- the bytes to which a log is trimmed unless it is told others: 256 MiB
abbrev pub usual_bytes : ℕ
usual_bytes = 2 ^ 28

-- the log, from these base rows
abbrev pub log_in : List RowData → Whole RevisionData → Log
log_in base w = record { first = w.first; base = base; revisions = w.log }

-- what the fields of a store keep
pub record IsStore (base : List RowData) (a_mirror : Bool) (w : Whole RevisionData) (kept : Kept) (mirror : Bool) (history reads : ℕ) : Type 0 where
  pub keeps : Keeps (log_in base w) w.floor kept
  pub gen_fits : w.gen ≤ 2 ^ 62
  pub mirror_is : mirror ≡ a_mirror
  pub some_history : 1 ≤ history
  pub reads_fit : reads ≤ 2 ^ 62

-- a pass that the store met: the store knew all that it knew; now it knows all that the store has, and it has made no load
pub record HasMet (w : Whole RevisionData) (p q : Pass RevisionData) : Type 0 where
  pub covered : Covers w p
  pub is : q ≡ record p { seen = w.log; shown = revision w; floor = w.floor; gen = w.gen }
  pub extends : Extends p q

-- the log with one more revision: the floor follows the end, `history` behind it
abbrev pub accepted : ℕ → Whole RevisionData → RevisionData → Whole RevisionData
accepted history w r = record w { log = w.log ++ r ∷ []; floor = max w.floor (revision w + 1 - history) }

-- the log whose floor has followed the bytes
abbrev pub trimmed_to : ℕ → Whole RevisionData → Whole RevisionData
trimmed_to bytes w = record w { floor = max w.floor (floor_within bytes w.log) }

-- what an author has that asked for so many revisions: they are its own where they were accepted, and else none is
abbrev pub paid_for : {A E : Type 0} → ℕ → Result A E → Authored → Authored
paid_for n (Ok answer) a = credited a n
paid_for n (Err fault) a = a

-- the same of one revision
abbrev pub paid : {A E : Type 0} → Result A E → Authored → Authored
paid answer a = paid_for 1 answer a

-- what an author has that gave an order
abbrev pub obeyed : {A E : Type 0} → Result A E → Authored → Authored
obeyed (Ok answer) a = ordered a
obeyed (Err fault) a = a

-- what an author has that asked for an operation: a cut or a compaction that was done is an order
abbrev pub commanded : {E : Type 0} → Operate → Result ℕ E → Authored → Authored
commanded Cut answer a = obeyed answer a
commanded (Compact at) answer a = obeyed answer a
commanded Restart answer a = a
commanded Disconnect answer a = a

-- it knows the log, its floor and its generation, and was told of nothing else
abbrev pub KnowsAll : Whole RevisionData → Pass RevisionData → Type 0
KnowsAll w q = Knows w q × HasSeenAll q

-- what a cut of all feeds answers, and what it leaves
abbrev pub IsCutAnswer : Whole RevisionData → Whole RevisionData → Result ℕ OpNo → Type 0
IsCutAnswer w after (Ok gen) = (gen ≡ w.gen + 1) × (after ≡ record w { gen = gen })
IsCutAnswer w after (Err (UsedUp at)) = (at ≡ 2 ^ 62) × (w.gen ≡ 2 ^ 62) × (after ≡ w)
IsCutAnswer w after (Err other) = ⊥

-- what a compaction answers, and what it leaves
abbrev pub IsCompactionAnswer : ℕ → Whole RevisionData → Whole RevisionData → Result ℕ OpNo → Type 0
IsCompactionAnswer at w after (Ok floor) = (floor ≡ at) × (w.floor ≤ at) × (at ≤ revision w) × (after ≡ record w { floor = at })
IsCompactionAnswer at w after (Err (Compacted asked floor)) = (asked ≡ at) × (floor ≡ w.floor) × (asked < floor) × (after ≡ w)
IsCompactionAnswer at w after (Err (Future asked current)) = (asked ≡ at) × (current ≡ revision w) × (current < asked) × (after ≡ w)
IsCompactionAnswer at w after (Err other) = ⊥
