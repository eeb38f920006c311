-- What writes, transactions and operations answer, between what a caller's pass knew before and what it knows afterwards.
use Rattle.std.specs.Prelude.{◌≡◌, ℕ, ◌^◌, ◌<◌, ◌≤◌, Bool, List, [], ◌∷◌, Some, None, Result, Ok, Err}
use Rattle.kube_meta.specs.Rows.{RowData}
use Rattle.rev_front.specs.Passes.{Pass, end_from}
use Rattle.rev_log.specs.Changes.{RevisionData}
use Rattle.rev_log.specs.Logs.{Log, end_of, grown}
use Rattle.up_api.specs.Sections.{log_of, log_upto}
use Rattle.up_store.specs.declared.operations.Operate.{Operate}
use Rattle.up_store.specs.declared.operations.Operate.TheVariants.{Cut, Compact, Restart, Disconnect}
use Rattle.up_store.specs.declared.operations.OpNo.{OpNo}
use Rattle.up_store.specs.declared.operations.OpNo.TheVariants.{Compacted, Future, UsedUp, Memory}
use Rattle.up_store.specs.declared.transactions.TxWriteNo.{TxWriteNo}
use Rattle.up_store.specs.declared.transactions.TxWriteNo.TheVariants as tx_no
use Rattle.up_store.specs.declared.writes.WriteAsk.{WriteAsk}
use Rattle.up_store.specs.declared.writes.WriteNo.{WriteNo}
use Rattle.up_store.specs.declared.writes.WriteNo.TheVariants as write_no
use Rattle.up_store.specs.declared.writes.Written.{Written}
use Rattle.up_store.specs.Transacting.{tx_refusal_of, IsRevisionOf, AreWritten}
use Rattle.up_store.specs.Writes.{refusal_of, write_of, IsWritten}

-- the revision isn't below what was shown before, and is seen afterwards
pub record IsKnown (p : Pass RevisionData) (at : ℕ) (q : Pass RevisionData) : Type 0 where
  pub shown : p.shown ≤ at
  pub seen : at ≤ end_from q.first q.seen

-- ---- writes

-- an accepted write: its revision is the last one seen and above all that was shown before, and it is the write's change
-- alone, which the log before it doesn't refuse
pub record IsAccepted (base : List RowData) (mirror : Bool) (p : Pass RevisionData) (ask : WriteAsk) (written : Written) (q : Pass RevisionData) : Type 0 where
  pub before : Log
  pub shown : p.shown ≤ end_of before
  pub unrefused : refusal_of mirror before ask ≡ None
  pub written_is : IsWritten before ask written
  pub committed : log_of base q ≡ grown before (write_of before ask ∷ [])

-- a refused write: this refusal is the first that holds at a revision that is known
pub record IsWriteRefused (base : List RowData) (mirror : Bool) (p : Pass RevisionData) (ask : WriteAsk) (fault : WriteNo) (q : Pass RevisionData) : Type 0 where
  pub at : ℕ
  pub known : IsKnown p at q
  pub refused : refusal_of mirror (log_upto base q at) ask ≡ Some fault

-- what a write answers; of want of memory nothing is said
abbrev pub IsWriteReply : List RowData → Bool → Pass RevisionData → WriteAsk → Result Written WriteNo → Pass RevisionData → Type 0
IsWriteReply base mirror p ask (Ok written) q = IsAccepted base mirror p ask written q
IsWriteReply base mirror p ask (Err write_no.Memory) q = Unit {0}
IsWriteReply base mirror p ask (Err fault) q = IsWriteRefused base mirror p ask fault q

-- ---- transactions

-- an accepted transaction: its revision is the last one seen and above all that was shown before
pub record IsTxAccepted (base : List RowData) (mirror : Bool) (p : Pass RevisionData) (asks : List WriteAsk) (answers : List Written) (q : Pass RevisionData) : Type 0 where
  pub before : Log
  pub revision : RevisionData
  pub shown : p.shown ≤ end_of before
  pub unrefused : tx_refusal_of mirror before asks ≡ None
  pub written_are : AreWritten before asks answers
  pub revision_is : IsRevisionOf before asks revision
  pub committed : log_of base q ≡ grown before (revision ∷ [])

-- a refused one: this refusal is the first that holds at a revision that is known
pub record IsTxRefused (base : List RowData) (mirror : Bool) (p : Pass RevisionData) (asks : List WriteAsk) (fault : TxWriteNo) (q : Pass RevisionData) : Type 0 where
  pub at : ℕ
  pub known : IsKnown p at q
  pub refused : tx_refusal_of mirror (log_upto base q at) asks ≡ Some fault

-- what a transaction answers
abbrev pub IsTransactionReply : List RowData → Bool → Pass RevisionData → List WriteAsk → Result (List Written) TxWriteNo → Pass RevisionData → Type 0
IsTransactionReply base mirror p asks (Ok answers) q = IsTxAccepted base mirror p asks answers q
IsTransactionReply base mirror p asks (Err tx_no.Memory) q = Unit {0}
IsTransactionReply base mirror p asks (Err fault) q = IsTxRefused base mirror p asks fault q

-- ---- operations

-- what a cut of all feeds answers: a generation that is new
abbrev pub IsCutReply : Pass RevisionData → Result ℕ OpNo → Pass RevisionData → Type 0
IsCutReply p (Ok gen) q = (p.gen < gen) × (gen ≤ q.gen)
IsCutReply p (Err (UsedUp at)) q = (at ≡ 2 ^ 62) × (q.gen ≡ 2 ^ 62)
IsCutReply p (Err Memory) q = Unit {0}
IsCutReply p (Err fault) q = ⊥

-- what a compaction answers: its own revision, which is the floor then
abbrev pub IsCompactionReply : ℕ → Pass RevisionData → Result ℕ OpNo → Pass RevisionData → Type 0
IsCompactionReply at p (Ok floor) q = (floor ≡ at) × (p.floor ≤ at) × (at ≤ q.floor)
IsCompactionReply at p (Err (Compacted asked floor)) q = (asked ≡ at) × (asked < floor) × (floor ≤ q.floor)
IsCompactionReply at p (Err (Future asked current)) q = (asked ≡ at) × (current < asked) × (p.shown ≤ current) × (current ≤ q.shown)
IsCompactionReply at p (Err (UsedUp other)) q = ⊥
IsCompactionReply at p (Err Memory) q = Unit {0}

-- what a restart of the caches, or an end of all watches, answers: the floor, from which the caches are built
abbrev pub IsRestartReply : Pass RevisionData → Result ℕ OpNo → Pass RevisionData → Type 0
IsRestartReply p (Ok floor) q = (p.floor ≤ floor) × (floor ≤ q.floor)
IsRestartReply p (Err Memory) q = Unit {0}
IsRestartReply p (Err fault) q = ⊥

-- what an operation answers
abbrev pub IsOperationReply : Pass RevisionData → Operate → Result ℕ OpNo → Pass RevisionData → Type 0
IsOperationReply p Cut answer q = IsCutReply p answer q
IsOperationReply p (Compact at) answer q = IsCompactionReply at p answer q
IsOperationReply p Restart answer q = IsRestartReply p answer q
IsOperationReply p Disconnect answer q = IsRestartReply p answer q
