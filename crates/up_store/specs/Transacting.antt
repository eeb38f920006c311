-- Several writes that are accepted at one revision: which refusal comes first, and what their revision is.
use Rattle.std.specs.Prelude.{◌≡◌, ℕ, ◌+◌, ◌^◌, ◌==◌, Bool, false, List, [], ◌∷◌, map, Option, Some, None, option_map, Result, Ok, Err, if◌then◌else◌, IsPermutation}
use Rattle.std.specs.Global.{Global, Vec}
use Rattle.std.specs.declared.sync.Arc.{Arc}
use Rattle.std.specs.Option.{option_or}
use Rattle.kube_meta.specs.Rows.{RowData}
use Rattle.kube_meta.specs.declared.objects.Obj.{Obj}
use Rattle.rev_front.specs.Passes.{Whole}
use Rattle.rev_log.specs.Changes.{RevisionData, IsRevision}
use Rattle.rev_log.specs.Logs.{Log, end_of}
use Rattle.up_store.specs.declared.transactions.TxWriteNo.{TxWriteNo}
use Rattle.up_store.specs.declared.transactions.TxWriteNo.TheVariants.{Item, UsedUp, ReadOnly, Memory}
use Rattle.up_store.specs.declared.writes.WriteAsk.{WriteAsk}
use Rattle.up_store.specs.declared.writes.Written.{Written}
use Rattle.up_store.specs.Stores.{accepted, log_in}
use Rattle.up_store.specs.Writes.{fault_of, change_of, IsWritten}

-- the first write that is refused by itself, counted from this place on
abbrev pub first_fault : Log → ℕ → List WriteAsk → Option TxWriteNo
first_fault log place [] = None
first_fault log place (ask ∷ asks) = option_or (option_map (λ fault. Item place fault) (fault_of log ask)) (first_fault log (place + 1) asks)

-- no revision is above the last one
abbrev pub tx_used_up : ℕ → Option TxWriteNo
tx_used_up end = if end == 2 ^ 62 then Some (UsedUp end) else None

-- the first refusal that holds
abbrev pub tx_refusal_of : Bool → Log → List WriteAsk → Option TxWriteNo
tx_refusal_of mirror log asks = if mirror then Some (ReadOnly (end_of log)) else option_or (first_fault log 0 asks) (tx_used_up (end_of log))

-- the revision of these writes, after this log: their changes, in the order of a revision
pub record IsRevisionOf (log : Log) (asks : List WriteAsk) (revision : RevisionData) : Type 0 where
  pub number : revision.rev ≡ end_of log + 1
  pub is : IsRevision revision
  pub changes : IsPermutation (map (change_of revision.rev) asks) revision.changes

-- there is no other
abbrev pub RevisionsOfAreUnique : Type 0
RevisionsOfAreUnique =
    (log : Log) (asks : List WriteAsk) (revision other : RevisionData) →
    IsRevisionOf log asks revision → IsRevisionOf log asks other → revision ≡ other

-- each answer is that of its write alone
abbrev pub AreWritten : Log → List WriteAsk → List Written → Type 0
AreWritten log [] [] = Unit {0}
AreWritten log (ask ∷ asks) (written ∷ more) = IsWritten log ask written × AreWritten log asks more
AreWritten log asks answers = ⊥

-- the object behind a shared pointer, if there is one
abbrev pub object_in : Option (Arc Obj Global) → Option Obj
object_in shared = option_map (λ obj. obj.value) shared

-- the answers as a list
abbrev pub answers_in : Result (Vec Written) TxWriteNo → Result (List Written) TxWriteNo
answers_in (Ok answers) = Ok answers.items
answers_in (Err fault) = Err fault

-- what a transaction answers, and what it leaves: all of it is done at one revision, or nothing of it; where there was no memory nothing is
abbrev pub IsTransactionAnswer : List RowData → Bool → ℕ → List WriteAsk → Whole RevisionData → Whole RevisionData → Result (List Written) TxWriteNo → Type 0
IsTransactionAnswer base mirror history asks w after (Ok answers) =
    (tx_refusal_of mirror (log_in base w) asks ≡ None) × AreWritten (log_in base w) asks answers
    × ((revision : RevisionData) × IsRevisionOf (log_in base w) asks revision × (after ≡ accepted history w revision))
IsTransactionAnswer base mirror history asks w after (Err Memory) = after ≡ w
IsTransactionAnswer base mirror history asks w after (Err fault) = (tx_refusal_of mirror (log_in base w) asks ≡ Some fault) × (after ≡ w)

-- an accepted transaction, before its revision is added to the log
pub record IsTxPrepared (log : Log) (asks : List WriteAsk) (answers : List Written) (revision : RevisionData) : Type 0 where
  pub unrefused : tx_refusal_of false log asks ≡ None
  pub written_are : AreWritten log asks answers
  pub revision_is : IsRevisionOf log asks revision
