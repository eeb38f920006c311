-- What writes answer, and what they leave of the log.
use Rattle.std.specs.Prelude.{◌≡◌, ℕ, ◌+◌, ◌^◌, Bool, false, ◌==◌, List, [], ◌∷◌, Option, Some, None, option_map, Result, Ok, Err, if◌then◌else◌}
use Rattle.std.specs.Option.{option_or}
use Rattle.kube_meta.specs.Rows.{RowData}
use Rattle.kube_meta.specs.declared.objects.Obj.{Obj}
use Rattle.rev_front.specs.Passes.{Whole}
use Rattle.rev_log.specs.Changes.{ChangeData, RevisionData}
use Rattle.rev_log.specs.Logs.{Log, end_of}
use Rattle.rev_log.specs.States.{row_at}
use Rattle.up_store.specs.declared.writes.WriteAsk.{WriteAsk}
use Rattle.up_store.specs.declared.writes.WriteAsk.TheVariants.{Create, Replace, Remove}
use Rattle.up_store.specs.declared.writes.WriteNo.{WriteNo}
use Rattle.up_store.specs.declared.writes.WriteNo.TheVariants.{Exists, Absent, Stale, UsedUp, ReadOnly, Memory}
use Rattle.up_store.specs.declared.writes.Written.{Written}
use Rattle.up_store.specs.Stores.{accepted, log_in}
use Rattle.up_store.specs.Transactions.{target_of}

-- the row of the write's object at the log's end, if there is one
abbrev pub row_before : Log → WriteAsk → Option RowData
row_before log ask = let target = target_of ask in row_at log target.0 (end_of log) target.1

-- the given revision isn't the present one
abbrev pub stale_at : ℕ → Option ℕ → ℕ → Option WriteNo
stale_at end None present = None
stale_at end (Some given) present = if given == present then None else Some (Stale end given present)

-- why the write is refused that finds this row at this revision, if it is
abbrev pub fault_at : ℕ → WriteAsk → Option RowData → Option WriteNo
fault_at end (Create resource obj) None = None
fault_at end (Create resource obj) (Some row) = Some (Exists end row.rev)
fault_at end (Replace resource obj given) None = Some (Absent end)
fault_at end (Replace resource obj given) (Some row) = stale_at end given row.rev
fault_at end (Remove resource key) None = Some (Absent end)
fault_at end (Remove resource key) (Some row) = None

-- why the write conflicts with the log's end, if it does: its object is there already, isn't there, or is at another
-- revision than the given one
abbrev pub fault_of : Log → WriteAsk → Option WriteNo
fault_of log ask = fault_at (end_of log) ask (row_before log ask)

-- no revision is above the last one
abbrev pub used_up : ℕ → Option WriteNo
used_up end = if end == 2 ^ 62 then Some (UsedUp end) else None

-- the first refusal that holds
abbrev pub refusal_of : Bool → Log → WriteAsk → Option WriteNo
refusal_of mirror log ask = if mirror then Some (ReadOnly (end_of log)) else option_or (fault_of log ask) (used_up (end_of log))

-- the change of a write at a revision
abbrev pub change_of : ℕ → WriteAsk → ChangeData
change_of rev (Create resource obj) = record { rev = rev; resource = resource; key = obj.key; new = Some obj }
change_of rev (Replace resource obj given) = record { rev = rev; resource = resource; key = obj.key; new = Some obj }
change_of rev (Remove resource key) = record { rev = rev; resource = resource; key = key; new = None }

-- the new object of a write, if it has one
abbrev pub new_object : WriteAsk → Option Obj
new_object (Create resource obj) = Some obj
new_object (Replace resource obj given) = Some obj
new_object (Remove resource key) = None

-- the object that a write answers: the new one, or the removed one
abbrev pub written_object : WriteAsk → Option RowData → Option Obj
written_object ask row = option_or (new_object ask) (option_map (λ r. r.obj) row)

-- the revision of this write alone, after this log
abbrev pub write_of : Log → WriteAsk → RevisionData
write_of log ask = record { rev = end_of log + 1; changes = change_of (end_of log + 1) ask ∷ [] }

-- the answer to an accepted write: its revision, and its object with that revision
pub record IsWritten (log : Log) (ask : WriteAsk) (written : Written) : Type 0 where
  pub number : written.rev ≡ end_of log + 1
  pub row_number : written.row.rev ≡ written.rev
  pub object : Some written.row.obj ≡ written_object ask (row_before log ask)

-- what a write answers, and what it leaves: it is done as a whole, or nothing of it; where there was no memory nothing is
abbrev pub IsWriteAnswer : List RowData → Bool → ℕ → WriteAsk → Whole RevisionData → Whole RevisionData → Result Written WriteNo → Type 0
IsWriteAnswer base mirror history ask w after (Ok written) =
    (refusal_of mirror (log_in base w) ask ≡ None) × IsWritten (log_in base w) ask written × (after ≡ accepted history w (write_of (log_in base w) ask))
IsWriteAnswer base mirror history ask w after (Err Memory) = after ≡ w
IsWriteAnswer base mirror history ask w after (Err fault) = (refusal_of mirror (log_in base w) ask ≡ Some fault) × (after ≡ w)

-- an accepted write, before it is added to the log
pub record IsPrepared (log : Log) (ask : WriteAsk) (written : Written) (revision : RevisionData) : Type 0 where
  pub unrefused : refusal_of false log ask ≡ None
  pub written_is : IsWritten log ask written
  pub revision_is : revision ≡ write_of log ask
