-- What is told of writes, transactions and operations that the log refuses. Nothing is told for want of memory.
use Rattle.std.specs.Prelude.{List, ℕ, Option, Some, None}
use Rattle.kube_meta.specs.declared.resources.Resource.{Resource}
use Rattle.up_store.specs.declared.writes.WriteNo.{WriteNo}
use Rattle.up_store.specs.declared.writes.WriteNo.TheVariants as write
use Rattle.up_store.specs.declared.transactions.TxWriteNo.{TxWriteNo}
use Rattle.up_store.specs.declared.transactions.TxWriteNo.TheVariants as transaction
use Rattle.up_store.specs.declared.operations.OpNo.{OpNo}
use Rattle.up_store.specs.declared.operations.OpNo.TheVariants as operation
use Rattle.api_errors.specs.Failures.{already_exists, not_found, conflict, revisions_used_up, read_only, expired, too_large}
use Rattle.api_errors.specs.declared.failures.Failure.{Failure}

-- why the log refuses a write to the object of this name
abbrev pub write_told : Resource → List ℕ → WriteNo → Option Failure
write_told resource name (write.Exists at present) = Some (already_exists resource name)
write_told resource name (write.Absent at) = Some (not_found resource name)
write_told resource name (write.Stale at given present) = Some (conflict resource name present given)
write_told resource name (write.UsedUp at) = Some revisions_used_up
write_told resource name (write.ReadOnly at) = Some read_only
write_told resource name write.Memory = None

-- a transaction is refused as one of its writes would be by itself
abbrev pub write_of : TxWriteNo → WriteNo
write_of (transaction.Item index fault) = fault
write_of (transaction.UsedUp at) = write.UsedUp at
write_of (transaction.ReadOnly at) = write.ReadOnly at
write_of transaction.Memory = write.Memory

-- why an operation is refused: for its revision, or as the feeds can't be cut again
abbrev pub operation_told : OpNo → Option Failure
operation_told (operation.Compacted asked floor) = Some (expired asked floor)
operation_told (operation.Future asked current) = Some (too_large asked current)
operation_told (operation.UsedUp at) = Some revisions_used_up
operation_told operation.Memory = None
