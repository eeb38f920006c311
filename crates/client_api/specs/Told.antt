-- Answers that aren't want of memory.
use Rattle.std.specs.Prelude.{Result, Err}
use Rattle.up_store.specs.declared.writes.WriteNo.{WriteNo}
use Rattle.up_store.specs.declared.writes.WriteNo.TheVariants as write_no
use Rattle.up_store.specs.declared.transactions.TxWriteNo.{TxWriteNo}
use Rattle.up_store.specs.declared.transactions.TxWriteNo.TheVariants as tx_no
use Rattle.up_store.specs.declared.operations.OpNo.{OpNo}
use Rattle.up_store.specs.declared.operations.OpNo.TheVariants as op_no
use Rattle.client_api.specs.declared.answers.ListNo.{ListNo}
use Rattle.client_api.specs.declared.answers.ListNo.TheVariants as list_no

-- a get, a list or the start of a watch was answered or refused; want of memory is neither, and isn't told
abbrev pub IsToldRead : {A : Type 0} → Result A ListNo → Type 0
IsToldRead (Err list_no.Memory) = ⊥
IsToldRead answer = Unit {0}

-- a write was accepted or refused; after want of memory, which isn't told, it may be done or not
abbrev pub IsToldWrite : {A : Type 0} → Result A WriteNo → Type 0
IsToldWrite (Err write_no.Memory) = ⊥
IsToldWrite answer = Unit {0}

-- a transaction was accepted or refused; after want of memory, which isn't told, all of it may be done or nothing
abbrev pub IsToldTx : {A : Type 0} → Result A TxWriteNo → Type 0
IsToldTx (Err tx_no.Memory) = ⊥
IsToldTx answer = Unit {0}

-- an operation was done or refused; want of memory is neither, and isn't told
abbrev pub IsToldOperation : {A : Type 0} → Result A OpNo → Type 0
IsToldOperation (Err op_no.Memory) = ⊥
IsToldOperation answer = Unit {0}
