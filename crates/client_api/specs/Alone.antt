-- A log that nobody else holds, of a client that knows it whole: what each call makes of the log, its floor and its
-- generation. After want of memory the log is as it was or with what was asked, and no more is said.
use Rattle.std.specs.Prelude.{◌≡◌, ℕ, ◌⊎◌, Bool, List, [], ◌∷◌, ◌++◌, All, Some, None, Result, Ok, Err}
use Rattle.std.specs.declared.alloc.AllocError.{AllocError}
use Rattle.kube_meta.specs.Rows.{RowData}
use Rattle.rev_front.specs.Passes.{Pass, Whole, end_from}
use Rattle.rev_log.specs.Changes.{RevisionData}
use Rattle.up_api.specs.Sections.{log_of}
use Rattle.up_store.specs.declared.writes.WriteAsk.{WriteAsk}
use Rattle.up_store.specs.declared.writes.WriteNo.{WriteNo}
use Rattle.up_store.specs.declared.writes.WriteNo.TheVariants as write_no
use Rattle.up_store.specs.declared.writes.Written.{Written}
use Rattle.up_store.specs.declared.transactions.TxWriteNo.{TxWriteNo}
use Rattle.up_store.specs.declared.transactions.TxWriteNo.TheVariants as tx_no
use Rattle.up_store.specs.declared.operations.Operate.{Operate}
use Rattle.up_store.specs.declared.operations.Operate.TheVariants.{Cut, Compact, Restart, Disconnect}
use Rattle.up_store.specs.declared.operations.OpNo.{OpNo}
use Rattle.up_store.specs.declared.operations.OpNo.TheVariants as op_no
use Rattle.up_store.specs.Stores.{accepted, IsCutAnswer, IsCompactionAnswer}
use Rattle.up_store.specs.Transacting.{tx_refusal_of, IsRevisionOf, AreWritten}
use Rattle.up_store.specs.Writes.{refusal_of, write_of, IsWriteAnswer}
use Rattle.client_api.specs.declared.answers.ListNo.{ListNo}
use Rattle.client_api.specs.declared.answers.ListNo.TheVariants as list_no

-- the log, its floor and its generation, as a pass knows them that knows the whole log
abbrev pub known : Pass RevisionData → Whole RevisionData
known p = record { first = p.first; log = p.seen; gen = p.gen; floor = p.floor }

-- some loads were made, each of which gave the end of the log that is known then
pub record LoadsEnd (p q : Pass RevisionData) : Type 0 where
  pub more : List ℕ
  pub loads : q.loads ≡ p.loads ++ more
  pub ends : All (λ load. load ≡ end_from q.first q.seen) more

-- ---- reads change nothing

-- nothing was written: the log, its floor and its generation are as they were, and each load gave the log's end
pub record IsSoleRead (p q : Pass RevisionData) : Type 0 where
  pub same : known q ≡ known p
  pub loads : LoadsEnd p q

-- a list, a get or the start of a watch
abbrev pub SoleRead : {A : Type 0} → Pass RevisionData → Result A ListNo → Pass RevisionData → Type 0
SoleRead p (Err list_no.Memory) q = q.seen ≡ p.seen
SoleRead p answer q = IsSoleRead p q

-- a turn of a watch, or metrics
abbrev pub SoleTake : {A : Type 0} → Pass RevisionData → Result A AllocError → Pass RevisionData → Type 0
SoleTake p (Ok took) q = IsSoleRead p q
SoleTake p (Err memory) q = q.seen ≡ p.seen

-- ---- writes are done exactly where nothing refuses them

-- the write was done although want of memory came before its answer: nothing refused it, and the log ends with it
pub record IsDoneUnheard (base : List RowData) (mirror : Bool) (p : Pass RevisionData) (ask : WriteAsk) (q : Pass RevisionData) : Type 0 where
  pub unrefused : refusal_of mirror (log_of base p) ask ≡ None
  pub done : q.seen ≡ p.seen ++ write_of (log_of base p) ask ∷ []

-- what a write makes of the log, as it answers; after want of memory the log is as it was or with the write
abbrev pub SoleWrite : List RowData → Bool → ℕ → Pass RevisionData → WriteAsk → Result Written WriteNo → Pass RevisionData → Type 0
SoleWrite base mirror history p ask (Err write_no.Memory) q = (q.seen ≡ p.seen) ⊎ IsDoneUnheard base mirror p ask q
SoleWrite base mirror history p ask answer q = IsWriteAnswer base mirror history ask (known p) (known q) answer × LoadsEnd p q

-- a transaction was done: nothing refused it, and the log ends with its revision, which has all its writes
pub record IsTxDone (base : List RowData) (mirror : Bool) (history : ℕ) (p : Pass RevisionData) (asks : List WriteAsk) (w : Whole RevisionData) : Type 0 where
  pub revision : RevisionData
  pub unrefused : tx_refusal_of mirror (log_of base p) asks ≡ None
  pub revision_is : IsRevisionOf (log_of base p) asks revision
  pub done : w ≡ accepted history (known p) revision

-- the transaction was done although want of memory came before its answer
pub record IsTxDoneUnheard (base : List RowData) (mirror : Bool) (history : ℕ) (p : Pass RevisionData) (asks : List WriteAsk) (q : Pass RevisionData) : Type 0 where
  pub after : Whole RevisionData
  pub is_done : IsTxDone base mirror history p asks after
  pub seen : q.seen ≡ after.log

-- what a transaction makes of the log, as it answers; after want of memory the log is as it was or with all of it
abbrev pub SoleTransact : List RowData → Bool → ℕ → Pass RevisionData → List WriteAsk → Result (List Written) TxWriteNo → Pass RevisionData → Type 0
SoleTransact base mirror history p asks (Ok answers) q =
    IsTxDone base mirror history p asks (known q) × AreWritten (log_of base p) asks answers × LoadsEnd p q
SoleTransact base mirror history p asks (Err tx_no.Memory) q =
    (q.seen ≡ p.seen) ⊎ IsTxDoneUnheard base mirror history p asks q
SoleTransact base mirror history p asks (Err fault) q =
    (tx_refusal_of mirror (log_of base p) asks ≡ Some fault) × IsSoleRead p q

-- ---- operations

-- what an operation makes of the log, its floor and its generation, and what it answers; a restart and a disconnection
-- change none of them
abbrev pub IsSoleOperation : Operate → Whole RevisionData → Result ℕ OpNo → Whole RevisionData → Type 0
IsSoleOperation Cut w answer after = IsCutAnswer w after answer
IsSoleOperation (Compact at) w answer after = IsCompactionAnswer at w after answer
IsSoleOperation Restart w answer after = after ≡ w
IsSoleOperation Disconnect w answer after = after ≡ w

-- what an operation makes of the log, as it answers; after want of memory no more is said than that the log is the same
abbrev pub SoleOperate : Pass RevisionData → Operate → Result ℕ OpNo → Pass RevisionData → Type 0
SoleOperate p ask (Err op_no.Memory) q = q.seen ≡ p.seen
SoleOperate p ask answer q = IsSoleOperation ask (known p) answer (known q) × LoadsEnd p q
