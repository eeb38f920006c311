-- Of a log that nobody else holds, writes, transactions and operations have one answer, and leave one log.
use Rattle.std.specs.Prelude.{Result, Ok, Err}
use Rattle.std.proofs.Common.{◌≡◌, ℕ, ◌≤◌, ◌^◌, Bool, List, [], ◌∷◌, Some, refl, ap, sym, ◌∙◌, subst, arith}
use Rattle.kube_meta.specs.Rows.{RowData}
use Rattle.rev_front.specs.Passes.{Pass, IsPass, Whole, revision}
use Rattle.rev_log.specs.Changes.{RevisionData}
use Rattle.rev_log.specs.Logs.{Log, Fits}
use Rattle.up_store.specs.Replies.{IsOperationReply}
use Rattle.up_store.specs.Stores.{accepted, log_in, IsCutAnswer, IsCompactionAnswer}
use Rattle.up_store.specs.Transacting.{tx_refusal_of, AreWritten, IsTransactionAnswer}
use Rattle.up_store.specs.Writes.{refusal_of, IsWritten, IsWriteAnswer}
use Rattle.up_store.specs.declared.operations.Operate.{Operate}
use Rattle.up_store.specs.declared.operations.Operate.TheVariants.{Cut, Compact, Restart, Disconnect}
use Rattle.up_store.specs.declared.operations.OpNo.{OpNo}
use Rattle.up_store.specs.declared.operations.OpNo.TheVariants as op_no
use Rattle.up_store.specs.declared.transactions.TxWriteNo.{TxWriteNo}
use Rattle.up_store.specs.declared.transactions.TxWriteNo.TheVariants as tx_no
use Rattle.up_store.specs.declared.writes.WriteAsk.{WriteAsk}
use Rattle.up_store.specs.declared.writes.WriteNo.{WriteNo}
use Rattle.up_store.specs.declared.writes.WriteNo.TheVariants as write_no
use Rattle.up_store.specs.declared.writes.Written.{Written}
use Rattle.up_store.proofs.OrderLemmas.{revisions_are_one}
use Rattle.client_api.specs.Alone.{known, SoleWrite, SoleTransact, SoleOperate, IsSoleOperation}
use Rattle.client_api.specs.Told.{IsToldWrite, IsToldTx, IsToldOperation}
use Rattle.laws.specs.Determined.{IsSound}
use Rattle.laws.proofs.WriteLemmas.{none_is_some, same_some}

-- ---- writes

one-written : (log : Log) (ask : WriteAsk) (a b : Written) → IsWritten log ask a → IsWritten log ask b → b ≡ a
one-written log ask a b is is' =
    let rev : b.rev ≡ a.rev = is'.number ∙ sym is.number in
    let row : b.row.rev ≡ a.row.rev = is'.row_number ∙ rev ∙ sym is.row_number in
    let obj : b.row.obj ≡ a.row.obj = same_some b.row.obj a.row.obj (is'.object ∙ sym is.object) in
    λ i. record { rev = rev i; row = record { obj = obj i; rev = row i } }

module _ (base : List RowData) (mirror : Bool) (history : ℕ) (w : Whole RevisionData) where
  pub write_refused : (ask : WriteAsk) (after : Whole RevisionData) (fault : WriteNo) → IsToldWrite {A = Written} (Err fault) → IsWriteAnswer base mirror history ask w after (Err fault) →
      (refusal_of mirror (log_in base w) ask ≡ Some fault) × (after ≡ w)
  write_refused ask after (write_no.Exists at present) told is = is
  write_refused ask after (write_no.Absent at) told is = is
  write_refused ask after (write_no.Stale at given present) told is = is
  write_refused ask after (write_no.UsedUp at) told is = is
  write_refused ask after (write_no.ReadOnly at) told is = is
  write_refused ask after write_no.Memory told is = absurd told

  pub one_write : (ask : WriteAsk) (x y : Whole RevisionData) (a b : Result Written WriteNo) → IsToldWrite a → IsToldWrite b →
      IsWriteAnswer base mirror history ask w x a → IsWriteAnswer base mirror history ask w y b → (b ≡ a) × (y ≡ x)
  one_write ask x y (Ok a) (Ok b) told told' is is' = (ap Ok (one-written (log_in base w) ask a b is.1 is'.1), is'.2 ∙ sym is.2)
  one_write ask x y (Ok a) (Err fault) told told' is is' = absurd (none_is_some fault (sym is.0 ∙ (write_refused ask y fault told' is').0))
  one_write ask x y (Err fault) (Ok b) told told' is is' = absurd (none_is_some fault (sym is'.0 ∙ (write_refused ask x fault told is).0))
  one_write ask x y (Err fault) (Err other) told told' is is' =
      let first = write_refused ask x fault told is in
      let second = write_refused ask y other told' is' in
      (ap Err (same_some other fault (sym second.0 ∙ first.0)), second.1 ∙ sym first.1)

  -- ---- transactions

  pub tx_refused : (asks : List WriteAsk) (after : Whole RevisionData) (fault : TxWriteNo) → IsToldTx {A = List Written} (Err fault) → IsTransactionAnswer base mirror history asks w after (Err fault) →
      (tx_refusal_of mirror (log_in base w) asks ≡ Some fault) × (after ≡ w)
  tx_refused asks after (tx_no.Item index fault) told is = is
  tx_refused asks after (tx_no.UsedUp at) told is = is
  tx_refused asks after (tx_no.ReadOnly at) told is = is
  tx_refused asks after tx_no.Memory told is = absurd told

  all-written : (log : Log) (asks : List WriteAsk) (xs ys : List Written) → AreWritten log asks xs → AreWritten log asks ys → ys ≡ xs
  all-written log [] [] [] is is' = refl
  all-written log [] [] (y ∷ ys) is is' = absurd is'
  all-written log [] (x ∷ xs) ys is is' = absurd is
  all-written log (ask ∷ asks) [] ys is is' = absurd is
  all-written log (ask ∷ asks) (x ∷ xs) [] is is' = absurd is'
  all-written log (ask ∷ asks) (x ∷ xs) (y ∷ ys) is is' =
      let head : y ≡ x = one-written log ask x y is.0 is'.0 in
      let tail : ys ≡ xs = all-written log asks xs ys is.1 is'.1 in
      λ i. head i ∷ tail i

  pub one_transaction : (asks : List WriteAsk) (x y : Whole RevisionData) (a b : Result (List Written) TxWriteNo) → IsToldTx a → IsToldTx b →
      IsTransactionAnswer base mirror history asks w x a → IsTransactionAnswer base mirror history asks w y b → (b ≡ a) × (y ≡ x)
  one_transaction asks x y (Ok a) (Ok b) told told' is is' =
      let one : is'.2.0 ≡ is.2.0 = revisions_are_one (log_in base w) asks is'.2.0 is.2.0 is'.2.1 is.2.1 in
      (ap Ok (all-written (log_in base w) asks a b is.1 is'.1), is'.2.2 ∙ ap (accepted history w) one ∙ sym is.2.2)
  one_transaction asks x y (Ok a) (Err fault) told told' is is' = absurd (none_is_some fault (sym is.0 ∙ (tx_refused asks y fault told' is').0))
  one_transaction asks x y (Err fault) (Ok b) told told' is is' = absurd (none_is_some fault (sym is'.0 ∙ (tx_refused asks x fault told is).0))
  one_transaction asks x y (Err fault) (Err other) told told' is is' =
      let first = tx_refused asks x fault told is in
      let second = tx_refused asks y other told' is' in
      (ap Err (same_some other fault (sym second.0 ∙ first.0)), second.1 ∙ sym first.1)

-- what a client says of a write is what the store says
pub as_written : (base : List RowData) (mirror : Bool) (history : ℕ) (p q : Pass RevisionData) (ask : WriteAsk) (a : Result Written WriteNo) →
    IsToldWrite a → SoleWrite base mirror history p ask a q → IsWriteAnswer base mirror history ask (known p) (known q) a
as_written base mirror history p q ask (Ok a) told is = is.0
as_written base mirror history p q ask (Err (write_no.Exists at present)) told is = is.0
as_written base mirror history p q ask (Err (write_no.Absent at)) told is = is.0
as_written base mirror history p q ask (Err (write_no.Stale at given present)) told is = is.0
as_written base mirror history p q ask (Err (write_no.UsedUp at)) told is = is.0
as_written base mirror history p q ask (Err (write_no.ReadOnly at)) told is = is.0
as_written base mirror history p q ask (Err write_no.Memory) told is = absurd told

-- and so of a transaction
pub as_answered : (base : List RowData) (mirror : Bool) (history : ℕ) (p q : Pass RevisionData) (asks : List WriteAsk) (a : Result (List Written) TxWriteNo) → IsToldTx a →
    SoleTransact base mirror history p asks a q → IsTransactionAnswer base mirror history asks (known p) (known q) a
as_answered base mirror history p q asks (Ok a) told is = (is.0.unrefused, is.1, (is.0.revision, is.0.revision_is, is.0.done))
as_answered base mirror history p q asks (Err (tx_no.Item index fault)) told is = (is.0, is.1.same)
as_answered base mirror history p q asks (Err (tx_no.UsedUp at)) told is = (is.0, is.1.same)
as_answered base mirror history p q asks (Err (tx_no.ReadOnly at)) told is = (is.0, is.1.same)
as_answered base mirror history p q asks (Err tx_no.Memory) told is = absurd told

-- ---- operations

pub one_cut : (w x y : Whole RevisionData) (a b : Result ℕ OpNo) → x.gen ≤ 2 ^ 62 → y.gen ≤ 2 ^ 62 → IsCutAnswer w x a → IsCutAnswer w y b → (b ≡ a) × (y ≡ x)
one_cut w x y a (Err (op_no.Compacted asked floor)) low low' is is' = absurd is'
one_cut w x y a (Err (op_no.Future asked current)) low low' is is' = absurd is'
one_cut w x y a (Err op_no.Memory) low low' is is' = absurd is'
one_cut w x y (Ok m) (Ok n) low low' is is' =
    let one : n ≡ m = is'.0 ∙ sym is.0 in
    (ap (λ (k : ℕ). Ok k) one, is'.1 ∙ ap (λ (k : ℕ). record w { gen = k }) one ∙ sym is.1)
one_cut w x y (Ok m) (Err (op_no.UsedUp at)) low low' is is' =
    absurd (omega (arith, is.0, low, ap (λ (z : Whole RevisionData). z.gen) is.1, is'.1))
one_cut w x y (Err (op_no.UsedUp at)) (Ok n) low low' is is' =
    absurd (omega (arith, is'.0, low', ap (λ (z : Whole RevisionData). z.gen) is'.1, is.1))
one_cut w x y (Err (op_no.UsedUp at)) (Err (op_no.UsedUp other)) low low' is is' =
    (ap (λ (k : ℕ). Err (op_no.UsedUp k)) (is'.0 ∙ sym is.0), is'.2 ∙ sym is.2)
one_cut w x y (Err (op_no.Compacted asked floor)) b low low' is is' = absurd is
one_cut w x y (Err (op_no.Future asked current)) b low low' is is' = absurd is
one_cut w x y (Err op_no.Memory) b low low' is is' = absurd is

pub one_compaction : (at : ℕ) (w x y : Whole RevisionData) (a b : Result ℕ OpNo) → w.floor ≤ revision w →
    IsCompactionAnswer at w x a → IsCompactionAnswer at w y b → (b ≡ a) × (y ≡ x)
one_compaction at w x y a (Err (op_no.UsedUp n)) low is is' = absurd is'
one_compaction at w x y a (Err op_no.Memory) low is is' = absurd is'
one_compaction at w x y (Ok m) (Ok n) low is is' = (ap (λ (k : ℕ). Ok k) (is'.0 ∙ sym is.0), is'.3 ∙ sym is.3)
one_compaction at w x y (Ok m) (Err (op_no.Compacted asked floor)) low is is' = absurd (omega (arith, is.1, is'.0, is'.1, is'.2))
one_compaction at w x y (Ok m) (Err (op_no.Future asked current)) low is is' = absurd (omega (arith, is.2, is'.0, is'.1, is'.2))
one_compaction at w x y (Err (op_no.Compacted asked floor)) (Ok n) low is is' = absurd (omega (arith, is'.1, is.0, is.1, is.2))
one_compaction at w x y (Err (op_no.Compacted asked floor)) (Err (op_no.Compacted other n)) low is is' =
    let first : other ≡ asked = is'.0 ∙ sym is.0 in
    let second : n ≡ floor = is'.1 ∙ sym is.1 in
    ((λ i. Err (op_no.Compacted (first i) (second i))), is'.3 ∙ sym is.3)
one_compaction at w x y (Err (op_no.Compacted asked floor)) (Err (op_no.Future other current)) low is is' =
    absurd (omega (arith, low, is.0, is.1, is.2, is'.0, is'.1, is'.2))
one_compaction at w x y (Err (op_no.Future asked current)) (Ok n) low is is' = absurd (omega (arith, is'.2, is.0, is.1, is.2))
one_compaction at w x y (Err (op_no.Future asked current)) (Err (op_no.Compacted other n)) low is is' =
    absurd (omega (arith, low, is'.0, is'.1, is'.2, is.0, is.1, is.2))
one_compaction at w x y (Err (op_no.Future asked current)) (Err (op_no.Future other later)) low is is' =
    let first : other ≡ asked = is'.0 ∙ sym is.0 in
    let second : later ≡ current = is'.1 ∙ sym is.1 in
    ((λ i. Err (op_no.Future (first i) (second i))), is'.3 ∙ sym is.3)
one_compaction at w x y (Err (op_no.UsedUp n)) b low is is' = absurd is
one_compaction at w x y (Err op_no.Memory) b low is is' = absurd is

-- a restart is done, and answers the floor; so is a disconnection, whose reply is the same
restarted : (p q : Pass RevisionData) (a : Result ℕ OpNo) → IsToldOperation a → IsOperationReply p Restart a q → q.floor ≡ p.floor → a ≡ Ok p.floor
restarted p q (Ok n) told is same = ap (λ (k : ℕ). Ok k) (omega (arith, is.0, is.1, same))
restarted p q (Err (op_no.Compacted asked floor)) told is same = absurd is
restarted p q (Err (op_no.Future asked current)) told is same = absurd is
restarted p q (Err (op_no.UsedUp at)) told is same = absurd is
restarted p q (Err op_no.Memory) told is same = absurd told

-- what an operation makes of the log, whatever it answers but want of memory
pub made_of : (p q : Pass RevisionData) (ask : Operate) (a : Result ℕ OpNo) → IsToldOperation a → SoleOperate p ask a q → IsSoleOperation ask (known p) a (known q)
made_of p q ask (Ok n) told is = is.0
made_of p q ask (Err (op_no.Compacted asked floor)) told is = is.0
made_of p q ask (Err (op_no.Future asked current)) told is = is.0
made_of p q ask (Err (op_no.UsedUp at)) told is = is.0
made_of p q ask (Err op_no.Memory) told is = absurd told

module _ (p q o r : Pass RevisionData) (sound : IsSound p) (lawful : IsPass Fits q) (lawful' : IsPass Fits r) (same : known o ≡ known p) where
  pub one_operation : (ask : Operate) (a b : Result ℕ OpNo) → IsToldOperation a → IsToldOperation b → IsOperationReply p ask a q → IsOperationReply o ask b r →
      SoleOperate p ask a q → SoleOperate o ask b r → (b ≡ a) × (known r ≡ known q)
  one_operation Cut a b told told' is is' sole sole' =
      one_cut (known p) (known q) (known r) a b lawful.bounded.2 lawful'.bounded.2 (made_of p q Cut a told sole)
      (subst (λ (w : Whole RevisionData). IsCutAnswer w (known r) b) same (made_of o r Cut b told' sole'))
  one_operation (Compact at) a b told told' is is' sole sole' =
      one_compaction at (known p) (known q) (known r) a b sound.floor (made_of p q (Compact at) a told sole)
      (subst (λ (w : Whole RevisionData). IsCompactionAnswer at w (known r) b) same (made_of o r (Compact at) b told' sole'))
  one_operation Disconnect a b told told' is is' sole sole' =
      let first : known q ≡ known p = made_of p q Disconnect a told sole in
      let second : known r ≡ known o = made_of o r Disconnect b told' sole' in
      let floors : o.floor ≡ p.floor = ap (λ (w : Whole RevisionData). w.floor) same in (
        restarted o r b told' is' (ap (λ (w : Whole RevisionData). w.floor) second) ∙ ap (λ (k : ℕ). Ok k) floors ∙ sym (restarted p q a told is (ap (λ (w : Whole RevisionData). w.floor) first)),
        second ∙ same ∙ sym first,
      )
  one_operation Restart a b told told' is is' sole sole' =
      let first : known q ≡ known p = made_of p q Restart a told sole in
      let second : known r ≡ known o = made_of o r Restart b told' sole' in
      let floors : o.floor ≡ p.floor = ap (λ (w : Whole RevisionData). w.floor) same in (
        restarted o r b told' is' (ap (λ (w : Whole RevisionData). w.floor) second) ∙ ap (λ (k : ℕ). Ok k) floors ∙ sym (restarted p q a told is (ap (λ (w : Whole RevisionData). w.floor) first)),
        second ∙ same ∙ sym first,
      )
