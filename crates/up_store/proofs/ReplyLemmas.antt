-- What the store answers, as the pass that it met tells it.
use Rattle.std.proofs.Common.{◌≡◌, ℕ, ◌+◌, ◌≤◌, Bool, List, Some, Result, Ok, Err, IfOk, sym, ap, ◌∙◌, subst, arith}
use Rattle.kube_meta.specs.Rows.{RowData}
use Rattle.rev_front.specs.Passes.{Pass, Whole, revision as reached}
use Rattle.rev_log.specs.Changes.{RevisionData}
use Rattle.rev_log.specs.Logs.{Log, end_of}
use Rattle.rev_log.proofs.GrowthLemmas.{upto-end}
use Rattle.up_api.specs.Sections.{log_of, log_upto}
use Rattle.up_store.specs.declared.hearing.HearNo.{HearNo}
use Rattle.up_store.specs.declared.hearing.HearNo.TheVariants as hear_no
use Rattle.up_store.specs.declared.transactions.TxWriteNo.{TxWriteNo}
use Rattle.up_store.specs.declared.transactions.TxWriteNo.TheVariants as tx_no
use Rattle.up_store.specs.declared.writes.WriteAsk.{WriteAsk}
use Rattle.up_store.specs.declared.writes.WriteNo.{WriteNo}
use Rattle.up_store.specs.declared.writes.WriteNo.TheVariants as write_no
use Rattle.up_store.specs.declared.writes.Written.{Written}
use Rattle.up_store.specs.Hearing.{IsHeard, IsHearAnswer, AreHeard, IsAddAnswer, IsAnewAnswer, IsFollowReply, IsAnewReply, extended, filled}
use Rattle.up_store.specs.Replies.{IsKnown, IsWriteRefused, IsTxRefused, IsWriteReply, IsTransactionReply}
use Rattle.up_store.specs.Stores.{HasMet, log_in}
use Rattle.up_store.specs.Transacting.{tx_refusal_of, IsTransactionAnswer}
use Rattle.up_store.specs.Writes.{refusal_of, IsWriteAnswer}
use Rattle.up_store.proofs.StoreLemmas.{met-log}

-- the whole log up to its end is the log
log-upto-end : (base : List RowData) (q : Pass RevisionData) → log_upto base q (end_of (log_of base q)) ≡ log_of base q
log-upto-end base q = ap (λ xs. record (log_of base q) { revisions = xs }) (upto-end (log_of base q) (end_of (log_of base q)) (omega arith))

-- the store met the pass, did its work, and met it again
module _ (base : List RowData) (was w after : Whole RevisionData) (p m q : Pass RevisionData) (same : w ≡ was) (one : HasMet was p m)
    (two : HasMet after m q) where
  shown : p.shown ≤ end_of (log_in base w)
  shown = subst (λ (v : Whole RevisionData). p.shown ≤ end_of (log_in base v)) (sym same) one.covered.shown

  stayed : after ≡ w → log_of base q ≡ log_in base w
  stayed still = met-log base after m q two ∙ ap (log_in base) still

  known : after ≡ w → IsKnown p (end_of (log_of base q)) q
  known still = record { shown = subst (λ (l : Log). p.shown ≤ end_of l) (sym (stayed still)) shown; seen = omega arith }

  module _ (mirror : Bool) (history : ℕ) (ask : WriteAsk) where
    refused : (fault : WriteNo) → after ≡ w → refusal_of mirror (log_in base w) ask ≡ Some fault → IsWriteRefused base mirror p ask fault q
    refused fault same is = record {
      at = end_of (log_of base q);
      known = known same;
      refused = ap (λ l. refusal_of mirror l ask) (log-upto-end base q ∙ stayed same) ∙ is;
    }

    pub write-replied : (answer : Result Written WriteNo) → IsWriteAnswer base mirror history ask w after answer → IsWriteReply base mirror p ask answer q
    write-replied (Ok written) is = record {
      before = log_in base w;
      shown = shown;
      unrefused = is.0;
      written_is = is.1;
      committed = met-log base after m q two ∙ ap (log_in base) is.2;
    }
    write-replied (Err write_no.Memory) is = tt
    write-replied (Err (write_no.Exists at present)) is = refused (write_no.Exists at present) is.1 is.0
    write-replied (Err (write_no.Absent at)) is = refused (write_no.Absent at) is.1 is.0
    write-replied (Err (write_no.Stale at given present)) is = refused (write_no.Stale at given present) is.1 is.0
    write-replied (Err (write_no.UsedUp at)) is = refused (write_no.UsedUp at) is.1 is.0
    write-replied (Err (write_no.ReadOnly at)) is = refused (write_no.ReadOnly at) is.1 is.0

  module _ (mirror : Bool) (history : ℕ) (asks : List WriteAsk) where
    tx-refused : (fault : TxWriteNo) → after ≡ w → tx_refusal_of mirror (log_in base w) asks ≡ Some fault → IsTxRefused base mirror p asks fault q
    tx-refused fault same is = record {
      at = end_of (log_of base q);
      known = known same;
      refused = ap (λ l. tx_refusal_of mirror l asks) (log-upto-end base q ∙ stayed same) ∙ is;
    }

    pub transaction-replied : (answer : Result (List Written) TxWriteNo) → IsTransactionAnswer base mirror history asks w after answer →
        IsTransactionReply base mirror p asks answer q
    transaction-replied (Ok answers) is = record {
      before = log_in base w;
      revision = is.2.0;
      shown = shown;
      unrefused = is.0;
      written_are = is.1;
      revision_is = is.2.1;
      committed = met-log base after m q two ∙ ap (log_in base) is.2.2;
    }
    transaction-replied (Err tx_no.Memory) is = tt
    transaction-replied (Err (tx_no.Item index fault)) is = tx-refused (tx_no.Item index fault) is.1 is.0
    transaction-replied (Err (tx_no.UsedUp at)) is = tx-refused (tx_no.UsedUp at) is.1 is.0
    transaction-replied (Err (tx_no.ReadOnly at)) is = tx-refused (tx_no.ReadOnly at) is.1 is.0

  -- ---- revisions of a peer

  pub hear-replied : {E : Type 0} (history : ℕ) (revision : RevisionData) (answer : Result ℕ E) → revision.rev ≡ reached w + 1 →
      IsHearAnswer history revision w after answer →
      IfOk answer (λ rev. IsHeard base p revision rev q)
  hear-replied history revision (Ok rev) next is = record {
    before = log_in base w;
    shown = shown;
    number = is.0;
    next = next;
    committed = met-log base after m q two ∙ ap (log_in base) is.1;
  }
  hear-replied history revision (Err memory) next is = tt

  module _ (from : ℕ) (revisions : List RevisionData) (to floor : ℕ) where
    heard_all : from ≡ reached w → after ≡ extended w (filled from revisions to) floor → AreHeard base p from revisions to q
    heard_all end is = record { before = log_in base w; shown = shown; follow = end; committed = met-log base after m q two ∙ ap (log_in base) is }

    pub follow-replied : (answer : Result ℕ HearNo) → IsAddAnswer from to w (extended w (filled from revisions to) floor) after answer → IsFollowReply base p from revisions to answer q
    follow-replied (Ok end) is = (is.1, heard_all is.0 is.2)
    follow-replied (Err (hear_no.Passed at)) is = (is.0 ∙ sym (ap end_of (stayed is.2)), omega (arith, shown, is.0), is.1)
    follow-replied (Err hear_no.Memory) is = tt

  pub anew-replied : (from : ℕ) (revisions : List RevisionData) (to : ℕ) (answer : Result ℕ HearNo) → IsAnewAnswer from revisions to w after answer → IsAnewReply base p from revisions to answer q
  anew-replied from revisions to (Ok end) is = (is.1, heard_all from revisions to to is.0 is.2, ap (λ x. x.floor) two.is ∙ ap (λ v. v.floor) is.2)
  anew-replied from revisions to (Err (hear_no.Passed at)) is = follow-replied from revisions to to (Err (hear_no.Passed at)) is
  anew-replied from revisions to (Err hear_no.Memory) is = tt
