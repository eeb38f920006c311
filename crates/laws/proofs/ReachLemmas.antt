-- What refusals of reads, watches and operations tell, and that what is in reach isn't refused.
use Rattle.std.specs.Prelude.{Err}
use Rattle.std.proofs.Common.{◌≡◌, ℕ, inl, inr, Some, ap, sym, subst, arith}
use Rattle.rev_front.specs.Passes.{Pass, IsPass, Whole}
use Rattle.rev_log.specs.Changes.{RevisionData}
use Rattle.rev_log.specs.Logs.{Fits}
use Rattle.select_all.specs.declared.selection.Meaning.{Meaning}
use Rattle.select_all.specs.declared.selection.Meaning.TheVariants.{MostRecent, Any, NotOlder, Exact}
use Rattle.select_all.specs.Floors.{IsEvicted}
use Rattle.up_store.specs.Replies.{IsOperationReply}
use Rattle.up_store.specs.declared.operations.Operate.{Operate}
use Rattle.up_store.specs.declared.operations.Operate.TheVariants.{Cut, Compact, Restart, Disconnect}
use Rattle.up_store.specs.declared.operations.OpNo.{OpNo}
use Rattle.up_store.specs.declared.operations.OpNo.TheVariants.{Compacted, Future, UsedUp, Memory}
use Rattle.watch_rules.specs.declared.ask.WatchAsk.{WatchAsk}
use Rattle.watch_rules.specs.declared.starts.Start.{Start}
use Rattle.watch_rules.specs.declared.starts.Start.TheVariants.{FromState, FromHere, FromRevision}
use Rattle.client_api.specs.Alone.{known, SoleOperate}
use Rattle.client_api.specs.Refusals.{IsTooLarge, IsExpired}
use Rattle.client_api.specs.Starts.{meaning_of}
use Rattle.client_api.specs.Told.{IsToldOperation}
use Rattle.sess_turns.specs.Terms.{Terms}
use Rattle.laws.specs.Due.{IsInReach, IsKept, MayBeDone}
use Rattle.laws.specs.Hindered.{IsOutOfReach, IsCutOff, IsBarred}
use Rattle.laws.proofs.WriteLemmas.{none_is_some, same_some}

-- ---- reads

module _ (p q : Pass RevisionData) where
  pub too_large_there : (meaning : Meaning) (asked current : ℕ) → IsTooLarge p meaning asked current q → IsOutOfReach p meaning q
  too_large_there MostRecent asked current is = none_is_some asked is.named
  too_large_there Any asked current is = none_is_some asked is.named
  too_large_there (NotOlder other) asked current is =
      let same : other ≡ asked = same_some other asked is.named in
      (omega (arith, same, is.loaded.1, is.current_is, is.above), omega (arith, same, is.current_is, is.above))
  too_large_there (Exact other) asked current is =
      let same : other ≡ asked = same_some other asked is.named in
      inl (omega (arith, same, is.loaded.1, is.current_is, is.above), omega (arith, same, is.current_is, is.above))

  pub expired_there : (meaning : Meaning) (asked floor : ℕ) → IsExpired meaning asked floor q → IsOutOfReach p meaning q
  expired_there meaning asked floor is =
      subst (λ (m : Meaning). IsOutOfReach p m q) (sym is.exact) (inr (omega (arith, is.below, is.known)))

  -- what is in reach isn't out of reach, where the floor stays
  pub reach_clash : (meaning : Meaning) → IsPass Fits p → q.floor ≡ p.floor → IsInReach p meaning → IsOutOfReach p meaning q → ⊥
  reach_clash MostRecent lawful floor in_reach out = out
  reach_clash Any lawful floor in_reach out = out
  reach_clash (NotOlder asked) lawful floor in_reach out = absurd (omega (arith, in_reach, lawful.within, out.0))
  reach_clash (Exact asked) lawful floor in_reach out = elim out [
    | inl ahead ↦ absurd (omega (arith, in_reach.0, lawful.within, ahead.0))
    | inr below ↦ absurd (omega (arith, in_reach.1, floor, below))
  ]

-- ---- watches

-- the meaning of a start is too large
pub start_too_large : (terms : Terms) (p q : Pass RevisionData) (ask : WatchAsk) (start : Start) (asked current : ℕ) →
    meaning_of start ≡ Some (NotOlder asked) → IsTooLarge p (NotOlder asked) asked current q → IsCutOff terms p ask start q
start_too_large terms p q ask (FromState meaning) asked current names is =
    subst (λ (m : Meaning). IsOutOfReach p m q) (sym (same_some meaning (NotOlder asked) names)) (too_large_there p q (NotOlder asked) asked current is)
start_too_large terms p q ask (FromHere meaning) asked current names is =
    subst (λ (m : Meaning). IsOutOfReach p m q) (sym (same_some meaning (NotOlder asked) names)) (too_large_there p q (NotOlder asked) asked current is)
start_too_large terms p q ask (FromRevision at) asked current names is = absurd (none_is_some (NotOlder asked) names)

-- a start that can be begun at isn't cut off, where the log is the same
pub start_clash : (terms : Terms) (p q : Pass RevisionData) (ask : WatchAsk) (start : Start) → IsPass Fits p → known q ≡ known p →
    IsKept terms p ask start → IsCutOff terms p ask start q → ⊥
start_clash terms p q ask (FromState meaning) lawful same kept cut = reach_clash p q meaning lawful (ap (λ (w : Whole RevisionData). w.floor) same) kept cut
start_clash terms p q ask (FromHere meaning) lawful same kept cut = reach_clash p q meaning lawful (ap (λ (w : Whole RevisionData). w.floor) same) kept cut
start_clash terms p q ask (FromRevision at) lawful same kept cut =
    kept cut.0 (subst (λ (w : Whole RevisionData). IsEvicted (record { first = w.first; base = terms.base; revisions = w.log }) w.floor terms.window ask.selection.resource at cut.0) same cut.1)

-- ---- operations

pub barred : (p q : Pass RevisionData) (ask : Operate) (fault : OpNo) → IsToldOperation {A = ℕ} (Err fault) → IsOperationReply p ask (Err fault) q → IsBarred p ask q
barred p q Cut (Compacted asked floor) told is = absurd is
barred p q Cut (Future asked current) told is = absurd is
barred p q Cut (UsedUp at) told is = is.1
barred p q Cut Memory told is = absurd told
barred p q (Compact at) (Compacted asked floor) told is = inr (omega (arith, is.0, is.1, is.2))
barred p q (Compact at) (Future asked current) told is = inl (omega (arith, is.0, is.1, is.2))
barred p q (Compact at) (UsedUp other) told is = absurd is
barred p q (Compact at) Memory told is = absurd told
barred p q Restart (Compacted asked floor) told is = is
barred p q Restart (Future asked current) told is = is
barred p q Restart (UsedUp at) told is = is
barred p q Restart Memory told is = told
barred p q Disconnect (Compacted asked floor) told is = is
barred p q Disconnect (Future asked current) told is = is
barred p q Disconnect (UsedUp at) told is = is
barred p q Disconnect Memory told is = told

-- an operation that can be done isn't refused
pub operation_clash : (p q : Pass RevisionData) (ask : Operate) (fault : OpNo) → MayBeDone p ask → IsToldOperation {A = ℕ} (Err fault) →
    IsOperationReply p ask (Err fault) q → SoleOperate p ask (Err fault) q → ⊥
operation_clash p q Cut (Compacted asked floor) may told is sole = is
operation_clash p q Cut (Future asked current) may told is sole = is
operation_clash p q Cut (UsedUp at) may told is sole = absurd (omega (arith, may, sole.0.1))
operation_clash p q Cut Memory may told is sole = told
operation_clash p q (Compact at) (Compacted asked floor) may told is sole = absurd (omega (arith, may.0, sole.0.0, sole.0.1, sole.0.2))
operation_clash p q (Compact at) (Future asked current) may told is sole = absurd (omega (arith, may.1, sole.0.0, sole.0.1, sole.0.2))
operation_clash p q (Compact at) (UsedUp other) may told is sole = is
operation_clash p q (Compact at) Memory may told is sole = told
operation_clash p q Restart (Compacted asked floor) may told is sole = is
operation_clash p q Restart (Future asked current) may told is sole = is
operation_clash p q Restart (UsedUp at) may told is sole = is
operation_clash p q Restart Memory may told is sole = told
operation_clash p q Disconnect (Compacted asked floor) may told is sole = is
operation_clash p q Disconnect (Future asked current) may told is sole = is
operation_clash p q Disconnect (UsedUp at) may told is sole = is
operation_clash p q Disconnect Memory may told is sole = told
