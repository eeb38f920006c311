use Rattle.std.proofs.Common.{refl, ap, ◌∙◌, Ok, arith}
use Rattle.std.specs.Prelude.{⊤}
use Rattle.sess_turns.proofs.AskLemmas.{facts-on, same-terms}
use Rattle.sess_turns.proofs.TurnLemmas.{so-first, turned-on, turned-ends, turned-breaks, turned-settled, spent-ends, spent-breaks}
use Rattle.sess_turns.proofs.turns.turns.Goals as goal

pub loop-init : goal.loop-init
loop-init g c = record {
  so = so-first _ _ _ _ _ _ _;
  few = omega arith;
  watching = c.requires.watching;
  same = refl;
  settled = c.requires.settled;
  heard = c.requires.heard;
  kept = λ w. w;
}

pub returns-in_err-ended-clause-stops : goal.returns-in_err-ended-clause-stops
returns-in_err-ended-clause-stops g c =
    let inv = c.loop.invariant in
    turned-breaks _ _ (same-terms _ _ _ (g.C.Client.facts c.args.client.now) _ inv.same) _ _ _ _ _ inv.kept _ _ _ _ _ c.loop.counter c.from_residual.result _ _ c.from_residual.ensures.1 (omega arith) inv.so c.in_err-ended.ensures.turned

pub returns-in_err-ended-clause-same : goal.returns-in_err-ended-clause-same
returns-in_err-ended-clause-same g c = facts-on (g.C.Client.facts c.args.client.now) _ _ c.in_err-ended.ensures.same c.loop.invariant.same

pub returns-in-Some-clause-stops : goal.returns-in-Some-clause-stops
returns-in-Some-clause-stops g c =
    let inv = c.loop.invariant in
    turned-ends _ _ (same-terms _ _ _ (g.C.Client.facts c.args.client.now) _ inv.same) _ _ _ _ _ inv.kept _ _ _ _ _ c.loop.counter c.in_ok-ended.ended c.in-Some.how _ c.in-Some.is (omega arith) inv.so c.in_ok-ended.ensures.turned

pub returns-in-Some-clause-same : goal.returns-in-Some-clause-same
returns-in-Some-clause-same g c = facts-on (g.C.Client.facts c.args.client.now) _ _ c.in_ok-ended.ensures.same c.loop.invariant.same

pub loop-preserved : goal.loop-preserved
loop-preserved g c =
    let inv = c.loop.invariant in
    let e = c.in_ok-ended.ensures in
    record {
      so = turned-on _ _ (same-terms _ _ _ (g.C.Client.facts c.args.client.now) _ inv.same) _ _ _ _ _ inv.kept _ _ _ _ _ c.loop.counter c.in_ok-ended.ended _ c.in-None.is inv.so e.turned;
      few = omega arith;
      watching = e.watching (ap Ok c.in-None.is);
      same = facts-on (g.C.Client.facts c.args.client.now) _ _ e.same inv.same;
      settled = turned-settled _ _ _ _ _ _ _ _ c.in_ok-ended.ended c.in-None.is e.turned;
      heard = e.heard;
      kept = λ w. e.kept (inv.kept w) (λ bad. absurd (cc bad));
    }

pub returns-in_err-end-clause-stops : goal.returns-in_err-end-clause-stops
returns-in_err-end-clause-stops g c =
    let inv = c.loop.invariant in
    spent-breaks _ _ _ _ _ _ _ _ _ _ c.loop.counter (omega (arith, inv.few)) ⊤ c.from_residual-in_err-end.result c.in_err-end.field-0.0 c.from_residual-in_err-end.ensures.1 inv.so refl c.in_err-end.ensures

pub returns-clause-stops : goal.returns-clause-stops
returns-clause-stops g c =
    let inv = c.loop.invariant in
    spent-ends _ _ _ _ _ _ _ _ _ _ c.loop.counter (omega (arith, inv.few)) inv.so refl c.in_ok-end.ensures
