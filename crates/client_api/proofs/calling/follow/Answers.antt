use Rattle.std.proofs.Common.{ap, sym, ◌∙◌, subst}
use Rattle.client_api.specs.Laws.{position_after, IsLasting}
use Rattle.client_api.proofs.LawLemmas.{onwards_do_join}
use Rattle.client_api.proofs.CallingLemmas.{goes-first, goes-on, goes-last}
use Rattle.client_api.proofs.calling.follow.Goals.{in-Events, in-Quiet}
use Rattle.client_api.proofs.calling.follow.Goals as goal

pub loop-init : goal.loop-init
loop-init g c =
    let e = c.in_ok-begun.ensures in
    record {
      onward = e.onward;
      goes = goes-first _ _ _ _ c.in_ok-begun.begun (g.C.Client.facts c.args.client.now) _ _ e.answer e.facts (sym (ap (λ b. b.at) c.begun.view_is));
    }

pub returns-in_err-upto-clause-onward : goal.returns-in_err-upto-clause-onward
returns-in_err-upto-clause-onward g c = onwards_do_join.1 _ _ _ c.loop.invariant.onward c.in_err-upto.ensures.onward

pub returns-in-Lost-clause-onward : goal.returns-in-Lost-clause-onward
returns-in-Lost-clause-onward g c = onwards_do_join.1 _ _ _ c.loop.invariant.onward c.in_ok-upto.ensures.onward

pub returns-in-Lost-clause-told : goal.returns-in-Lost-clause-told
returns-in-Lost-clause-told g c =
    goes-last _ _ _ _ _ _ _ c.in_ok-upto.field-0 c.in-Lost.at c.in-Lost.floor c.loop.invariant.goes c.in_ok-upto.ensures.onward c.in_ok-upto.ensures.answer c.in-Lost.is

pub loop-preserved : goal.loop-preserved
loop-preserved g c =
    let e = c.in_ok-upto.ensures in
    let took = c.in_ok-upto.field-0 in
    let onward = onwards_do_join.1 _ _ _ c.loop.invariant.onward e.onward in
    elim c.match-branch-3.branch [
      | in-Events w ↦ record {
        onward = onward;
        goes = goes-on _ _ _ _ _ _ _ took _ _ c.loop.invariant.goes e.onward e.answer e.facts (ap (λ t. position_after t c.loop.position) w.in-Events.is ∙ sym w.position-is) (subst IsLasting (sym w.in-Events.is) tt);
      }
      | in-Quiet w ↦ record {
        onward = onward;
        goes = goes-on _ _ _ _ _ _ _ took _ _ c.loop.invariant.goes e.onward e.answer e.facts (ap (λ t. position_after t c.loop.position) w.in-Quiet.is ∙ sym w.position-is) (subst IsLasting (sym w.in-Quiet.is) tt);
      }
    ]
