use Rattle.std.proofs.Common.{◌≡◌, false, Some, sym, ap, ◌∙◌, subst}
use Rattle.std.proofs.lemmas.Result.{IfErr-weaker}
use Rattle.route_req.specs.Asks.{Refuses, RefusesAtPath, wraps_memory}
use Rattle.route_req.specs.Places.{NamesMaybe, action_at}
use Rattle.route_req.proofs.Outcomes.{refused_at_path}
use Rattle.route_req.proofs.Wrapping.{act_plain}
use Rattle.route_req.proofs.routing.route_at_path.Goals as goal

pub returns-in-Some-action_at-clause-plain : goal.returns-in-Some-action_at-clause-plain
returns-in-Some-action_at-clause-plain c =
    IfErr-weaker c.act.result (Refuses c.in-Some-action_at.action c.args.req.now) (λ fault. wraps_memory fault ≡ false)
    (λ fault is. (act_plain c.in-Some-action_at.action c.args.req.now fault is).0) c.act.ensures.refused

pub returns-in-Some-action_at-clause-refused : goal.returns-in-Some-action_at-clause-refused
returns-in-Some-action_at-clause-refused c =
    IfErr-weaker c.act.result (Refuses c.in-Some-action_at.action c.args.req.now) (RefusesAtPath c.args.req.now)
    (λ fault is. refused_at_path c.args.req.now c.in-Some.place c.in-Some-action_at.action fault
    (subst (λ path. NamesMaybe path (Some c.in-Some.place)) c.as_slice.ensures (subst (NamesMaybe c.as_slice.result.now) c.in-Some.is c.in_ok-place.ensures.named))
    (ap (action_at c.in-Some.place) (sym c.as_str.ensures) ∙ sym c.action_at.ensures.value ∙ c.in-Some-action_at.is) is)
    c.act.ensures.refused
