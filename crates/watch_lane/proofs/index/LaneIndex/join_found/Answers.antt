use Rattle.std.proofs.Common.{◌∙◌, ap, option_copied}
use Rattle.std.proofs.lemmas.Result.{IfOk-weaker}
use Rattle.watch_lane.specs.Index.{is_listed, value_in}
use Rattle.watch_lane.proofs.IndexLemmas.{found_joined}
use Rattle.watch_lane.proofs.index.LaneIndex.join_found.Goals as goal

pub returns-in_ok-valued-in-Some-clause-joined : goal.returns-in_ok-valued-in-Some-clause-joined
returns-in_ok-valued-in-Some-clause-joined c =
    IfOk-weaker c.join_under-in-Some-2.result _ _
    (λ list all id. found_joined c.args.self.now c.self.inside.field c.self.inside.lanes.entries c.self.inside.places (option_copied c.args.obj) c.in-Some.obj.now id
    (is_listed c.args.ids.items id) (is_listed c.in_ok-named-in-Some.named.items id) (is_listed c.in_ok-valued-in-Some.valued.items id) (is_listed list.items id)
    c.name.result.now c.value_in-value.result.now c.ns.result.now c.self.view_is (λ p. c.self.invariant p id) (ap option_copied c.in-Some.is) c.ns.ensures.whole
    c.name.ensures.value (c.value_in-value.ensures ∙ ap (λ x. value_in x.field c.in-Some.obj.now) c.self.view_is) c.ns.ensures.value
    (c.in_ok-named-in-Some.ensures.joined id) (c.in_ok-valued-in-Some.ensures.joined id) (all id))
    c.join_under-in-Some-2.ensures.joined
