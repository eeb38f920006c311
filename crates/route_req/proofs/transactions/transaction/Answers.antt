use Rattle.std.proofs.Common.{◌≡◌, ◌≤◌, length, map, Some, sym, ap, subst, ◌∙◌, rules}
use Rattle.std.proofs.lemmas.List.{length-map}
use Rattle.serde_json.specs.Find.{as_array}
use Rattle.serde_json.specs.View.{view, items_of}
use Rattle.route_req.specs.Texts.{IsListOfItems, RefusesText}
use Rattle.route_req.proofs.Items.{RefusesText-not_distinct}
use Rattle.route_req.proofs.transactions.transaction.Goals as goal

pub returns-clause-refused : goal.returns-clause-refused
returns-clause-refused c =
    let values = c.as_slice.result.now in
    let ds = map view values in
    let same : values ≡ c.in-Some.items.now.items = c.as_slice.ensures.value in
    let array : as_array (view c.in-Ok.value) ≡ Some (items_of ds) = sym c.in-Some.ensures ∙ ap (λ vs. Some (items_of (map view vs))) (sym same) in
    let few : length values ≤ 64 = search rules in
    let some : 1 ≤ length values = search rules in
    let is : IsListOfItems c.args.body.now ds = ((view c.in-Ok.value, c.in-Ok.ensures.ok, array), rw length-map some, rw length-map few) in
    subst (RefusesText c.args.body.now) (sym c.not_distinct.ensures)
    (RefusesText-not_distinct c.args.body.now ds c.in-Ok-writes.asks.items is c.in-Ok-writes.ensures.ok c.in-Err-new.no
    c.in-Err-new.ensures.empty.0 c.in-Err-new.ensures.too_many.0 (λ i e. ((c.in-Err-new.ensures.repeated i).0 e).1))
