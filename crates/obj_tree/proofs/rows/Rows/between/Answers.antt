use Rattle.std.proofs.Common.{◌≡◌, ◌+◌, ◌-◌, List, length, take, drop, ap, sym, ◌∙◌, arith, length-drop}
use Rattle.kube_meta.specs.Rows.{RowData}
use Rattle.obj_tree.specs.Edges.{rows_before}
use Rattle.obj_tree.specs.Pages.{values_of, joined}
use Rattle.obj_tree.proofs.PageLemmas.{hold-drop, map_drop}
use Rattle.obj_tree.proofs.SpanLemmas.{count_upto, none_between, spot_inside, drop_spot, map_take, take_length}
use Rattle.obj_tree.proofs.rows.Rows.between.Goals as goal

pub returns-then-to-from : goal.returns-then-to-from
returns-then-to-from c =
    let nodes = values_of c.args.nodes.now in
    let few = none_between nodes c.args.from c.args.to c.requires.from c.requires.to c.if-to-from.true in
    c.from.ensures ∙ take_length 0 (rows_before nodes c.args.to - rows_before nodes c.args.from) (drop (rows_before nodes c.args.from) (joined nodes)) (omega (arith, few))

pub rows_in-requires : goal.rows_in-requires
rows_in-requires c =
    let items = c.args.nodes.now in
    let nodes = values_of items in
    let rest : values_of c.split_at.result.1.now ≡ drop c.args.from.part nodes = ap values_of c.split_at.ensures.back ∙ map_drop (λ p. p.value) items c.args.from.part in
    let front : values_of c.split_at-2.result.0.now ≡ take (c.args.to.part - c.args.from.part) (drop c.args.from.part nodes) =
    ap values_of c.split_at-2.ensures.front ∙ map_take (λ p. p.value) c.split_at.result.1.now (c.args.to.part - c.args.from.part) ∙ ap (take (c.args.to.part - c.args.from.part)) rest in
    let count = ap (λ (p : List (List RowData)). length (joined p)) front in
    let upto = count_upto nodes c.args.from.part c.args.to.part c.if-to-from.false in
    let inside = spot_inside nodes c.args.to c.requires.to in
    omega (arith, count, upto, inside, c.requires.few)

pub overflow_add-rows_in : goal.overflow_add-rows_in
overflow_add-rows_in c =
    let items = c.args.nodes.now in
    let nodes = values_of items in
    let rest : values_of c.split_at.result.1.now ≡ drop c.args.from.part nodes = ap values_of c.split_at.ensures.back ∙ map_drop (λ p. p.value) items c.args.from.part in
    let front : values_of c.split_at-2.result.0.now ≡ take (c.args.to.part - c.args.from.part) (drop c.args.from.part nodes) =
    ap values_of c.split_at-2.ensures.front ∙ map_take (λ p. p.value) c.split_at.result.1.now (c.args.to.part - c.args.from.part) ∙ ap (take (c.args.to.part - c.args.from.part)) rest in
    let count = ap (λ (p : List (List RowData)). length (joined p)) front in
    let upto = count_upto nodes c.args.from.part c.args.to.part c.if-to-from.false in
    let inside = spot_inside nodes c.args.to c.requires.to in
    omega (arith, c.rows_in.ensures, count, upto, inside, c.requires.few)

pub from-requires-2-clause-some : goal.from-requires-2-clause-some
from-requires-2-clause-some c =
    let items = c.args.nodes.now in
    let nodes = values_of items in
    let rest : values_of c.split_at.result.1.now ≡ drop c.args.from.part nodes = ap values_of c.split_at.ensures.back ∙ map_drop (λ p. p.value) items c.args.from.part in
    rw rest (hold-drop 1 nodes c.args.from.part c.requires.some)

pub from-requires-2-clause-left : goal.from-requires-2-clause-left
from-requires-2-clause-left c =
    let items = c.args.nodes.now in
    let nodes = values_of items in
    let rest : values_of c.split_at.result.1.now ≡ drop c.args.from.part nodes = ap values_of c.split_at.ensures.back ∙ map_drop (λ p. p.value) items c.args.from.part in
    let front : values_of c.split_at-2.result.0.now ≡ take (c.args.to.part - c.args.from.part) (drop c.args.from.part nodes) =
    ap values_of c.split_at-2.ensures.front ∙ map_take (λ p. p.value) c.split_at.result.1.now (c.args.to.part - c.args.from.part) ∙ ap (take (c.args.to.part - c.args.from.part)) rest in
    let count = ap (λ (p : List (List RowData)). length (joined p)) front in
    let upto = count_upto nodes c.args.from.part c.args.to.part c.if-to-from.false in
    let inside = spot_inside nodes c.args.to c.requires.to in
    let all = ap length (drop_spot nodes c.args.from.part c.args.from.row) in
    let behind = length-drop (length (joined (take c.args.from.part nodes)) + c.args.from.row) (joined nodes) in
    rw rest (omega (arith, c.saturating_sub-left.ensures, c.rows_in.ensures, count, upto, inside, all, behind))

pub returns : goal.returns
returns c =
    let items = c.args.nodes.now in
    let nodes = values_of items in
    let rest : values_of c.split_at.result.1.now ≡ drop c.args.from.part nodes = ap values_of c.split_at.ensures.back ∙ map_drop (λ p. p.value) items c.args.from.part in
    let front : values_of c.split_at-2.result.0.now ≡ take (c.args.to.part - c.args.from.part) (drop c.args.from.part nodes) =
    ap values_of c.split_at-2.ensures.front ∙ map_take (λ p. p.value) c.split_at.result.1.now (c.args.to.part - c.args.from.part) ∙ ap (take (c.args.to.part - c.args.from.part)) rest in
    let count = ap (λ (p : List (List RowData)). length (joined p)) front in
    let upto = count_upto nodes c.args.from.part c.args.to.part c.if-to-from.false in
    let inside = spot_inside nodes c.args.to c.requires.to in
    let left = c.saturating_sub-left.result in
    let many : left ≡ rows_before nodes c.args.to - rows_before nodes c.args.from = omega (arith, c.saturating_sub-left.ensures, c.rows_in.ensures, count, upto) in
    c.from-2.ensures
    ∙ ap (λ (p : List (List RowData)). take left (drop c.args.from.row (joined p))) rest
    ∙ ap (take left) (sym (drop_spot nodes c.args.from.part c.args.from.row))
    ∙ take_length left (rows_before nodes c.args.to - rows_before nodes c.args.from) (drop (rows_before nodes c.args.from) (joined nodes)) many
