use Rattle.std.proofs.Common.{◌≡◌, ◌-◌, List, length, drop, ap, sym, ◌∙◌, arith, length-drop}
use Rattle.kube_meta.specs.Rows.{RowData}
use Rattle.obj_tree.specs.Pages.{values_of, joined}
use Rattle.obj_tree.proofs.PageLemmas.{hold-drop, map_drop}
use Rattle.obj_tree.proofs.SpanLemmas.{count_rest, drop_spot, first_part, page_after, take_whole}
use Rattle.obj_tree.proofs.rows.Rows.behind.Goals as goal

pub rows_in-requires : goal.rows_in-requires
rows_in-requires c =
    let items = c.args.nodes.now in
    let nodes = values_of items in
    let rest : values_of c.split_at.result.1.now ≡ drop c.args.from.part nodes = ap values_of c.split_at.ensures.back ∙ map_drop (λ p. p.value) items c.args.from.part in
    omega (arith, ap (λ (p : List (List RowData)). length (joined p)) rest, count_rest nodes c.args.from.part, c.requires.few)

pub overflow_sub-rows_in : goal.overflow_sub-rows_in
overflow_sub-rows_in c =
    let items = c.args.nodes.now in
    let nodes = values_of items in
    let rest : values_of c.split_at.result.1.now ≡ drop c.args.from.part nodes = ap values_of c.split_at.ensures.back ∙ map_drop (λ p. p.value) items c.args.from.part in
    omega (arith, c.rows_in.ensures, ap (λ (p : List (List RowData)). length (joined p)) rest, first_part (drop c.args.from.part nodes), ap length (page_after nodes c.args.from.part), c.requires.from.row_is)

pub from-requires-clause-some : goal.from-requires-clause-some
from-requires-clause-some c =
    let items = c.args.nodes.now in
    let nodes = values_of items in
    let rest : values_of c.split_at.result.1.now ≡ drop c.args.from.part nodes = ap values_of c.split_at.ensures.back ∙ map_drop (λ p. p.value) items c.args.from.part in
    rw rest (hold-drop 1 nodes c.args.from.part c.requires.some)

pub from-requires-clause-place : goal.from-requires-clause-place
from-requires-clause-place c =
    let items = c.args.nodes.now in
    let nodes = values_of items in
    let rest : values_of c.split_at.result.1.now ≡ drop c.args.from.part nodes = ap values_of c.split_at.ensures.back ∙ map_drop (λ p. p.value) items c.args.from.part in
    rw rest (omega (arith, ap length (page_after nodes c.args.from.part), c.requires.from.row_is))

pub from-requires-clause-left : goal.from-requires-clause-left
from-requires-clause-left c = omega (arith, c.rows_in.ensures, length-drop c.args.from.row (joined (values_of c.split_at.result.1.now)))

pub returns : goal.returns
returns c =
    let items = c.args.nodes.now in
    let nodes = values_of items in
    let rest : values_of c.split_at.result.1.now ≡ drop c.args.from.part nodes = ap values_of c.split_at.ensures.back ∙ map_drop (λ p. p.value) items c.args.from.part in
    c.from.ensures
    ∙ take_whole (c.rows_in.result - c.args.from.row) (drop c.args.from.row (joined (values_of c.split_at.result.1.now))) (omega (arith, c.rows_in.ensures, length-drop c.args.from.row (joined (values_of c.split_at.result.1.now))))
    ∙ ap (λ (p : List (List RowData)). drop c.args.from.row (joined p)) rest
    ∙ sym (drop_spot nodes c.args.from.part c.args.from.row)
