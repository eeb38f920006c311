use Rattle.std.proofs.Common.{◌+◌, ◌<◌, ◌∷◌, [], List, length, ap, sym, ◌∙◌, subst, arith}
use Rattle.std.proofs.lemmas.List.{length-map}
use Rattle.kube_meta.specs.Rows.{RowData}
use Rattle.obj_tree.specs.Pages.{values_of, joined, IsNoded}
use Rattle.obj_tree.proofs.NodeLemmas.{noded_joined, replaced_length}
use Rattle.obj_tree.proofs.nodes.put_settled.Goals as goal

pub settle-requires : goal.settle-requires
settle-requires c =
    let items = c.args.nodes.now.items in
    let nodes = values_of items in
    let at = c.args.at in
    let more : at + 1 < length nodes = omega (arith, c.requires.inside, length-map items (λ p. p.value)) in
    let is = noded_joined nodes at c.args.node c.requires.noded more c.requires.large c.requires.rising in
    let new = c.in_ok-put_joined.ensures.ok in
    record {
      inside = omega (arith, more, ap length new, length-map c.put_joined.new.nodes.items (λ p. p.value), replaced_length nodes (c.args.node ∷ []) at (at + 2) (omega arith) (omega (arith, more)));
      noded = subst (λ (p : List (List RowData)). IsNoded p) (sym new) is;
    }

pub returns-clause-ok : goal.returns-clause-ok
returns-clause-ok c = c.settle.ensures.rows ∙ ap joined c.in_ok-put_joined.ensures.ok
