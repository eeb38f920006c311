use Rattle.std.proofs.Common.{◌++◌, ◌∷◌, [], sym, ◌∙◌}
use Rattle.kube_meta.specs.Rows.{key_of}
use Rattle.obj_tree.proofs.EdgeLemmas.{from_key, from_edge, next_text}
use Rattle.obj_tree.proofs.edges.first_edge.Goals as goal

pub returns-then-is_before : goal.returns-then-is_before
returns-then-is_before c = λ row.
    rw c.in-Some.is (from_edge c.in-Some.key.now (c.args.ns.now ++ 47 ∷ []) row (sym c.is_before.ensures ∙ c.if-is_before.true))

pub returns : goal.returns
returns c = λ row.
    c.edge_behind.ensures row
    ∙ sym (next_text c.in-Some.key.now (key_of row))
    ∙ rw c.in-Some.is (from_key c.in-Some.key.now (c.args.ns.now ++ 47 ∷ []) row (sym c.is_before.ensures ∙ c.if-is_before.false))
