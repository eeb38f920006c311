use Rattle.std.proofs.Common.{◌++◌, ◌∷◌, [], ℕ, List, ap, ◌∙◌}
use Rattle.kube_meta.specs.Rows.{key_of}
use Rattle.obj_tree.specs.Edges.{is_from}
use Rattle.obj_tree.proofs.EdgeLemmas.{next_text}
use Rattle.obj_tree.proofs.edges.edge_behind.Goals as goal

pub returns : goal.returns
returns c = λ row.
    ap (λ (t : List ℕ). is_from (t ++ 0 ∷ []) row) c.as_str.ensures.value
    ∙ next_text c.args.key.now (key_of row)
