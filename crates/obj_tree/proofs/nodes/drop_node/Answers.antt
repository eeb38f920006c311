use Rattle.obj_tree.proofs.PageLemmas.{set_none}
use Rattle.obj_tree.proofs.nodes.drop_node.Goals as goal

pub returns : goal.returns
returns c = rw c.remove.ensures.items (set_none (λ p. p.value) c.args.nodes.now.items c.args.at c.requires)
