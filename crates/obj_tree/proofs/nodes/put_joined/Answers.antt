use Rattle.obj_tree.proofs.PageLemmas.{set_joined}
use Rattle.obj_tree.proofs.nodes.put_joined.Goals as goal

pub returns-clause-ok : goal.returns-clause-ok
returns-clause-ok c =
    rw c.remove.ensures.items (set_joined (λ p. p.value) c.args.nodes.now.items c.args.at c.in_ok-node.node c.args.node c.requires c.in_ok-node.ensures.ok)
