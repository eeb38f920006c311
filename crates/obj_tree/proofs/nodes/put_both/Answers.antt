use Rattle.obj_tree.proofs.PageLemmas.{set_pair}
use Rattle.obj_tree.proofs.nodes.put_both.Goals as goal

pub returns-clause-ok : goal.returns-clause-ok
returns-clause-ok c =
    rw c.in_ok-insert.ensures.items (set_pair (λ p. p.value) c.args.nodes.now.items c.args.at c.in_ok-back.back c.in_ok-front.front c.args.front c.args.back c.requires c.in_ok-front.ensures.ok c.in_ok-back.ensures.ok)
