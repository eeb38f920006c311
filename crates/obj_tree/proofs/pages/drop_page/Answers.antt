use Rattle.obj_tree.proofs.PageLemmas.{set_none}
use Rattle.obj_tree.proofs.pages.drop_page.Goals as goal

pub returns : goal.returns
returns c = rw c.remove.ensures.items (set_none (λ p. p.value) c.args.pages.now.items c.args.at c.requires)
