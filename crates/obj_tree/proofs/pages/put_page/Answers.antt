use Rattle.obj_tree.proofs.PageLemmas.{set_page}
use Rattle.obj_tree.proofs.pages.put_page.Goals as goal

pub returns-clause-ok : goal.returns-clause-ok
returns-clause-ok c = set_page (λ p. p.value) c.args.pages.now.items c.args.at c.in_ok-page.page c.args.page c.requires c.in_ok-page.ensures.ok
