use Rattle.serde_json.specs.View.{view}
use Rattle.watch_lines.proofs.PageLemmas.{unlisted, all-of-value}
use Rattle.watch_lines.proofs.pages.tell_page.Goals as goal

pub returns-in-Some : goal.returns-in-Some
returns-in-Some c = all-of-value c.args.resource c.args.text.now (view c.in-Some.value) (rw c.in-Some.is at c.in_ok-value.ensures) c.page_of.result c.page_of.ensures

pub returns-in-None : goal.returns-in-None
returns-in-None c = unlisted c.args.resource c.args.text.now (rw c.in-None.is at c.in_ok-value.ensures)
