-- The page that was told is added.
use Rattle.std.proofs.Common.{inl, inr, refl, subst}
use Rattle.std.specs.String.{string_bytes}
use Rattle.watch_lines.specs.Pages.{ReadsPage}
use Rattle.cluster_link.proofs.PageLemmas.{takes_page}
use Rattle.cluster_link.proofs.pages.take_page.Goals as goal

pub add-requires : goal.add-requires
add-requires c =
    let page = c.in-Ok-Some.page in
    (c.pages_are_kept.ensures c.args.resource c.args.text.now page.rows.items page.at (string_bytes page.token) (subst (ReadsPage c.args.resource c.args.text.now) c.in-Ok-Some.field-0-is c.in-Ok-Some.ensures)).1

pub returns-in-Ok-Some : goal.returns-in-Ok-Some
returns-in-Ok-Some c =
    let page = c.in-Ok-Some.page in
    takes_page c.args.resource c.args.gathered.now c.args.text.now page.rows.items page.at (string_bytes page.token) c.add.result c.add.new.self
    (subst (ReadsPage c.args.resource c.args.text.now) c.in-Ok-Some.field-0-is c.in-Ok-Some.ensures) c.add.ensures

pub returns-in-Ok-None : goal.returns-in-Ok-None
returns-in-Ok-None c = inr (inl (refl, subst (ReadsPage c.args.resource c.args.text.now) c.in-Ok-None.field-0-is c.in-Ok-None.ensures))
