-- The log begins with the opening, whose lines it follows.
use Rattle.std.proofs.Common.{inl, ap, ◌∙◌}
use Rattle.select_all.specs.declared.selection.Selection.{Selection}
use Rattle.mirror_link.proofs.BeginLemmas.{begun_follows, opened_is}
use Rattle.mirror_link.proofs.mirror.Mirror.new.Goals as goal

pub new-requires-clause-pods : goal.new-requires-clause-pods
new-requires-clause-pods g c =
    let parts = c.into_parts-selection.ensures in
    inl (ap (λ (s : Selection). s.resource) parts.whose.0 ∙ parts.lawful.pods)

pub returns-clause-follows : goal.returns-clause-follows
returns-clause-follows g c =
    let parts = c.into_parts-selection in
    let log = c.in_ok-log.ensures in
    begun_follows c.args.opening c.in_ok-log.log.selection c.in_ok-log.log.log c.in_ok-log.log.kept parts.ensures.lawful (log.0 ∙ parts.ensures.whose.0)
    (opened_is c.in_ok-log.log.log c.base-base.result c.args.opening.base parts.result.rows.items c.args.opening.rows log.2 c.base-base.ensures.answer parts.ensures.rows) log.3
