-- The changes of the resource are a revision, unless there is none.
use Rattle.std.proofs.Common.{◌≡◌, ◌≤◌, sym, ap, ◌∙◌, subst, length}
use Rattle.kube_meta.specs.Resources.{same_resource}
use Rattle.rev_log.specs.Changes.{IsRevision}
use Rattle.rev_log.proofs.MapLemmas.{take_all}
use Rattle.up_api.specs.Feeds.{changes_of}
use Rattle.up_store.proofs.PartLemmas.{IsRevision-filter}
use Rattle.up_store.proofs.parts.part.Goals as goal

pub invariant_of-result : goal.invariant_of-result
invariant_of-result c =
    let items : c.deref-change-items.result.now ≡ c.args.revision.now.changes = c.deref-change-items.ensures.value ∙ ap (λ revision. revision.changes) c.revision.view_is in
    let past : length c.args.revision.now.changes ≤ c.loop-change.change-index = rw (← items) c.loop-change-test.false in
    let whole : c.loop-change.changes.items ≡ changes_of c.args.resource c.args.revision.now.changes =
    c.loop-change.invariant ∙ ap (changes_of c.args.resource) (take_all c.args.revision.now.changes c.loop-change.change-index past) in
    let number : c.args.revision.now.rev ≡ c.revision.inside.rev = sym (ap (λ revision. revision.rev) c.revision.view_is) in
    let lawful : IsRevision c.args.revision.now = subst IsRevision c.revision.view_is c.revision.invariant in
    let filtered : IsRevision (record { rev = c.args.revision.now.rev; changes = changes_of c.args.resource c.args.revision.now.changes }) =
    IsRevision-filter (λ change. same_resource change.resource c.args.resource) c.args.revision.now lawful in
    rw (number, ← whole) at filtered
