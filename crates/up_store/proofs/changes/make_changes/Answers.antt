-- The changes are the revision's, and so is their number.
use Rattle.std.proofs.Common.{◌≡◌, map, sym, ap, ◌∙◌, subst, OnOk, OnErr}
use Rattle.rev_log.specs.Changes.{RevisionData}
use Rattle.rev_log.specs.States.{row_next}
use Rattle.up_store.specs.Kept.{AreStepped, ArePartlyMade}
use Rattle.up_store.specs.Shared.{shared_row, made_row}
use Rattle.up_store.proofs.changes.make_changes.Goals as goal

pub make_each-requires : goal.make_each-requires
make_each-requires c =
    let same : record { rev = c.whole.inside.rev; changes = c.deref.result.now } ≡ c.args.revision.now =
    ap (λ changes. record { rev = c.whole.inside.rev; changes = changes }) c.deref.ensures.value ∙ c.whole.view_is ∙ c.get-whole.ensures in
    subst (λ (r : RevisionData). map shared_row c.made-made.result.now ≡ map (made_row r.rev) r.changes) (sym same) c.made-made.ensures

pub returns-clause-done : goal.returns-clause-done
returns-clause-done c =
    let same : record { rev = c.whole.inside.rev; changes = c.deref.result.now } ≡ c.args.revision.now =
    ap (λ changes. record { rev = c.whole.inside.rev; changes = changes }) c.deref.ensures.value ∙ c.whole.view_is ∙ c.get-whole.ensures in
    subst (λ (r : RevisionData). OnOk c.make_each.result (AreStepped c.args.rows.now c.make_each.new.rows (λ key row. row_next c.args.resource key row r))) same c.make_each.ensures.done

pub returns-clause-partly : goal.returns-clause-partly
returns-clause-partly c =
    let same : record { rev = c.whole.inside.rev; changes = c.deref.result.now } ≡ c.args.revision.now =
    ap (λ changes. record { rev = c.whole.inside.rev; changes = changes }) c.deref.ensures.value ∙ c.whole.view_is ∙ c.get-whole.ensures in
    subst (λ (r : RevisionData). OnErr c.make_each.result (ArePartlyMade c.args.resource r c.args.rows.now c.make_each.new.rows)) same c.make_each.ensures.partly
