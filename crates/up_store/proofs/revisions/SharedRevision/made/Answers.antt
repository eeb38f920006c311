use Rattle.std.proofs.Common.{map, ap, ◌∙◌}
use Rattle.rev_log.specs.Changes.{RevisionData}
use Rattle.up_store.specs.Shared.{shared_row, made_row}
use Rattle.up_store.proofs.revisions.SharedRevision.made.Goals as goal

pub returns : goal.returns
returns c =
    ap (map shared_row) (c.as_slice.ensures.value ∙ ap (λ parts. parts.made.items) c.deref.ensures) ∙ c.self.invariant
    ∙ ap (λ (r : RevisionData). map (made_row r.rev) r.changes) c.self.view_is
