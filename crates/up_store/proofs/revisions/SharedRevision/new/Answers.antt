use Rattle.up_store.proofs.revisions.SharedRevision.new.Goals as goal

pub invariant_of-result : goal.invariant_of-result
invariant_of-result c = rw c.in_ok-parts.ensures.ok c.in_ok-made.ensures
