use Rattle.std.proofs.Common.{refl, ◌∙◌}
use Rattle.up_store.proofs.KeptLemmas.{old-after}
use Rattle.up_store.proofs.kept.Kept.state_after.Goals as goal

pub returns : goal.returns
returns c = λ log floor at keeps later within place.
    old-after log floor at c.args.self.now c.args.resource c.args.count _ refl (c.in_ok-rows.ensures ∙ c.of.ensures) c.in_ok-revisions.ensures later within place keeps
