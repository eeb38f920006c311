use Rattle.mirror_log.proofs.StepLemmas.{holds_clear}
use Rattle.mirror_log.proofs.log.MirrorLog.forget.Goals as goal

pub invariant_of-self : goal.invariant_of-self
invariant_of-self g c =
    holds_clear g.N.LogFacts.base g.N.LogFacts.mirror c.self.inside.told c.self.inside.intake c.forget.new.self c.self.invariant c.forget.ensures.clears c.forget.ensures.at
