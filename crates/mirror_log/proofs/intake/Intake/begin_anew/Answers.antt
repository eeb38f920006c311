use Rattle.mirror_log.specs.Intakes.{IntakeData}
use Rattle.mirror_log.proofs.IntakeLemmas.{anew}
use Rattle.mirror_log.proofs.intake.Intake.begin_anew.Goals as goal

pub returns-clause-at : goal.returns-clause-at
returns-clause-at c = λ resource log end stands.
    let new : IntakeData = record { selection = c.self.inside.selection; most_gap = c.self.inside.most_gap; to = c.args.to; keys = c.args.keys; kept = c.clear.new.self.items } in
    anew new log end c.clear.ensures.items stands
