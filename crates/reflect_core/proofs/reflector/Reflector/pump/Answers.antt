use Rattle.reflect_core.proofs.AlongLemmas.{again_along, again_partly, anew_along, anew_partly}
use Rattle.reflect_core.proofs.reflector.Reflector.pump.Goals as goal

pub returns-in-Compacted-clause-along : goal.returns-in-Compacted-clause-along
returns-in-Compacted-clause-along g c =
    let h = g.H.Held in
    anew_along h.ends_at h.goes_along h.begins_anew g.N.LogFacts.base c.rebuild.result c.follow.new.told c.rebuild.new.told c.args.held.now c.follow.new.held c.rebuild.new.held
    c.rebuild.ensures.learns c.follow.ensures.along 0 c.rebuild.ensures.answer c.rebuild.ensures.begins

pub returns-in-Compacted-clause-along_partly : goal.returns-in-Compacted-clause-along_partly
returns-in-Compacted-clause-along_partly g c =
    let h = g.H.Held in
    anew_partly h.ends_at h.goes_along h.begins_anew g.N.LogFacts.base c.rebuild.result c.follow.new.told c.rebuild.new.told c.args.held.now c.follow.new.held c.rebuild.new.held
    c.rebuild.ensures.learns c.follow.ensures.along c.rebuild.ensures.kept

pub returns-in-Cut-clause-along : goal.returns-in-Cut-clause-along
returns-in-Cut-clause-along g c =
    let h = g.H.Held in
    again_along h.ends_at h.goes_along h.begins_anew g.N.LogFacts.base c.pump_again.result c.follow.new.told c.pump_again.new.told c.args.held.now c.follow.new.held c.pump_again.new.held
    c.pump_again.ensures.learns c.follow.ensures.along c.pump_again.ensures.along

pub returns-in-Cut-clause-along_partly : goal.returns-in-Cut-clause-along_partly
returns-in-Cut-clause-along_partly g c =
    let h = g.H.Held in
    again_partly h.ends_at h.goes_along h.begins_anew g.N.LogFacts.base c.pump_again.result c.follow.new.told c.pump_again.new.told c.args.held.now c.follow.new.held c.pump_again.new.held
    c.pump_again.ensures.learns c.follow.ensures.along c.pump_again.ensures.along_partly
