-- The log that was taken to the opening's rows follows its lines.
use Rattle.mirror_link.proofs.ReopenLemmas.{taken_anew, not_taken, rebase_rests, stays_mirror}
use Rattle.mirror_link.proofs.mirror.Mirror.take_opening.Goals as goal
use Rattle.std.proofs.Common.{◌∙◌}

pub returns-in-Ok-clause-takes : goal.returns-in-Ok-clause-takes
returns-in-Ok-clause-takes g c =
    let m = c.self.inside in
    taken_anew m.label m.field m.log m.reader.at m.answer c.args.self.now c.self.view_is c.args.opening c.deref.result.now c.base-base.result c.rebase.new.self c.into_parts-parts.result.reader.at
    c.self.invariant (c.deref.ensures.value ∙ c.into_parts-parts.ensures.rows) c.base-base.ensures.answer c.into_parts-parts.ensures.reading c.to.ensures.lawful c.in-Ok.ensures.rebases.0

pub invariant_of-self-in-Err-1 : goal.invariant_of-self-in-Err-1
invariant_of-self-in-Err-1 g c =
    let m = c.self.inside in
    stays_mirror m.label m.field m.log m.reader.at m.answer _ c.rebase.new.self c.self.invariant
    (rebase_rests m.log c.deref.result.now c.base-base.result c.in-Err.why c.rebase.new.self c.in-Err.ensures.rebases)

pub returns-in-Err-clause-takes : goal.returns-in-Err-clause-takes
returns-in-Err-clause-takes g c =
    let m = c.self.inside in
    not_taken m.label m.field m.log m.reader.at m.answer c.args.self.now c.self.view_is c.args.opening c.deref.result.now c.base-base.result c.to-to.result
    c.in-Err.why c.rebase.new.self c.rebasing_refusal-why.result (c.deref.ensures.value ∙ c.into_parts-parts.ensures.rows) c.base-base.ensures.answer c.to-to.ensures.answer
    c.rebasing_refusal-why.ensures c.in-Err.ensures.rebases
