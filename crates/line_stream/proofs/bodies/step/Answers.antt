use Rattle.std.proofs.Common.{sym, subst}
use Rattle.line_stream.specs.BodySteps.{StepsChunk}
use Rattle.line_stream.specs.Looks.{LooksAtFrame}
use Rattle.line_stream.specs.declared.place.Place.TheVariants.{AtSize, Last}
use Rattle.line_stream.proofs.BodyLemmas.{frame-steps}
use Rattle.line_stream.proofs.bodies.step.Goals as goal

pub returns-in-AtSize : goal.returns-in-AtSize
returns-in-AtSize c =
    let content = c.args.content.now.items in
    subst (λ p. StepsChunk c.args.limit p c.args.kept.now content c.pass.result c.pass.new.kept content) (sym (c.in-AtSize.is))
    (frame-steps c.args.limit AtSize c.args.kept.now content c.look_at_size-frame.result c.pass.result c.pass.new.kept
    (subst (λ b. LooksAtFrame AtSize b c.look_at_size-frame.result) c.bytes.ensures c.look_at_size-frame.ensures) c.pass.ensures)

pub returns-in-Last : goal.returns-in-Last
returns-in-Last c =
    let content = c.args.content.now.items in
    subst (λ p. StepsChunk c.args.limit p c.args.kept.now content c.pass-in-Last.result c.pass-in-Last.new.kept content) (sym (c.in-Last.is))
    (frame-steps c.args.limit Last c.args.kept.now content c.look_behind_last-frame.result c.pass-in-Last.result c.pass-in-Last.new.kept
    (subst (λ b. LooksAtFrame Last b c.look_behind_last-frame.result) c.bytes-in-Last.ensures c.look_behind_last-frame.ensures) c.pass-in-Last.ensures)
