use Rattle.std.proofs.Common.{ℕ, ◌+◌, ◌<◌, ◌≤◌, sym, subst, arith, ◌∙◌}
use Rattle.http_read.proofs.HeadLemmas.{nonempty}
use Rattle.line_stream.specs.BodySteps.{StepsChunk}
use Rattle.line_stream.specs.Looks.{LooksAtFrame}
use Rattle.line_stream.specs.declared.place.Place.TheVariants.{Inside}
use Rattle.line_stream.proofs.BodyLemmas.{data-passes, frame-steps}
use Rattle.line_stream.proofs.bodies.step_inside.Goals as goal

pub returns-then-size-eq0 : goal.returns-then-size-eq0
returns-then-size-eq0 c =
    let content = c.args.content.now.items in
    subst (λ (n : ℕ). StepsChunk c.args.limit (Inside n) c.args.kept.now content c.pass.result c.pass.new.kept content) (sym c.if-size-eq0.true)
    (frame-steps c.args.limit (Inside 0) c.args.kept.now content c.look_behind_data-frame.result c.pass.result c.pass.new.kept
    (subst (λ b. LooksAtFrame (Inside 0) b c.look_behind_data-frame.result) c.bytes.ensures c.look_behind_data-frame.ensures) c.pass.ensures)

pub returns : goal.returns
returns c =
    let some : 0 < c.args.size = omega arith in
    let fits : c.len-here.result + c.args.size ≤ c.args.limit = omega arith in
    data-passes c.args.limit c.args.size c.len-here.result c.len.result c.args.kept.now c.args.content.now.items c.move_upto.new.kept c.move_upto.new.content.items
    (c.len-here.ensures ∙ c.args.content.now.ok.0) (c.len.ensures ∙ c.move_upto.new.content.ok.0) some fits
    (nonempty c.args.kept.now c.if-is_empty.ensures) c.in_ok-move_upto.ensures.moves
