use Rattle.std.proofs.Common.{ℕ, List, ◌++◌, ◌<◌, ◌≤◌, length, sym, ap, subst, ◌∙◌, arith}
use Rattle.edge_io.specs.Told.{prepended}
use Rattle.edge_io.proofs.ToldLemmas.{prepended-prepended}
use Rattle.line_stream.specs.BodySteps.{IsFront, reading_at}
use Rattle.line_stream.specs.Moves.{steps_left}
use Rattle.line_stream.proofs.BodyLemmas.{front-on, front-more, fill-brings}
use Rattle.line_stream.proofs.IdleLemmas.{open-few}
use Rattle.line_stream.proofs.bodies.read_chunks.Goals as goal

pub loop-place-preserved-in-Ok-Some : goal.loop-place-preserved-in-Ok-Some
loop-place-preserved-in-Ok-Some g c =
    let before = c.loop-place.invariant in
    let passes = rw c.in-Ok-Some.field-0-is at c.in-Ok-Some.ensures in record {
      front = (before.front.0, before.front.1, front-on c.args.limit _ _ _ _ _ _ _ before.front.2 passes);
      short = passes.short before.short;
      quiet = before.quiet;
    }

pub fill_kept-requires : goal.fill_kept-requires
fill_kept-requires g c =
    let opens = rw c.in-Ok-None.field-0-is at c.in-Ok-None.ensures in
    omega (arith, open-few c.loop-place.place c.loop-place.kept opens.2, ap length opens.0)

pub loop-place-smaller : goal.loop-place-smaller
loop-place-smaller g c =
    let opens = rw c.in-Ok-None.field-0-is at c.in-Ok-None.ensures in
    let came = c.in_ok-fill_kept-in-Ok-None.ensures in
    let near : steps_left (reading_at c.args.limit c.loop-place.place c.fill_kept.new.kept c.step.new.content.items) < steps_left (reading_at c.args.limit c.loop-place.place c.loop-place.kept c.loop-place.content.items) =
    fill-brings c.args.limit c.loop-place.place c.loop-place.kept c.loop-place.content.items came.0 c.fill_kept.new.kept c.step.new.content.items opens.2 came.1
    (came.2 ∙ ap (λ k. k ++ came.0) opens.0) opens.1 in near

pub loop-place-preserved : goal.loop-place-preserved
loop-place-preserved g c =
    let before = c.loop-place.invariant in
    let opens = rw c.in-Ok-None.field-0-is at c.in-Ok-None.ensures in
    let came = c.in_ok-fill_kept-in-Ok-None.ensures in
    let first = c.args.kept.now in record {
      front = (
        before.front.0 ++ came.0,
        before.front.1 ∙ ap (prepended before.front.0) came.3 ∙ prepended-prepended before.front.0 came.0 _,
        subst (λ d. IsFront (first ++ (before.front.0 ++ came.0)) d c.fill_kept.new.kept c.loop-place.place) (sym opens.1)
            (front-more first before.front.0 came.0 c.loop-place.content.items c.loop-place.kept c.fill_kept.new.kept c.loop-place.place before.front.2
            (came.2 ∙ ap (λ k. k ++ came.0) opens.0)),
      );
      short = subst (λ (d : List ℕ). length d ≤ c.args.limit) (sym opens.1) before.short;
      quiet = came.4 ∙ before.quiet;
    }
