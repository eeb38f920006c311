use Rattle.std.proofs.Common.{ℕ, List, ◌-◌, ◌++◌, length, take, min, ap, ◌∙◌}
use Rattle.line_stream.proofs.BodyLemmas.{moved}
use Rattle.line_stream.proofs.bodies.move_upto.Goals as goal

pub returns-clause-moves : goal.returns-clause-moves
returns-clause-moves c =
    let n : ℕ = c.min-n.result in
    moved c.args.kept.now c.args.content.now.items c.args.whole n _ _ c.requires
    (c.min-n.ensures ∙ ap (λ (l : List ℕ). min (length l) (c.args.whole - c.len.result)) c.bytes.ensures
    ∙ ap (λ (k : ℕ). min (length c.args.kept.now) (c.args.whole - k)) (c.len.ensures ∙ c.args.content.now.ok.0))
    c.consume.ensures
    (c.in-Ok.ensures.items ∙ ap (λ l. c.args.content.now.items ++ take n l) c.bytes-2.ensures)
