use Rattle.std.proofs.Common.{ap, ◌∙◌, Bool, cond, not, take, ◌++◌}
use Rattle.line_stream.proofs.ReaderLemmas.{take-moves}
use Rattle.line_stream.proofs.lines.LineReader.take.Goals as goal

pub returns-clause-moves : goal.returns-clause-moves
returns-clause-moves c =
    let part = c.self.inside.part.items in
    take-moves c.args.self.now.at _ (ap (λ v. v.at) c.self.view_is) c.args.len c.args.left c.consume.ensures
    (c.extend_from_slice.ensures.items
    ∙ ap (λ (b : Bool). cond b (part ++ take c.args.len c.bytes.result.now) part) (c.is_err.ensures.negation ∙ ap not c.if-is_err.false)
    ∙ ap (λ l. part ++ take c.args.len l) c.bytes.ensures)
    c.spent-self-inside.ensures c.requires
