use Rattle.std.proofs.Common.{ap}
use Rattle.line_stream.proofs.ReaderLemmas.{pass-moves}
use Rattle.line_stream.proofs.lines.LineReader.pass.Goals as goal

pub returns-clause-moves : goal.returns-clause-moves
returns-clause-moves c =
    pass-moves c.args.self.now.at _ (ap (λ v. v.at) c.self.view_is) c.args.len c.args.to c.consume.ensures c.requires
