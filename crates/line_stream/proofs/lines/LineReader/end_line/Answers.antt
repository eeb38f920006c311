use Rattle.std.proofs.Common.{ap}
use Rattle.line_stream.proofs.ReaderLemmas.{end-reads}
use Rattle.line_stream.proofs.lines.LineReader.end_line.Goals as goal

pub returns : goal.returns
returns c =
    end-reads c.args.self.now.at _ (ap (λ v. v.at) c.self.view_is) c.args.left c.consume.ensures c.clear.ensures.items (ap (λ v. v.items) c.swap.ensures.x_after)
    c.spent-self-inside.ensures c.requires
