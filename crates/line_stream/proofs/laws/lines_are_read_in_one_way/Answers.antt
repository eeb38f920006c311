use Rattle.line_stream.proofs.StandLemmas.{bodies-begin, parts-go-on, lines-go-on}
use Rattle.line_stream.proofs.OnlyLemmas.{lines-are-determined}
use Rattle.line_stream.proofs.laws.lines_are_read_in_one_way.Goals as goal

pub returns : goal.returns
returns c =
    record { begin = bodies-begin; parts = parts-go-on; lines = lines-go-on; determined = lines-are-determined }
