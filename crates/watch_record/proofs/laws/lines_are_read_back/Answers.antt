use Rattle.watch_record.proofs.ReadBack.{lines-read-back}
use Rattle.watch_record.proofs.laws.lines_are_read_back.Goals as goal

pub returns : goal.returns
returns c = lines-read-back
