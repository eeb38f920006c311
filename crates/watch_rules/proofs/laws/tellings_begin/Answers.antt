use Rattle.watch_rules.proofs.LineLemmas.{tellings_begin}
use Rattle.watch_rules.proofs.laws.tellings_begin.Goals as goal

pub returns : goal.returns
returns c = tellings_begin
