use Rattle.std.proofs.Common.{sym, ◌∙◌}
use Rattle.watch_record.proofs.CaseLemmas.{in-range}
use Rattle.watch_record.proofs.reading.read_text.Goals as goal

pub read_behind-requires-clause-ranged : goal.read_behind-requires-clause-ranged
read_behind-requires-clause-ranged c = in-range c.head_of.result.0.now c.in-Some.header (sym c.in_ok-header.ensures ∙ c.in-Some.is)
