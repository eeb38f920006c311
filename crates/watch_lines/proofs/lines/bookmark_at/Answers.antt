use Rattle.watch_lines.proofs.LineLemmas.{no-mark, no-mark-at-zero}
use Rattle.watch_lines.proofs.lines.bookmark_at.Goals as goal

pub returns-in_default : goal.returns-in_default
returns-in_default c = no-mark c.args.resource c.args.text.now c.args.closing c.in_default.ensures

pub returns-then-at-eq0 : goal.returns-then-at-eq0
returns-then-at-eq0 c = no-mark-at-zero c.args.resource c.args.text.now c.args.closing c.in-Some.at c.if-at-eq0.true c.in-Some.ensures.0 c.in-Some.ensures.1
