use Rattle.std.proofs.Common.{ap, ◌∙◌}
use Rattle.http_read.specs.Pieces.{last_blanks_off}
use Rattle.http_read.proofs.PieceLemmas.{trim-both}
use Rattle.http_read.proofs.pieces.trimmed.Goals as goal

pub returns : goal.returns
returns c = c.without_back.ensures ∙ ap last_blanks_off c.without_front.ensures ∙ trim-both c.args.text.now
