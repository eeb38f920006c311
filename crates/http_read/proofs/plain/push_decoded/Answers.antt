use Rattle.std.proofs.Common.{subst, ◌∙◌}
use Rattle.std.specs.Prelude.{IsUtf8}
use Rattle.http_read.proofs.PlainLemmas.{on-ok}
use Rattle.http_read.proofs.plain.push_decoded.Goals as goal

pub returns-clause-utf8 : goal.returns-clause-utf8
returns-clause-utf8 c =
    on-ok c.push_str.result
    (subst IsUtf8 (c.as_str.ensures.value ∙ c.in_ok-decoded.ensures.ok ∙ c.in_ok-decode.ensures.value.2) c.as_str.utf8)
