use Rattle.std.proofs.Common.{ap, ◌∙◌}
use Rattle.encode_once.specs.Prefixes.{first_bytes}
use Rattle.encode_once.proofs.PrefixLemmas.{long}
use Rattle.encode_once.proofs.prefix.KeyPrefix.of.Goals as goal

pub returns-in-Some : goal.returns-in-Some
returns-in-Some c =
    let chunk = c.in-Some.ensures.cases in
    chunk.same ∙ long 48 c.as_bytes-text.result.now chunk.enough ∙ ap (first_bytes 48) (c.as_bytes-text.ensures.value ∙ c.as_str.ensures.value)
