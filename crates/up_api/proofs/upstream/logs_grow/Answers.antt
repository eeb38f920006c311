use Rattle.up_api.proofs.SectionLemmas.{logs_grow_on}
use Rattle.up_api.proofs.upstream.logs_grow.Goals as goal

pub returns : goal.returns
returns c = logs_grow_on
