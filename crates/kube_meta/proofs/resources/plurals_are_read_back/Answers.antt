use Rattle.kube_meta.proofs.ResourceLemmas.{plurals}
use Rattle.kube_meta.proofs.resources.plurals_are_read_back.Goals as goal

pub returns : goal.returns
returns c = plurals
