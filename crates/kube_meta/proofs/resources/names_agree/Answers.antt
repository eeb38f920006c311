use Rattle.kube_meta.proofs.ResourceLemmas.{agree}
use Rattle.kube_meta.proofs.resources.names_agree.Goals as goal

pub returns : goal.returns
returns c = agree
