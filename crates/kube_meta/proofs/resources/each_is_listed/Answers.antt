use Rattle.kube_meta.proofs.ResourceLemmas.{listed}
use Rattle.kube_meta.proofs.resources.each_is_listed.Goals as goal

pub returns : goal.returns
returns c = listed
