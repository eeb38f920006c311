use Rattle.kube_meta.proofs.ResourceLemmas.{groups}
use Rattle.kube_meta.proofs.resources.groups_are_read_back.Goals as goal

pub returns : goal.returns
returns c = groups
