use Rattle.kube_meta.proofs.KeyLemmas.{tested}
use Rattle.kube_meta.proofs.keys.keys_are_tested.Goals as goal

pub returns : goal.returns
returns c = tested
