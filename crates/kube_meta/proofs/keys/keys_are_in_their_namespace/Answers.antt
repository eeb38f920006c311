use Rattle.kube_meta.proofs.KeyLemmas.{keys_in_theirs}
use Rattle.kube_meta.proofs.keys.keys_are_in_their_namespace.Goals as goal

pub returns : goal.returns
returns c = keys_in_theirs
