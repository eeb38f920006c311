use Rattle.kube_meta.proofs.KeyLemmas.{tells_apart}
use Rattle.kube_meta.proofs.keys.joined_texts_tell_keys_apart.Goals as goal

pub returns : goal.returns
returns c = tells_apart
