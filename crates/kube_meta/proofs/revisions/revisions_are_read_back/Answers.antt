use Rattle.kube_meta.proofs.RevisionLemmas.{are_read_back}
use Rattle.kube_meta.proofs.revisions.revisions_are_read_back.Goals as goal

pub returns : goal.returns
returns c = are_read_back
