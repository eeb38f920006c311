use Rattle.kube_meta.proofs.LabelLemmas.{NoNameBefore}
use Rattle.kube_meta.proofs.label_pairs.Labels.get.Given as goal

-- no label so far has the name
abbrev pub invariant-loop-known : goal.invariant-loop-known
invariant-loop-known l = NoNameBefore l.self l.name l.known-index
