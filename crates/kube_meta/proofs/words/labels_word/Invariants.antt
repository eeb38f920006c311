use Rattle.std.proofs.Common.{◌≡◌, take}
use Rattle.kube_meta.specs.Words.{labels_word}
use Rattle.kube_meta.proofs.words.labels_word.Given as goal

-- the bits of the labels so far
abbrev pub invariant-loop-name : goal.invariant-loop-name
invariant-loop-name l = l.word ≡ labels_word (take l.name-index l.name-items)
