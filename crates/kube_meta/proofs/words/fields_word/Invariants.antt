use Rattle.std.proofs.Common.{◌≡◌}
use Rattle.kube_meta.specs.Words.{first_fields_word}
use Rattle.kube_meta.proofs.words.fields_word.Given as goal

-- the bits of the fields so far
abbrev pub invariant-loop-place : goal.invariant-loop-place
invariant-loop-place l = l.word ≡ first_fields_word l.fields l.place
