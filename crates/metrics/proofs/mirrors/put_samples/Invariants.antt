use Rattle.std.proofs.Common.{◌≡◌, ◌++◌, take}
use Rattle.std.specs.List.{flat_map}
use Rattle.metrics.specs.Text as spec
use Rattle.metrics.proofs.mirrors.put_samples.Given as goal

-- the ones before this one are told
abbrev pub invariant-loop-mirror : goal.invariant-loop-mirror
invariant-loop-mirror l = l.text.items ≡ l.initial.text.items ++ flat_map (spec.mirror_sample l.figure) (take l.mirror-index l.mirrors)
