use Rattle.std.proofs.Common.{◌≡◌, ◌++◌, take}
use Rattle.std.specs.List.{flat_map}
use Rattle.metrics.specs.Text as spec
use Rattle.metrics.proofs.mirrors.put_figures.Given as goal

-- the ones before this one are told
abbrev pub invariant-loop-figure : goal.invariant-loop-figure
invariant-loop-figure l = l.text.items ≡ l.initial.text.items ++ flat_map (spec.mirror_text l.mirrors) (take l.figure-index l.figures)
