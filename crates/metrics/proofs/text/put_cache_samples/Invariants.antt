use Rattle.std.proofs.Common.{◌≡◌, ◌++◌, take}
use Rattle.std.specs.List.{flat_map}
use Rattle.metrics.specs.Text as spec
use Rattle.metrics.proofs.text.put_cache_samples.Given as goal

-- the ones before this one are told
abbrev pub invariant-loop-cache : goal.invariant-loop-cache
invariant-loop-cache l = l.text.items ≡ l.initial.text.items ++ flat_map (spec.cache_sample l.figure) (take l.cache-index l.caches)
