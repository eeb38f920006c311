use Rattle.std.proofs.Common.{◌≡◌, ◌++◌, take}
use Rattle.std.specs.List.{flat_map}
use Rattle.metrics.specs.Text as spec
use Rattle.metrics.proofs.text.put_request_samples.Given as goal

-- the ones before this one are told
abbrev pub invariant-loop-request : goal.invariant-loop-request
invariant-loop-request l = l.text.items ≡ l.initial.text.items ++ flat_map spec.request_sample (take l.request-index l.requests)
