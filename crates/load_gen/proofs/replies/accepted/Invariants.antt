use Rattle.std.proofs.Common.{◌≡◌, ◌≤◌, take}
use Rattle.std.specs.List.{count_by}
use Rattle.load_gen.specs.Replies.{is_ok}
use Rattle.load_gen.proofs.replies.accepted.Given as goal

abbrev pub invariant-loop-code : goal.invariant-loop-code
invariant-loop-code l = (l.ok ≡ count_by is_ok (take l.code-index l.codes)) × (l.ok ≤ l.code-index)
