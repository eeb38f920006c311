use Rattle.std.proofs.Common.{◌≡◌, ◌*◌}
use Rattle.std.specs.List.{flat_map, range_with_len}
use Rattle.load_gen.specs.Draws.{state_after}
use Rattle.load_gen.specs.Requests.{request_at, request_text}
use Rattle.load_gen.proofs.session.make.Given as goal

abbrev pub invariant-loop-number : goal.invariant-loop-number
invariant-loop-number l =
    (l.draws.state ≡ state_after l.fn.from (3 * l._number))
    × (l.bytes.items ≡ flat_map (λ number. request_text (request_at l.fn.from number)) (range_with_len 0 l._number))
