use Rattle.std.proofs.Common.{◌≡◌, ◌+◌, ◌∷◌, length}
use Rattle.std.specs.List.{flat_map}
use Rattle.client_api.specs.Items.{rows_left}
use Rattle.sess_reply.specs.Contents.{shown_row}
use Rattle.sess_reply.proofs.items.later_length.Given as goal

-- what is counted, and then what is left, is as long as all of them
abbrev pub invariant-loop-shown : goal.invariant-loop-shown
invariant-loop-shown l =
    l.total + length (flat_map (λ row. 44 ∷ shown_row l.form row) (rows_left l.shown-iterator))
    ≡ length (flat_map (λ row. 44 ∷ shown_row l.form row) (rows_left l.fn.later))
