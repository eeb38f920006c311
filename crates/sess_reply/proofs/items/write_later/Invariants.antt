use Rattle.std.proofs.Common.{◌≡◌, ℕ, List, ◌∷◌, ◌++◌}
use Rattle.std.specs.List.{flat_map}
use Rattle.client_api.specs.Items.{rows_left}
use Rattle.edge_io.specs.Sent.{IsWrittenOut, sent_through}
use Rattle.sess_reply.specs.Contents.{shown_row}
use Rattle.sess_reply.proofs.items.write_later.Given as goal

-- what is written, and then what is left, is all of it
abbrev pub invariant-loop-shown : goal.invariant-loop-shown
invariant-loop-shown g l =
    (done : List ℕ)
    × (done ++ flat_map (λ row. 44 ∷ shown_row l.form row) (rows_left l.shown-iterator) ≡ flat_map (λ row. 44 ∷ shown_row l.form row) (rows_left l.fn.later))
    × IsWrittenOut done (sent_through g.K.Sink.written g.K.Sink.settled g.K.Sink.faults l.initial.sink l.sink)
