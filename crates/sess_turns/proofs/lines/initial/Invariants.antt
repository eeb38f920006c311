use Rattle.std.proofs.Common.{take}
use Rattle.std.specs.List.{flat_map}
use Rattle.edge_io.specs.Sent.{IsWrittenOut, sent_through}
use Rattle.watch_rules.specs.Bodies.{Told, initial}
use Rattle.sess_turns.specs.Streams.{frame_of}
use Rattle.sess_turns.proofs.lines.initial.Given as goal

-- the lines of the objects before this one are written out
abbrev pub invariant-loop-shown : goal.invariant-loop-shown
invariant-loop-shown g l =
    IsWrittenOut (flat_map (λ shown. frame_of l.view l.fn.resource (Told (initial shown.value))) (take l.shown-index l.objects))
    (sent_through g.K.Sink.written g.K.Sink.settled g.K.Sink.faults l.initial.sink l.sink)
