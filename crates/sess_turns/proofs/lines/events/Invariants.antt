use Rattle.std.proofs.Common.{take}
use Rattle.std.specs.List.{flat_map}
use Rattle.edge_io.specs.Sent.{IsWrittenOut, sent_through}
use Rattle.watch_rules.specs.Bodies.{Told}
use Rattle.sess_turns.specs.Streams.{frame_of}
use Rattle.sess_turns.proofs.lines.events.Given as goal

-- the lines before this one are written out
abbrev pub invariant-loop-line : goal.invariant-loop-line
invariant-loop-line g l =
    IsWrittenOut (flat_map (λ line. frame_of l.view l.fn.resource (Told line)) (take l.line-index l.lines))
    (sent_through g.K.Sink.written g.K.Sink.settled g.K.Sink.faults l.initial.sink l.sink)
