use Rattle.std.proofs.Common.{◌≡◌, ℕ, List}
use Rattle.edge_io.specs.Told.{prepended}
use Rattle.mirror_link.specs.Reading.{HasRows}
use Rattle.mirror_link.proofs.StepLemmas.{room_in}
use Rattle.mirror_link.proofs.opening_lines.read_rows.Given as goal

-- the bytes that were taken are a head and the events of the rows, and the source counted no fault
abbrev pub invariant-loop-base : goal.invariant-loop-base
invariant-loop-base g l =
    ((taken : List ℕ) × (g.S.Source.left l.fn.source ≡ prepended taken (g.S.Source.left l.source)) × HasRows l.selection taken l.rows.items l.reader.at)
    × (g.S.Source.faults l.source ≡ g.S.Source.faults l.fn.source)

abbrev pub decreases-loop-base : goal.decreases-loop-base
decreases-loop-base g l = room_in l.reader.at.room
