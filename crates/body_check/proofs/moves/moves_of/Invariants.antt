use Rattle.std.proofs.Common.{◌≡◌, take}
use Rattle.rev_log.specs.Rows.{Holds}
use Rattle.body_check.proofs.MoveLemmas.{told_by}
use Rattle.body_check.specs.Moves.{standing}
use Rattle.body_check.proofs.moves.moves_of.Given as goal

-- the map holds what the revisions so far leave, and the transitions are theirs
abbrev pub invariant-loop-revision : goal.invariant-loop-revision
invariant-loop-revision l = record {
  rows : Holds l.rows (standing l.selection.resource (take l.revision-index l.log));
  told : l.moves.items ≡ told_by l.selection (take l.revision-index l.log);
}
