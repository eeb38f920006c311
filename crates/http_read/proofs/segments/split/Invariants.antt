use Rattle.std.proofs.Common.{◌≡◌, ◌++◌, map, length}
use Rattle.std.specs.Prelude.{All, IsTrue}
use Rattle.form_urlencoded.specs.Form.{split}
use Rattle.http_read.specs.Pieces.{IsItself}
use Rattle.http_read.specs.Queries.{segment_text, slash}
use Rattle.http_read.proofs.segments.split.Given as goal

-- the segments so far, and those of what is left
abbrev pub invariant-loop-segment : goal.invariant-loop-segment
invariant-loop-segment l = record {
  texts : map segment_text (split slash l.text) ≡ l.segments.items ++ map segment_text (split slash l.rest);
  plain : IsTrue l.plain → All IsItself l.rest;
}

abbrev pub decreases-loop-segment : goal.decreases-loop-segment
decreases-loop-segment l = length l.rest
