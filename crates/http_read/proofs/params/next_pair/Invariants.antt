use Rattle.std.proofs.Common.{◌≡◌, length}
use Rattle.std.specs.Prelude.{All}
use Rattle.form_urlencoded.specs.Form.{raw_pairs}
use Rattle.http_read.specs.Pieces.{IsItself}
use Rattle.http_read.proofs.params.next_pair.Given as goal

-- empty pieces are no pairs
abbrev pub invariant-loop-rest : goal.invariant-loop-rest
invariant-loop-rest l = record {
  pairs : raw_pairs l.rest ≡ raw_pairs l.query;
  plain : All IsItself l.query → All IsItself l.rest;
}

abbrev pub decreases-loop-rest : goal.decreases-loop-rest
decreases-loop-rest l = length l.rest
