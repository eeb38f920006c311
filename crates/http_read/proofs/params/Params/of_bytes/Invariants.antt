use Rattle.std.proofs.Common.{◌≡◌, ◌++◌, map, length, string_bytes}
use Rattle.std.specs.Prelude.{All, IsTrue}
use Rattle.form_urlencoded.specs.Form.{raw_pairs}
use Rattle.http_read.specs.Pieces.{IsItself}
use Rattle.http_read.specs.Places.{pair_at, IsPlaceIn}
use Rattle.http_read.specs.Queries.{pair_text, query_pairs}
use Rattle.http_read.proofs.params.Params.of_bytes.Given as goal

-- the pairs so far, and those that are left
abbrev pub invariant-loop-name : goal.invariant-loop-name
invariant-loop-name l = record {
  plain : IsTrue l.plain → All IsItself l.rest;
  places : All (IsPlaceIn (string_bytes l.text)) l.places.items;
  pairs : query_pairs l.query ≡ map (pair_at (string_bytes l.text)) l.places.items ++ map pair_text (raw_pairs l.rest);
}

abbrev pub decreases-loop-name : goal.decreases-loop-name
decreases-loop-name l = length (raw_pairs l.rest)
