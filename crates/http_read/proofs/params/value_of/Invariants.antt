use Rattle.std.proofs.Common.{◌≡◌, map, take}
use Rattle.std.specs.Prelude.{find, None}
use Rattle.std.specs.Str.{bytes_eq}
use Rattle.http_read.specs.Places.{pair_at}
use Rattle.http_read.proofs.params.value_of.Given as goal

-- no pair so far has the name
abbrev pub invariant-loop-place : goal.invariant-loop-place
invariant-loop-place l = find (λ pair. bytes_eq pair.0 l.name) (map (pair_at l.text) (take l.place-index l.places)) ≡ None
