-- The name begins after an ASCII byte, so on a character's boundary.
use Rattle.std.proofs.Common.{◌≡◌, arith}
use Rattle.std.proofs.lemmas.Str.{IsCharBoundary-after_ascii}
use Rattle.kube_meta.proofs.KeyLemmas.{slash_at}
use Rattle.kube_meta.proofs.keys.Key.name.Goals as goal

pub range_from-requires : goal.range_from-requires
range_from-requires c =
    let slash = slash_at c.self.inside.joined.bytes.items c.self.inside.slash c.self.invariant.0 c.self.invariant.1 in
    let text : c.as_str.result.now ≡ c.self.inside.joined.bytes.items = cc in
    λ _. IsCharBoundary-after_ascii c.as_str.result.now c.self.inside.slash c.as_str.utf8 (rw text slash.0) (rw text (omega (arith, slash.1)))
