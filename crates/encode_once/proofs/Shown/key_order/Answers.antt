use Rattle.std.proofs.Common.{◌≡◌, ℕ, List, ap, sym, ◌∙◌}
use Rattle.std.specs.Cmp.Lexicographic.{slice_cmp}
use Rattle.std.specs.Ordering.{nat_cmp}
use Rattle.kube_meta.specs.Rows.{key_of}
use Rattle.encode_once.specs.Prefixes.{first_bytes}
use Rattle.encode_once.proofs.PrefixLemmas.{in_order}
use Rattle.encode_once.proofs.Shown.key_order.Goals as goal

pub returns-in_default : goal.returns-in_default
returns-in_default c =
    let key = key_of c.args.self.now in
    let theirs = c.sought.invariant ∙ ap (first_bytes 48) c.sought.view_is in
    let told : slice_cmp nat_cmp (first_bytes 48 key) (first_bytes 48 c.args.sought.now) ≡ c.order.result = sym (c.order.ensures ∙ ap (λ (p : List ℕ). slice_cmp nat_cmp p c.sought.inside.prefix.bytes) c.prefix.ensures ∙ ap (slice_cmp nat_cmp (first_bytes 48 key)) theirs) in
    sym (in_order 48 key c.args.sought.now c.order.result told c.in_default.not-Equal)
