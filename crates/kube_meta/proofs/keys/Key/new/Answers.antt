-- The pieces that were pushed are a joined text, and its parts were tested.
use Rattle.std.proofs.Common.{◌≡◌, ◌++◌, ◌∷◌, [], sym, length, ap, string_bytes, rules, append_assoc, ◌∙◌}
use Rattle.kube_meta.specs.Keys.{joined}
use Rattle.kube_meta.proofs.KeyLemmas.{IsKey-joined, namespace_of-joined}
use Rattle.kube_meta.specs.Names.{IsNamespace, IsObjectName}
use Rattle.kube_meta.proofs.keys.Key.new.Goals as goal

pub invariant_of-result : goal.invariant_of-result
invariant_of-result c =
    let pieces : (c.args.ns ++ 47 ∷ []) ++ c.args.name ≡ joined c.args.ns c.args.name = append_assoc c.args.ns (47 ∷ []) c.args.name in
    let one : string_bytes c.push_str.new.self ≡ c.args.ns ++ 47 ∷ [] = rw (← c.in_ok-joined.ensures) c.in_ok-push_str.ensures.bytes in
    let last : c.as_str-3.result.now ≡ c.args.name = cc in
    let two : string_bytes c.push_str-2.new.self ≡ string_bytes c.push_str.new.self ++ c.args.name = rw (← last) c.in_ok-push_str-2.ensures.bytes in
    let whole : string_bytes c.push_str-2.new.self ≡ joined c.args.ns c.args.name = two ∙ ap (λ text. text ++ c.args.name) one ∙ pieces in
    let ns : IsNamespace c.args.ns = search rules in
    let name : IsObjectName c.args.name = search rules in
    let before : c.as_str-slash.result.now ≡ c.args.ns = cc in
    rw whole (IsKey-joined c.args.ns c.args.name ns name, rw before (ap length (sym (namespace_of-joined c.args.ns c.args.name ns))))
