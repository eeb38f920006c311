-- Objects with the same parts are the same.
use Rattle.std.proofs.Common.{◌≡◌, ℕ, ◌≤◌, List, length, ap, ◌∙◌, subst}
use Rattle.std.specs.Coded.{le_prop}
use Rattle.kube_meta.specs.declared.objects.Obj.{Obj}
use Rattle.kube_meta.specs.Labels.{Pairs}

module _ (key : List ℕ) (labels : Pairs) (fields : List (List ℕ)) where
  abbrev made : (front back : List ℕ) (meta_from meta_to : ℕ) → meta_from ≤ length front → meta_to ≤ length back → Obj
  made front back meta_from meta_to p q = record { key = key; labels = labels; fields = fields; front = front; back = back; meta_from = meta_from; meta_to = meta_to; from_in_front = p; to_in_back = q }

  proofs : (front back : List ℕ) (a b : ℕ) (p p' : a ≤ length front) (q q' : b ≤ length back) → made front back a b p q ≡ made front back a b p' q'
  proofs front back a b p p' q q' = ap (λ x. made front back a b x q) (le_prop p p') ∙ ap (λ x. made front back a b p' x) (le_prop q q')

  same_ends : (front back : List ℕ) (a b c d : ℕ) (p : a ≤ length front) (q : b ≤ length back) (p' : c ≤ length front) (q' : d ≤ length back) → a ≡ c → b ≡ d → made front back a b p q ≡ made front back c d p' q'
  same_ends front back a b c d p q p' q' first second =
      subst (λ (n : ℕ). (r : n ≤ length front) → made front back a b p q ≡ made front back n d r q') first
      (λ r. subst (λ (m : ℕ). (s : m ≤ length back) → made front back a b p q ≡ made front back a m r s) second (λ s. proofs front back a b p r q s) q') p'

  same_texts : (front back other_front other_back : List ℕ) (a b c d : ℕ) (p : a ≤ length front) (q : b ≤ length back) (p' : c ≤ length other_front) (q' : d ≤ length other_back) → front ≡ other_front → back ≡ other_back → a ≡ c → b ≡ d
      → made front back a b p q ≡ made other_front other_back c d p' q'
  same_texts front back other_front other_back a b c d p q p' q' fronts backs first second =
      subst (λ (t : List ℕ). (r : c ≤ length t) → made front back a b p q ≡ made t other_back c d r q') fronts
      (λ r. subst (λ (t : List ℕ). (s : d ≤ length t) → made front back a b p q ≡ made front t c d r s) backs (λ s. same_ends front back a b c d p q r s first second) q') p'

pub same_parts : (a b : Obj) → a.key ≡ b.key → a.front ≡ b.front → a.back ≡ b.back → a.labels ≡ b.labels → a.fields ≡ b.fields → a.meta_from ≡ b.meta_from → a.meta_to ≡ b.meta_to → a ≡ b
same_parts a b keys fronts backs labels fields froms tos =
    same_texts a.key a.labels a.fields a.front a.back b.front b.back a.meta_from a.meta_to b.meta_from b.meta_to a.from_in_front a.to_in_back b.from_in_front b.to_in_back fronts backs froms tos
    ∙ ap (λ (k : List ℕ). made k a.labels a.fields b.front b.back b.meta_from b.meta_to b.from_in_front b.to_in_back) keys
    ∙ ap (λ (l : Pairs). made b.key l a.fields b.front b.back b.meta_from b.meta_to b.from_in_front b.to_in_back) labels
    ∙ ap (λ (f : List (List ℕ)). made b.key b.labels f b.front b.back b.meta_from b.meta_to b.from_in_front b.to_in_back) fields
