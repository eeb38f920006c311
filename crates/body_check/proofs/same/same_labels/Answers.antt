use Rattle.std.proofs.Common.{◌≡◌, ℕ, ◌&&◌, List, bytes_eq, Decides, sym, ap, ◌∙◌}
use Rattle.std.proofs.lemmas.Bool.{and_parts, and_from}
use Rattle.std.proofs.lemmas.Slice.Eq.{bytes_eq-Decides, slice_eq-Decides}
use Rattle.body_check.proofs.same.same_labels.Goals as goal

same_pair : (a b : List ℕ × List ℕ) → Decides (bytes_eq a.0 b.0 && bytes_eq a.1 b.1) (a ≡ b)
same_pair a b = (
  λ pass.
      let both = and_parts (bytes_eq a.0 b.0) (bytes_eq a.1 b.1) pass in
      let first : a.0 ≡ b.0 = (bytes_eq-Decides a.0 b.0).0 both.0 in
      let second : a.1 ≡ b.1 = (bytes_eq-Decides a.1 b.1).0 both.1 in
      λ i. (first i, second i),
  λ e. and_from (bytes_eq a.0 b.0) (bytes_eq a.1 b.1) ((bytes_eq-Decides a.0 b.0).1 (ap (λ (p : List ℕ × List ℕ). p.0) e)) ((bytes_eq-Decides a.1 b.1).1 (ap (λ (p : List ℕ × List ℕ). p.1) e)),
)

pub returns : goal.returns
returns c =
    let decides : Decides c.eq.result (c.pairs.result.now ≡ c.pairs-2.result.now) = slice_eq-Decides same_pair c.pairs.result.now c.pairs-2.result.now c.eq.result c.eq.ensures in
    (λ is. sym c.pairs.ensures.all ∙ decides.0 is ∙ c.pairs-2.ensures.all, λ e. decides.1 (c.pairs.ensures.all ∙ e ∙ sym c.pairs-2.ensures.all))
