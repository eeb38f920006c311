-- Values in order.
use Rattle.std.proofs.Common.{◌≡◌, ℕ, ◌+◌, ◌<◌, Bool, true, false, cond, List, length, get_or, take, refl, sym, ap, ◌∙◌}
use Rattle.std.specs.Prelude.{◌||◌, ◌↔◌, IsTrue, Contains, bytes_eq}
use Rattle.std.specs.BTreeSet.{BTreeSet, Updates}
use Rattle.std.specs.BTreeMap.{is_at}
use Rattle.std.specs.Cmp.Lexicographic.{slice_cmp}
use Rattle.std.specs.List.{list_any}
use Rattle.std.specs.Ordering.{nat_cmp}
use Rattle.std.proofs.lemmas.Cmp.{nat_list_eq_equiv}
use Rattle.std.proofs.lemmas.List.Folds.{list_any_more}
use Rattle.std.proofs.lemmas.Map.Text.{is_eq-slice_cmp}
use Rattle.label_select.specs.Values.{HasAll, is_in}
use Rattle.label_select.proofs.MeaningLaws.{contains_from_any, any_from_contains}

-- the key that a step is at, and every other one
at_key : (key other : List ℕ) → is_at (slice_cmp nat_cmp key) other ≡ bytes_eq other key
at_key key other = is_eq-slice_cmp key other ∙ nat_list_eq_equiv.symm key other

either : (b c : Bool) → cond b true c ≡ (c || b)
either true true = refl
either true false = refl
either false true = refl
either false false = refl

-- a text that is inserted is in, beside what was
pub added : (old new : BTreeSet (List ℕ)) (text : List ℕ) → Updates (slice_cmp nat_cmp) old new text true → (other : List ℕ) → is_in new other ≡ (is_in old other || bytes_eq other text)
added old new text updates other = updates.0 other ∙ ap (λ b. cond b true (is_in old other)) (at_key text other) ∙ either (bytes_eq other text) (is_in old other)

-- one more text of a list
pub has_more : (texts : List (List ℕ)) (i : ℕ) (old new : BTreeSet (List ℕ)) (text : List ℕ) → i < length texts → text ≡ get_or texts i text → HasAll (take i texts) old
    → ((other : List ℕ) → is_in new other ≡ (is_in old other || bytes_eq other text)) → HasAll (take (i + 1) texts) new
has_more texts i old new text lt is has adds other =
    adds other ∙ ap (λ b. b || bytes_eq other text) (has other) ∙ ap (λ (t : List ℕ). list_any (bytes_eq other) (take i texts) || bytes_eq other t) is ∙ sym (list_any_more (bytes_eq other) texts i text lt)

-- what is in is one of the texts
pub in_is_listed : (texts : List (List ℕ)) (ordered : BTreeSet (List ℕ)) (text : List ℕ) → HasAll texts ordered → IsTrue (is_in ordered text) ↔ Contains texts text
in_is_listed texts ordered text has = (
  λ found. contains_from_any text texts (sym (has text) ∙ found),
  λ listed. has text ∙ any_from_contains text texts listed.0 listed.1 listed.2,
)
