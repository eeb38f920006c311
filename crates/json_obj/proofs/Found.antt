-- Members that are found, or aren't there.
use Rattle.std.proofs.Common.{◌≡◌, ℕ, List, [], ◌∷◌, ◌++◌, Option, Some, None, Bool, true, false, Ordering, Less, Equal, Greater, nat_cmp, option_and_then, string_bytes, string_cmp, refl, sym, ap, ◌∙◌, subst, true≢false}
use Rattle.std.proofs.lemmas.Cmp.{nat_list_cmp_total}
use Rattle.std.proofs.lemmas.Slice.Eq.{bytes_eq-Decides}
use Rattle.std.specs.Cmp.Lexicographic.{slice_cmp}
use Rattle.std.specs.List.{AllByRecursion}
use Rattle.std.specs.List.Sorted.{IsStrictlySortedBy}
use Rattle.std.specs.Map.{keys_of}
use Rattle.std.specs.Ordering.{match_ordering, ordering_reverse}
use Rattle.std.specs.Str.{bytes_eq}
use Rattle.kube_meta.specs.Labels.{Pairs, value_at}
use Rattle.serde_json.specs.Data.{Data, null, boolean, number, string, array, object, Members, no_members, member, put}
use Rattle.serde_json.specs.Find.{get, get_member, as_str}
use Rattle.serde_json.specs.View.{view, members_view}
use Rattle.serde_json.specs.Written.{has_float, members_have_float}
use Rattle.json_obj.proofs.Puts.{or-false}
use Rattle.serde_json.proofs.Views.{Entry, put_last, get_member-put, get_member-put_other}

below_middle : (first : Entry) (es : List Entry) (e : Entry) (more : List Entry) → AllByRecursion (λ y. string_cmp first.0 y ≡ Less) (keys_of (es ++ e ∷ more)) → string_cmp first.0 e.0 ≡ Less
below_middle first [] e more h = h.0
below_middle first (x ∷ es) e more h = below_middle first es e more h.1

-- a key that is above those before it isn't among them
pub absent_before : (done : List Entry) (e : Entry) (more : List Entry) → IsStrictlySortedBy string_cmp (keys_of (done ++ e ∷ more)) → get_member (string_bytes e.0) (members_view done) ≡ None
unfolding IsStrictlySortedBy
absent_before [] e more h = refl
absent_before (first ∷ done) e more h =
    let above : slice_cmp nat_cmp (string_bytes e.0) (string_bytes first.0) ≡ Greater =
    nat_list_cmp_total.antisymm (string_bytes e.0) (string_bytes first.0) ∙ ap ordering_reverse (below_middle first done e more h.0) in
    rw above (absent_before done e more h.1)

-- the text at a name
abbrev pub text_of : List ℕ → Members → Option (List ℕ)
text_of name ms = option_and_then as_str (get_member name ms)

-- the labels of one more member
pub labels_more : (done : List Entry) (e : Entry) (more : List Entry) (old new : Pairs)
    → IsStrictlySortedBy string_cmp (keys_of (done ++ e ∷ more))
    → ((name : List ℕ) → value_at old name ≡ text_of name (members_view done))
    → (value_at old (string_bytes e.0) ≡ None → value_at new (string_bytes e.0) ≡ as_str (view e.1))
    → ((other : List ℕ) → (other ≡ string_bytes e.0 → ⊥) → value_at new other ≡ value_at old other)
    → (name : List ℕ) → value_at new name ≡ text_of name (members_view (done ++ e ∷ []))
labels_more done e more old new sorted so_far this others name =
    let k = string_bytes e.0 in
    let last : put k (view e.1) (members_view done) ≡ members_view (done ++ e ∷ []) = put_last done e more sorted in
    let absent : value_at old k ≡ None = so_far k ∙ ap (option_and_then as_str) (absent_before done e more sorted) in
    let here : value_at new k ≡ text_of k (members_view (done ++ e ∷ [])) = this absent ∙ sym (ap (option_and_then as_str) (ap (get_member k) (sym last) ∙ get_member-put k (view e.1) (members_view done))) in
    let there : (name ≡ k → ⊥) → value_at new name ≡ text_of name (members_view (done ++ e ∷ [])) =
    λ other. others name other ∙ so_far name ∙ sym (ap (option_and_then as_str) (ap (get_member name) (sym last) ∙ get_member-put_other name k (view e.1) (members_view done) other)) in
    either (bytes_eq name k) refl here there
  where
    either : (b : Bool) → bytes_eq name (string_bytes e.0) ≡ b → value_at new (string_bytes e.0) ≡ text_of (string_bytes e.0) (members_view (done ++ e ∷ [])) → ((name ≡ string_bytes e.0 → ⊥) → value_at new name ≡ text_of name (members_view (done ++ e ∷ []))) → value_at new name ≡ text_of name (members_view (done ++ e ∷ []))
    either true is here there = subst (λ (x : List ℕ). value_at new x ≡ text_of x (members_view (done ++ e ∷ []))) (sym ((bytes_eq-Decides name (string_bytes e.0)).0 is)) here
    either false is here there = there (λ same. true≢false (sym ((bytes_eq-Decides name (string_bytes e.0)).1 same) ∙ is))

plain-found : (o : Ordering) (rest : Option Data) (d m : Data) → (rest ≡ Some m → has_float m ≡ false) → has_float d ≡ false → match_ordering o rest (Some d) rest ≡ Some m → has_float m ≡ false
plain-found Less rest d m later here e = later e
plain-found Equal rest d m later here e = cc
plain-found Greater rest d m later here e = later e

plain-get_member : (name : List ℕ) (ms : Members) (m : Data) → members_have_float ms ≡ false → get_member name ms ≡ Some m → has_float m ≡ false
plain-get_member name no_members m plain e = cc
plain-get_member name (member l d ms) m plain e =
    let both = or-false (has_float d) (members_have_float ms) plain in
    plain-found (slice_cmp nat_cmp name l) (get_member name ms) d m (plain-get_member name ms m both.1) both.0 e

pub plain-get : (name : List ℕ) (d m : Data) → get name d ≡ Some m → has_float d ≡ false → has_float m ≡ false
plain-get name null m e plain = cc
plain-get name (boolean b) m e plain = cc
plain-get name (number n) m e plain = cc
plain-get name (string s) m e plain = cc
plain-get name (array ds) m e plain = cc
plain-get name (object ms) m e plain = plain-get_member name ms m plain e
