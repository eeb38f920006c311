-- Pairs that stand in one text, as it grows.
use Rattle.std.proofs.Common.{◌≡◌, ℕ, ◌-◌, ◌≤◌, List, [], ◌∷◌, ◌++◌, length, map, take, drop, refl, sym, ap, subst, ◌∙◌, arith, append_assoc, append-nil, length-append, length-drop, take_at, drop_at}
use Rattle.std.specs.Prelude.{All, IsUtf8, IsCharBoundary}
use Rattle.std.proofs.lemmas.List.{take-append-le, drop-append-le, map-append}
use Rattle.std.proofs.lemmas.List.Elements.{All-head, All-tail, All-push, All-weaker}
use Rattle.std.proofs.lemmas.Str.{IsUtf8-append, IsCharBoundary-at_seam, IsCharBoundary-end}
use Rattle.form_urlencoded.proofs.FormLemmas.{IsCharBoundary_grown}
use Rattle.http_read.specs.declared.places.Place.{Place}
use Rattle.http_read.specs.Places.{pair_at, IsPlaceIn}

-- a part of a text stays where it is
part-stays : (text more : List ℕ) (from to : ℕ) → from ≤ to → to ≤ length text → take (to - from) (drop from (text ++ more)) ≡ take (to - from) (drop from text)
part-stays text more from to o h =
    ap (take (to - from)) (drop-append-le from text more (omega (arith, o, h)))
    ∙ take-append-le (to - from) (drop from text) more (omega (arith, length-drop from text, o, h))

pair-stays : (text more : List ℕ) (place : Place) → IsPlaceIn text place → pair_at (text ++ more) place ≡ pair_at text place
pair-stays text more place h = λ i. (
  part-stays text more place.name place.value h.name_first h.between.0 i,
  part-stays text more place.value place.end h.value_next h.after.0 i,
)

place-stays : (text more : List ℕ) → IsUtf8 text → IsUtf8 (text ++ more) → (place : Place) → IsPlaceIn text place → IsPlaceIn (text ++ more) place
place-stays text more utf8 whole place h = record {
  name_first = h.name_first;
  value_next = h.value_next;
  before = IsCharBoundary_grown text (text ++ more) place.name utf8 whole (more, refl) h.before;
  between = IsCharBoundary_grown text (text ++ more) place.value utf8 whole (more, refl) h.between;
  after = IsCharBoundary_grown text (text ++ more) place.end utf8 whole (more, refl) h.after;
}

pairs-stay : (text more : List ℕ) (places : List Place) → All (IsPlaceIn text) places → map (pair_at (text ++ more)) places ≡ map (pair_at text) places
pairs-stay text more [] h = refl
pairs-stay text more (place ∷ places) h =
    ap (λ pair. pair ∷ map (pair_at (text ++ more)) places) (pair-stays text more place (All-head (IsPlaceIn text) place places h))
    ∙ ap (λ pairs. pair_at text place ∷ pairs) (pairs-stay text more places (All-tail (IsPlaceIn text) place places h))

-- what was put behind a text
part-new : (text new more : List ℕ) (from to : ℕ) → from ≡ length text → to ≡ length (text ++ new) → take (to - from) (drop from (text ++ (new ++ more))) ≡ new
part-new text new more from to f t =
    ap (take (to - from)) (drop_at text (new ++ more) from (sym f)) ∙ take_at new more (to - from) (omega (arith, f, t, length-append text new))

module _ (text name value : List ℕ) (place : Place) (first : place.name ≡ length text) (next : place.value ≡ length (text ++ name))
    (last : place.end ≡ length (text ++ (name ++ value))) where
  new-pair : pair_at (text ++ (name ++ value)) place ≡ (name, value)
  new-pair = λ i. (
    part-new text name value place.name place.value first next i,
    (ap (λ l. take (place.end - place.value) (drop place.value l)) (sym (append_assoc text name value) ∙ sym (append-nil _) ∙ append_assoc (text ++ name) value [])
        ∙ part-new (text ++ name) value [] place.value place.end next (last ∙ ap length (sym (append_assoc text name value)))) i,
  )

  new-place : IsUtf8 name → IsUtf8 value → IsPlaceIn (text ++ (name ++ value)) place
  new-place name_utf8 value_utf8 = record {
    name_first = omega (arith, first, next, length-append text name);
    value_next = omega (arith, next, last, length-append text name, length-append text (name ++ value), length-append name value);
    before = subst (IsCharBoundary (text ++ (name ++ value))) (sym first)
        (IsCharBoundary-at_seam (text ++ (name ++ value)) text (name ++ value) refl (IsUtf8-append name value name_utf8 value_utf8));
    between = subst (IsCharBoundary (text ++ (name ++ value))) (sym next)
        (IsCharBoundary-at_seam (text ++ (name ++ value)) (text ++ name) value (sym (append_assoc text name value)) value_utf8);
    after = subst (IsCharBoundary (text ++ (name ++ value))) (sym last) (IsCharBoundary-end (text ++ (name ++ value)));
  }

-- one more pair, whose name and value were put behind the text
pub pair-more : (text with_name with_value name value : List ℕ) (places more : List Place) (place : Place)
    → with_name ≡ text ++ name → with_value ≡ with_name ++ value → more ≡ places ++ (place ∷ [])
    → place.name ≡ length text → place.value ≡ length with_name → place.end ≡ length with_value
    → IsUtf8 text → IsUtf8 name → IsUtf8 value → All (IsPlaceIn text) places
    → All (IsPlaceIn with_value) more × (map (pair_at with_value) more ≡ map (pair_at text) places ++ ((name, value) ∷ []))
pair-more text with_name with_value name value places more place n v m first next last text_utf8 name_utf8 value_utf8 all =
    let whole : with_value ≡ text ++ (name ++ value) = v ∙ ap (λ l. l ++ value) n ∙ append_assoc text name value in
    let next : place.value ≡ length (text ++ name) = next ∙ ap length n in
    let last : place.end ≡ length (text ++ (name ++ value)) = last ∙ ap length whole in
    let whole_utf8 : IsUtf8 (text ++ (name ++ value)) =
    IsUtf8-append text (name ++ value) text_utf8 (IsUtf8-append name value name_utf8 value_utf8) in
    rw (whole, m) (
      All-push (IsPlaceIn (text ++ (name ++ value))) places place
          (All-weaker (IsPlaceIn text) (IsPlaceIn (text ++ (name ++ value))) (place-stays text (name ++ value) text_utf8 whole_utf8) places all)
          (new-place text name value place first next last name_utf8 value_utf8),
      map-append (pair_at (text ++ (name ++ value))) places (place ∷ [])
          ∙ ap (λ l. l ++ (pair_at (text ++ (name ++ value)) place ∷ [])) (pairs-stay text (name ++ value) places all)
          ∙ ap (λ pair. map (pair_at text) places ++ (pair ∷ [])) (new-pair text name value place first next last),
    )
