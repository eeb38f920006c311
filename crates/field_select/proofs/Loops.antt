-- Reading a value part by part, and terms one after the other, as the loops do.
use Rattle.std.proofs.Common.{◌≡◌, ℕ, suc, ◌<◌, ◌⊎◌, inl, inr, Bool, true, false, eqb, List, [], ◌∷◌, ◌++◌, length, Some, None, Result, Ok, Err, refl, sym, ap, ◌∙◌, subst, append_assoc, arith}
use Rattle.std.specs.Prelude.{◌||◌, not}
use Rattle.std.proofs.lemmas.Bool.{eqb-true}
use Rattle.std.proofs.lemmas.List.{append-nil}
use Rattle.kube_meta.specs.declared.resources.Resource.{Resource}
use Rattle.field_select.specs.declared.reader.Run.TheVariants as runs
use Rattle.field_select.specs.declared.refusal.FieldNo.{FieldNo}
use Rattle.field_select.specs.declared.refusal.FieldNo.TheVariants.{Syntax, TooLong, UnknownField, Memory}
use Rattle.field_select.specs.declared.terms.Term.{Term}
use Rattle.field_select.specs.Bytes.{is_in, is_escaped, begins_with, without, taken, left, Escapes}
use Rattle.field_select.specs.Reading.{◌>>=◌, Fails, Read, place, with_byte, value_at, term_at, terms_at, followed_by}
use Rattle.field_select.proofs.Runs.{either, left_ends, left_shorter}

pub Fails-follows : {X Y : Type 0} (fault : FieldNo) (a : Result X FieldNo) (b : Result Y FieldNo) → (a ≡ Err fault → b ≡ Err fault) → Fails fault a → Fails fault b
Fails-follows (Syntax at) a b h e = h e
Fails-follows (UnknownField at) a b h e = h e
Fails-follows TooLong a b h e = h e
Fails-follows Memory a b h e = tt

-- ---- values

abbrev pub read : {A : Type 0} → A → List ℕ → Read A
read x rest = Ok (x, rest)

-- what was read before, and what is still read
abbrev pub with_front : List ℕ → Read (List ℕ) → Read (List ℕ)
with_front front read = read >>= λ x. Ok (front ++ x.0, x.1)

with_front-append : (a b : List ℕ) (read : Read (List ℕ)) → with_front a (with_front b read) ≡ with_front (a ++ b) read
with_front-append a b (Ok x) = ap (λ (l : List ℕ). Ok (l, x.1)) (sym (append_assoc a b x.0))
with_front-append a b (Err f) = refl

with_front-nil : (read : Read (List ℕ)) → with_front [] read ≡ read
with_front-nil (Ok x) = refl
with_front-nil (Err f) = refl

or_false : (x y : Bool) → (x || y) ≡ false → (x ≡ false) × (y ≡ false)
or_false true y e = absurd cc
or_false false y e = (refl, e)

not_true : (b : Bool) → not b ≡ true → b ≡ false
not_true true e = absurd cc
not_true false e = refl

not_false : (b : Bool) → not b ≡ false → b ≡ true
not_false true e = refl
not_false false e = absurd cc

-- a byte that is not escaped is neither `\`, nor `,`, nor `=`
pub plain_byte : (b : ℕ) → is_escaped b ≡ false → (eqb b 92 ≡ false) × (eqb b 44 ≡ false) × (eqb b 61 ≡ false)
plain_byte b e =
    let first = or_false (eqb b 92) (eqb b 44 || eqb b 61) e in
    let others = or_false (eqb b 44) (eqb b 61) first.1 in
    (first.0, others.0, others.1)

plain_is : (b : ℕ) → is_in runs.Plain b ≡ true → is_escaped b ≡ false
unfolding is_in
plain_is b e = not_true (is_escaped b) e

not_plain : (b : ℕ) → is_in runs.Plain b ≡ false → is_escaped b ≡ true
unfolding is_in
not_plain b e = not_false (is_escaped b) e

-- a plain part of a value, and then what stands behind it
pub value_part : (end : ℕ) (bytes : List ℕ) → value_at end false bytes ≡ with_front (taken (is_in runs.Plain) bytes) (value_at end false (left (is_in runs.Plain) bytes))
unfolding value_at
value_part end [] = refl
value_part end (b ∷ bytes) =
    elim (either (is_in runs.Plain b)) [
      | inl plain ↦
          let p = plain_byte b (plain_is b plain) in
          rw (plain, p.0, p.1, p.2) (ap (with_byte b) (value_part end bytes) ∙ with_front-append (b ∷ []) (taken (is_in runs.Plain) bytes) (value_at end false (left (is_in runs.Plain) bytes)))
      | inr other ↦ rw other (sym (with_front-nil (value_at end false (b ∷ bytes))))
    ]

value_escape : (end : ℕ) (bytes : List ℕ) → value_at end false (92 ∷ bytes) ≡ value_at end true bytes
unfolding value_at
value_escape end bytes = refl

value_escaped : (end b : ℕ) (bytes : List ℕ) → is_escaped b ≡ true → value_at end true (b ∷ bytes) ≡ with_front (b ∷ []) (value_at end false bytes)
unfolding value_at
value_escaped end b bytes e = rw e refl

value_wrong : (end : ℕ) (bytes new : List ℕ) → Escapes bytes None new → value_at end true bytes ≡ Err (Syntax (place end (92 ∷ bytes)))
unfolding value_at
value_wrong end [] new e = refl
value_wrong end (b ∷ bytes) new e = rw e refl

value_equal : (end : ℕ) (bytes : List ℕ) → value_at end false (61 ∷ bytes) ≡ Err (Syntax (place end (61 ∷ bytes)))
unfolding value_at
value_equal end bytes = refl

or_true : (x y : Bool) → (x || y) ≡ true → (x ≡ true) ⊎ (y ≡ true)
or_true true y e = inl refl
or_true false y e = inr e

comma_left : (b : ℕ) → eqb b 92 ≡ false → eqb b 61 ≡ false → is_escaped b ≡ true → eqb b 44 ≡ true
comma_left b no_escape no_equal special =
    elim (or_true (eqb b 92) (eqb b 44 || eqb b 61) special) [
      | inl e ↦ absurd (let wrong : true ≡ false = sym e ∙ no_escape in cc)
      | inr h ↦ elim (or_true (eqb b 44) (eqb b 61) h) [
        | inl e ↦ e
        | inr e ↦ absurd (let wrong : true ≡ false = sym e ∙ no_equal in cc)
      ]
    ]

-- a value ends
pub value_ends : (end : ℕ) (bytes : List ℕ) → begins_with 92 bytes ≡ false → begins_with 61 bytes ≡ false → ((b : ℕ) (rest : List ℕ) → bytes ≡ b ∷ rest → is_escaped b ≡ true) → value_at end false bytes ≡ Ok ([], bytes)
unfolding value_at
value_ends end [] no_escape no_equal special = refl
value_ends end (b ∷ bytes) no_escape no_equal special =
    rw (comma_left b no_escape no_equal (special b bytes refl)) refl

pub first_is : (c : ℕ) (bytes : List ℕ) → true ≡ begins_with c bytes → bytes ≡ c ∷ without c bytes
first_is c [] e = absurd cc
first_is c (b ∷ bytes) e =
    let same = eqb-true b c (sym e) in
    rw (sym e) (ap (λ n. n ∷ bytes) same)

pub not_first : (c : ℕ) (bytes : List ℕ) → false ≡ begins_with c bytes → without c bytes ≡ bytes
not_first c [] e = refl
not_first c (b ∷ bytes) e = rw (sym e) refl

pub escapes_is : (bytes : List ℕ) (c : ℕ) (new : List ℕ) → Escapes bytes (Some c) new → (bytes ≡ c ∷ new) × (is_escaped c ≡ true)
escapes_is [] c new e = absurd cc
escapes_is (b ∷ bytes) c new e = (ap (λ n. n ∷ bytes) e.1 ∙ ap (λ (l : List ℕ). c ∷ l) (sym e.2), rw (← e.1) e.0)

-- ---- one turn of the loop over a value

module _ (end : ℕ) (front bytes : List ℕ) (total : Read (List ℕ)) (so_far : with_front front (value_at end false bytes) ≡ total) where
  -- the plain part is read
  part_read : total ≡ with_front (front ++ taken (is_in runs.Plain) bytes) (value_at end false (left (is_in runs.Plain) bytes))
  part_read =
      sym so_far ∙ ap (with_front front) (value_part end bytes) ∙ with_front-append front (taken (is_in runs.Plain) bytes) (value_at end false (left (is_in runs.Plain) bytes))

  -- the value ends
  pub turn_ends : (part rest behind last : List ℕ) → part ≡ taken (is_in runs.Plain) bytes → rest ≡ left (is_in runs.Plain) bytes → false ≡ begins_with 92 rest → behind ≡ without 92 rest → false ≡ begins_with 61 behind → last ≡ without 61 behind
      → total ≡ Ok (front ++ part, last)
  turn_ends part rest behind last part-is rest-is no_escape behind-is no_equal last-is =
      let same : behind ≡ rest = behind-is ∙ not_first 92 rest no_escape in
      let same_last : last ≡ rest = last-is ∙ not_first 61 behind no_equal ∙ same in
      let special : (b : ℕ) (others : List ℕ) → rest ≡ b ∷ others → is_escaped b ≡ true = λ b others e. not_plain b (left_ends (is_in runs.Plain) bytes b others (sym rest-is ∙ e)) in
      let done = value_ends end rest (sym no_escape) (ap (begins_with 61) (sym same) ∙ sym no_equal) special in
      part_read ∙ ap (with_front (front ++ taken (is_in runs.Plain) bytes)) (ap (value_at end false) (sym rest-is) ∙ done)
      ∙ ap (λ (l : List ℕ). read l rest) (append-nil (front ++ taken (is_in runs.Plain) bytes) ∙ ap (λ (l : List ℕ). front ++ l) (sym part-is)) ∙ ap (read (front ++ part)) (sym same_last)

  -- a `=` stands in the value
  pub turn_equal : (rest behind : List ℕ) → rest ≡ left (is_in runs.Plain) bytes → false ≡ begins_with 92 rest → behind ≡ without 92 rest → true ≡ begins_with 61 behind → total ≡ Err (Syntax (place end rest))
  turn_equal rest behind rest-is no_escape behind-is equal =
      let same : behind ≡ rest = behind-is ∙ not_first 92 rest no_escape in
      let first : rest ≡ 61 ∷ without 61 behind = sym same ∙ first_is 61 behind equal in
      let wrong : value_at end false rest ≡ Err (Syntax (place end rest)) = subst (λ (l : List ℕ). value_at end false l ≡ Err (Syntax (place end l))) (sym first) (value_equal end (without 61 behind)) in
      part_read ∙ ap (with_front (front ++ taken (is_in runs.Plain) bytes)) (ap (value_at end false) (sym rest-is) ∙ wrong)

  -- a `\` escapes nothing
  pub turn_bad : (rest behind new : List ℕ) → rest ≡ left (is_in runs.Plain) bytes → true ≡ begins_with 92 rest → behind ≡ without 92 rest → Escapes behind None new → total ≡ Err (Syntax (place end rest))
  turn_bad rest behind new rest-is escape behind-is nothing =
      let first : rest ≡ 92 ∷ behind = first_is 92 rest escape ∙ ap (λ (l : List ℕ). 92 ∷ l) (sym behind-is) in
      let bad : value_at end false (92 ∷ behind) ≡ Err (Syntax (place end (92 ∷ behind))) = value_escape end behind ∙ value_wrong end behind new nothing in
      let wrong : value_at end false rest ≡ Err (Syntax (place end rest)) = subst (λ (l : List ℕ). value_at end false l ≡ Err (Syntax (place end l))) (sym first) bad in
      part_read ∙ ap (with_front (front ++ taken (is_in runs.Plain) bytes)) (ap (value_at end false) (sym rest-is) ∙ wrong)

  -- an escape is read
  pub turn_more : (part rest behind new : List ℕ) (c : ℕ) → part ≡ taken (is_in runs.Plain) bytes → rest ≡ left (is_in runs.Plain) bytes → true ≡ begins_with 92 rest → behind ≡ without 92 rest → Escapes behind (Some c) new
      → with_front ((front ++ part) ++ c ∷ []) (value_at end false new) ≡ total
  turn_more part rest behind new c part-is rest-is escape behind-is escaped =
      let e = escapes_is behind c new escaped in
      let first : rest ≡ 92 ∷ behind = first_is 92 rest escape ∙ ap (λ (l : List ℕ). 92 ∷ l) (sym behind-is) in
      let more : value_at end false rest ≡ with_front (c ∷ []) (value_at end false new) = ap (value_at end false) first ∙ value_escape end behind ∙ ap (value_at end true) e.0 ∙ value_escaped end c new e.1 in
      sym (part_read ∙ ap (with_front (front ++ taken (is_in runs.Plain) bytes)) (ap (value_at end false) (sym rest-is) ∙ more) ∙ with_front-append (front ++ taken (is_in runs.Plain) bytes) (c ∷ []) (value_at end false new)
      ∙ ap (λ (l : List ℕ). with_front ((front ++ l) ++ c ∷ []) (value_at end false new)) (sym part-is))

-- an escape takes two bytes
pub turn_shorter : (bytes rest behind new : List ℕ) (c : ℕ) → rest ≡ left (is_in runs.Plain) bytes → true ≡ begins_with 92 rest → behind ≡ without 92 rest → Escapes behind (Some c) new → length new < length bytes
turn_shorter bytes rest behind new c rest-is escape behind-is escaped =
    let e = escapes_is behind c new escaped in
    let first : rest ≡ 92 ∷ behind = first_is 92 rest escape ∙ ap (λ (l : List ℕ). 92 ∷ l) (sym behind-is) in
    omega (arith, left_shorter (is_in runs.Plain) bytes, ap (length {A = ℕ}) rest-is, ap (length {A = ℕ}) first, ap (length {A = ℕ}) e.0)

-- ---- terms

abbrev Found : Type 0
Found = Result (List Term) FieldNo

-- what was read before, and what is still read
abbrev pub after_these : List Term → Found → Found
after_these front others = others >>= λ terms. Ok (front ++ terms)

regroup : (front : List Term) (t : Term) (others : Found) → after_these front (followed_by t others) ≡ after_these (front ++ t ∷ []) others
regroup front t (Ok ts) = ap (λ (x : List Term). Ok x) (simp append_assoc)
regroup front t (Err f) = refl

pub terms_step : (resource : Resource) (more end : ℕ) (bytes : List ℕ) → (length bytes ≡ 0 → ⊥) → terms_at resource (suc more) end bytes ≡ (term_at resource end bytes >>= λ t. followed_by t.0 (terms_at resource more end (left (is_in runs.Commas) t.1)))
unfolding terms_at
terms_step resource more end [] some = absurd (some refl)
terms_step resource more end (b ∷ bytes) some = refl

pub terms_none : (resource : Resource) (most end : ℕ) (bytes : List ℕ) → length bytes ≡ 0 → terms_at resource most end bytes ≡ Ok []
unfolding terms_at
terms_none resource most end [] none = refl
terms_none resource most end (b ∷ bytes) none = absurd (omega arith)

pub terms_many : (resource : Resource) (end : ℕ) (bytes : List ℕ) → (length bytes ≡ 0 → ⊥) → terms_at resource 0 end bytes ≡ Err TooLong
unfolding terms_at
terms_many resource end [] some = absurd (some refl)
terms_many resource end (b ∷ bytes) some = refl

pub terms_end : (front : List Term) (others total : Found) → others ≡ Ok [] → after_these front others ≡ total → total ≡ Ok front
terms_end front others total none so_far = sym so_far ∙ ap (after_these front) none ∙ ap (λ (x : List Term). Ok x) (append-nil front)

module _ (resource : Resource) (end : ℕ) (front : List Term) (more : ℕ) (bytes : List ℕ) (total : Found) (some : length bytes ≡ 0 → ⊥) (so_far : after_these front (terms_at resource (suc more) end bytes) ≡ total) where
  pub terms_fail : (fault : FieldNo) → Fails fault (term_at resource end bytes) → Fails fault total
  terms_fail fault fails =
      Fails-follows fault (term_at resource end bytes) total (λ e. sym so_far ∙ ap (after_these front) (terms_step resource more end bytes some ∙ ap (λ (r : Read Term). r >>= λ t. followed_by t.0 (terms_at resource more end (left (is_in runs.Commas) t.1))) e)) fails

  pub terms_more : (t : Term) (rest next : List ℕ) → term_at resource end bytes ≡ Ok (t, rest) → next ≡ left (is_in runs.Commas) rest → after_these (front ++ t ∷ []) (terms_at resource more end next) ≡ total
  terms_more t rest next e next-is =
      let step : terms_at resource (suc more) end bytes ≡ followed_by t (terms_at resource more end (left (is_in runs.Commas) rest)) = terms_step resource more end bytes some ∙ ap (λ (r : Read Term). r >>= λ x. followed_by x.0 (terms_at resource more end (left (is_in runs.Commas) x.1))) e in
      ap (λ (l : List ℕ). after_these (front ++ t ∷ []) (terms_at resource more end l)) next-is ∙ sym (regroup front t (terms_at resource more end (left (is_in runs.Commas) rest))) ∙ ap (after_these front) (sym step) ∙ so_far
