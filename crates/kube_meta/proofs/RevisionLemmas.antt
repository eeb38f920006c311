-- Revisions and their decimal texts.
use Rattle.std.proofs.Common.{◌≡◌, ℕ, ◌^◌, ◌<◌, ◌≤◌, true, false, cond, List, [], ◌∷◌, length, get_or, ltb, ◌&&◌, Result, Ok, Err, refl, sym, ap, inl, inr, Some, None, OkIff, option_and_then, ◌==◌, pos_of_ne-zero, eq-zero-or-pos, ◌∙◌, arith, decimal}
use Rattle.std.specs.Char.{is_ascii_digit}
use Rattle.std.specs.List.{list_all}
use Rattle.std.specs.Result.{result_ok}
use Rattle.std.specs.Str.{all_ascii_digits}
use Rattle.std.specs.Str.Parse.{digits_value}
use Rattle.std.proofs.lemmas.Str.Parse.{IsNumeralModel, numerals_by_value, tells_all_ascii_digits}
use Rattle.std.proofs.lemmas.Fmt.{digits_decimal, digits_value-decimal, decimal-digits_value, decimal_nonempty, first_decimal, decimal_digit}
use Rattle.std.proofs.lemmas.Bool.{cases_Bool, cases_lt, and_right, and_cases, ltb-false, le-ltb, ne_eqb, eqb-false, lt-ltb}
use Rattle.kube_meta.specs.declared.revisions.RevNo.{RevNo}
use Rattle.kube_meta.specs.declared.revisions.RevNo.TheVariants.{Empty, NotDigits, LeadingZero, TooGreat}
use Rattle.kube_meta.specs.Revisions.{revision_of, has_leading_zero, RevisionsAreReadBack}

-- the two words for texts of digits
pub all_ascii_digits-list_all : (text : List ℕ) → all_ascii_digits text ≡ list_all is_ascii_digit text
all_ascii_digits-list_all [] = refl
all_ascii_digits-list_all (c ∷ cs) = ap (λ rest. is_ascii_digit c && rest) (all_ascii_digits-list_all cs)

-- texts of digits, and the number that they write
pub own : IsNumeralModel (λ ds. all_ascii_digits ds ≡ true) (digits_value 10)
own = numerals_by_value _ tells_all_ascii_digits

-- the answer where the text passes each test
passes : (text : List ℕ) → 0 < length text → all_ascii_digits text ≡ true → has_leading_zero text ≡ false → digits_value 10 text ≤ 2 ^ 62 → revision_of text ≡ Ok (digits_value 10 text)
passes text nonempty digits plain small =
    rw (ne_eqb (length text) 0 (omega arith), digits, plain, le-ltb (2 ^ 62) (digits_value 10 text) small) refl

-- only a lone zero begins with `0`
plain : (revision : ℕ) → revision < 2 ^ 64 → has_leading_zero (decimal revision) ≡ false
plain revision fits = elim (eq-zero-or-pos revision) [
  | inl none ↦ rw (none, decimal_digit 0 (omega arith)) refl
  | inr some ↦
      let first = first_decimal revision some fits in
      and_right _ _ (ne_eqb (get_or (decimal revision) 0 0) 48 (omega arith))
]

-- what is written is read back
written : (revision : ℕ) → revision ≤ 2 ^ 62 → revision_of (decimal revision) ≡ Ok revision
written revision small =
    let fits : revision < 2 ^ 64 = omega arith in
    let back : digits_value 10 (decimal revision) ≡ revision = digits_value-decimal own revision fits in
    passes (decimal revision) (decimal_nonempty revision fits) (digits_decimal own revision fits) (plain revision fits) (rw back small) ∙ ap Ok back

ok_same : {a b : ℕ} → ◌≡◌ {A = Result ℕ RevNo} (Ok a) (Ok b) → a ≡ b
ok_same e = cc

nonempty : (text : List ℕ) → (length text == 0) ≡ false → 0 < length text
nonempty text some = pos_of_ne-zero (eqb-false (length text) 0 some)

lone_zero : (text : List ℕ) → 0 < length text → has_leading_zero text ≡ false → get_or text 0 0 ≡ 48 → length text ≡ 1
lone_zero text some none first = elim (and_cases _ _ none) [
  | inl short ↦ let most = ltb-false 1 (length text) short in omega arith
  | inr other ↦ absurd (eqb-false (get_or text 0 0) 48 other first)
]

-- and what is read is what is written of it
read : (text : List ℕ) (revision : ℕ) → revision_of text ≡ Ok revision → (revision ≤ 2 ^ 62) × (text ≡ decimal revision)
read text revision e = elim (cases_Bool (length text == 0)) [
  | inl none ↦ let bad : Err Empty ≡ Ok revision = rw none at e in absurd (cc)
  | inr some ↦ elim (cases_Bool (all_ascii_digits text)) [
    | inr other ↦ let bad : Err NotDigits ≡ Ok revision = rw (some, other) at e in absurd (cc)
    | inl digits ↦ elim (cases_Bool (has_leading_zero text)) [
      | inl zero_first ↦ let bad : Err LeadingZero ≡ Ok revision = rw (some, digits, zero_first) at e in absurd (cc)
      | inr no_zero ↦ elim (cases_Bool (ltb (2 ^ 62) (digits_value 10 text))) [
        | inl great ↦ let bad : Err TooGreat ≡ Ok revision = rw (some, digits, no_zero, great) at e in absurd (cc)
        | inr small ↦
            let good : Ok (digits_value 10 text) ≡ Ok revision = rw (some, digits, no_zero, small) at e in
            let same : digits_value 10 text ≡ revision = ok_same good in
            let bound = ltb-false _ _ small in
            (rw (← same) bound, sym (rw (← same) (decimal-digits_value own text digits (nonempty text some) (lone_zero text (nonempty text some) no_zero) (omega arith))))
      ]
    ]
  ]
]

pub are_read_back : RevisionsAreReadBack
are_read_back = (written, read)

-- a parsed number, held to the bound
pub bounded_parse : {E : Type 0} (r : Result ℕ E) (text : List ℕ) (v : ℕ) → 0 < length text → OkIff r ((0 < length text) × (v < 2 ^ 64)) v → option_and_then (λ n. cond (ltb (2 ^ 62) n) None (Some n)) (result_ok r) ≡ cond (ltb (2 ^ 62) v) None (Some v)
bounded_parse (Ok x) text v nonempty is = rw is.1 refl
bounded_parse (Err e) text v nonempty is = elim (cases_lt v (2 ^ 64)) [
  | inl fits ↦ absurd (is (nonempty, fits))
  | inr great ↦ rw (lt-ltb (2 ^ 62) v (omega arith)) refl
]
