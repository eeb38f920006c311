-- The texts of a token that are each one line.
use Rattle.std.proofs.Common.{◌≡◌, ℕ, zero, suc, ◌^◌, ◌<◌, ◌≤◌, Bool, true, false, List, [], ◌∷◌, refl, sym, ap, ◌∙◌, subst, arith, inl, inr, not, Some, bytes_eq}
use Rattle.std.specs.Prelude.{find}
use Rattle.std.proofs.lemmas.Bool.{cases_Bool, and_parts, not-true, eqb-true, false_from_ne_true, false≢true}
use Rattle.std.proofs.lemmas.Bool.Decides.{nat_tests}
use Rattle.std.proofs.lemmas.List.Folds.{list_any-append}
use Rattle.std.specs.List.{list_any, list_all, slice_split, onto_first}
use Rattle.std.specs.Str.{IsAscii}
use Rattle.std.proofs.lemmas.Fmt.{digits_decimal}
use Rattle.std.specs.Char.{is_ascii_digit}
use Rattle.std.specs.Fmt.{decimal}
use Rattle.kube_meta.specs.declared.resources.Resource.{Resource}
use Rattle.kube_meta.specs.Resources.{plural_of, all_resources}
use Rattle.kube_meta.specs.Keys.{IsKey, namespace_of, name_of}
use Rattle.kube_meta.proofs.NameLemmas.{is_name_byte, bytes_of_name, bytes_of_namespace}
use Rattle.kube_meta.proofs.ResourceLemmas.{plurals}
use Rattle.kube_meta.proofs.RevisionLemmas.{own, all_ascii_digits-list_all}
use Rattle.list_rules.specs.Tokens.{is_line_feed, IsOneLine}
use Rattle.list_rules.proofs.TextLemmas.{none_passes}

not_feed : (b : ℕ) → is_name_byte b ≡ true → is_line_feed b ≡ false
not_feed b passes = false_from_ne_true (is_line_feed b) (λ feed.
    let here : b ≡ 10 = eqb-true b 10 feed in
    false≢true (subst (λ c. is_name_byte c ≡ true) here passes))

digit_not_feed : (b : ℕ) → is_ascii_digit b ≡ true → is_line_feed b ≡ false
digit_not_feed b passes = false_from_ne_true (is_line_feed b) (λ feed.
    let here : b ≡ 10 = eqb-true b 10 feed in
    false≢true (subst (λ c. is_ascii_digit c ≡ true) here passes))

pub name_is_one_line : (text : List ℕ) → list_all is_name_byte text ≡ true → IsOneLine text
name_is_one_line text passes = none_passes is_name_byte is_line_feed not_feed text passes

pub revision_is_one_line : (rev : ℕ) → rev ≤ 2 ^ 62 → IsOneLine (decimal rev)
revision_is_one_line rev low =
    none_passes is_ascii_digit is_line_feed digit_not_feed (decimal rev) (sym (all_ascii_digits-list_all (decimal rev)) ∙ digits_decimal own rev (omega arith))

-- what is found among those that all pass a test passes it
found_passes : {A : Type 0} (p q : A → Bool) (xs : List A) (x : A) → find p xs ≡ Some x → list_all q xs ≡ true → q x ≡ true
found_passes p q [] x e all = absurd (cc)
found_passes p q (y ∷ xs) x e all =
    let both = and_parts (q y) (list_all q xs) all in
    elim (cases_Bool (p y)) [
      | inl pass ↦
          let here : Some y ≡ Some x = rw pass at e in
          let same : y ≡ x = cc in
          subst (λ z. q z ≡ true) same both.0
      | inr fail ↦ let later : find p xs ≡ Some x = rw fail at e in found_passes p q xs x later both.1
    ]

pub plural_is_one_line : (r : Resource) → IsOneLine (plural_of r)
plural_is_one_line r =
    not-true (list_any is_line_feed (plural_of r))
    (found_passes (λ x. bytes_eq (plural_of r) (plural_of x)) (λ x. not (list_any is_line_feed (plural_of x))) all_resources r ((plurals (plural_of r) r).1 refl) refl)

pub key_is_one_line : (key : List ℕ) → IsKey key → IsOneLine key
key_is_one_line key is =
    let ns = name_is_one_line (namespace_of key) (bytes_of_namespace (namespace_of key) is.namespace) in
    let name = name_is_one_line (name_of key) (bytes_of_name (name_of key) is.name) in
    ap (list_any is_line_feed) is.parted ∙ list_any-append is_line_feed (namespace_of key) (47 ∷ name_of key) ∙ rw (ns, name) refl
