-- On the grammars of names.
use Rattle.std.proofs.Common.{◌≡◌, ℕ, zero, ◌+◌, ◌<◌, ◌-◌, suc, length-drop, Bool, true, false, not, cond, List, [], ◌∷◌, ◌++◌, length, ltb, ◌||◌, ◌&&◌, refl, Some, None, take, drop, position, inl, inr, sym, ◌∙◌, subst, arith}
use Rattle.std.proofs.lemmas.Bool.{false_from_ne_true, and_parts, eqb-true, false≢true, cases_Bool, cond-true, cond-false}
use Rattle.std.proofs.lemmas.Bool.Decides.{nat_tests}
use Rattle.std.proofs.Math.Seq.{take-length}
use Rattle.std.specs.List.{list_all, list_any, position_or_len, slice_split, onto_first}
use Rattle.std.specs.Str.{IsAscii}
use Rattle.kube_meta.specs.Names.{is_slash, is_dot, is_dns_byte, is_dns_part, is_namespace, is_object_name, is_label_key, is_label_name, is_dns_subdomain}

-- a byte of a DNS name is no slash
not_slash : (b : ℕ) → is_dns_byte b ≡ true → is_slash b ≡ false
not_slash b passes = false_from_ne_true (is_slash b) (λ slash.
    let here : b ≡ 47 = eqb-true b 47 slash in
    false≢true (subst (λ c. is_dns_byte c ≡ true) here passes))

-- after a DNS name the first slash is the one that follows
pub place_of_slash : (ns after : List ℕ) → list_all is_dns_byte ns ≡ true → position_or_len is_slash (ns ++ 47 ∷ after) ≡ length ns
place_of_slash [] after passes = refl
place_of_slash (b ∷ ns) after passes =
    let parts = and_parts _ _ passes in
    rw (not_slash b parts.0, place_of_slash ns after parts.1) (omega arith)

-- a test passes somewhere just where the first such place is within the list
pub list_any-position : {X : Type 0} (p : X → Bool) (xs : List X) → list_any p xs ≡ ltb (position_or_len p xs) (length xs)
list_any-position p [] = refl
list_any-position p (x ∷ xs) = by (p x) (list_any p xs) (position_or_len p xs) (length xs) (list_any-position p xs)
  where
    by : (b any : Bool) (m n : ℕ) → any ≡ ltb m n → (b || any) ≡ ltb (cond (not b) (1 + m) 0) (suc n)
    by true any m n e = grind (arith, nat_tests)
    by false any m n e = grind (arith, nat_tests)

some_same : {a b : ℕ} → Some a ≡ Some b → a ≡ b
some_same e = cc

-- a label key with a slash, and one with none
pub label_key_parted : (text : List ℕ) (slash : ℕ) → position is_slash text ≡ Some slash → is_label_key text ≡ (is_dns_subdomain (take slash text) && is_label_name (drop (slash + 1) text))
label_key_parted text slash found = elim (cases_Bool (ltb (position_or_len is_slash text) (length text))) [
  | inl within ↦
      let here : position_or_len is_slash text ≡ slash = some_same (sym (cond-true _ _ _ within) ∙ found) in
      let any : list_any is_slash text ≡ true = list_any-position is_slash text ∙ within in
      rw (any, here) refl
  | inr past ↦ let none : None ≡ Some slash = sym (cond-false _ _ _ past) ∙ found in absurd (cc)
]

pub label_key_whole : (text : List ℕ) → position is_slash text ≡ None → is_label_key text ≡ is_label_name text
label_key_whole text absent = elim (cases_Bool (ltb (position_or_len is_slash text) (length text))) [
  | inl within ↦ let some : Some (position_or_len is_slash text) ≡ None = sym (cond-true _ _ _ within) ∙ absent in absurd (cc)
  | inr past ↦
      let any : list_any is_slash text ≡ false = list_any-position is_slash text ∙ past in
      rw any refl
]

-- a slice to the end
pub rest_whole : (n : ℕ) (text : List ℕ) → take (length text - n) (drop n text) ≡ drop n text
rest_whole n text = rw (← length-drop n text) (take-length (drop n text))

-- ---- the bytes of names

-- a byte of a name
abbrev pub is_name_byte : ℕ → Bool
is_name_byte b = is_dns_byte b || is_dot b

-- the bytes of each part
weaker : (parts : List (List ℕ)) → list_all is_dns_part parts ≡ true → list_all (list_all is_dns_byte) parts ≡ true
weaker [] passes = refl
weaker (part ∷ parts) passes =
    let both = and_parts (is_dns_part part) (list_all is_dns_part parts) passes in
    let inner : list_all is_dns_byte part ≡ true = (and_parts _ _ (and_parts _ _ both.0).1).0 in
    rw inner (weaker parts both.1)

onto : (b : ℕ) (parts : List (List ℕ)) → list_all (list_all is_dns_byte) (onto_first b parts) ≡ true → (is_dns_byte b ≡ true) × (list_all (list_all is_dns_byte) parts ≡ true)
onto b [] passes = ((and_parts _ _ (and_parts _ _ passes).0).0, refl)
onto b (part ∷ parts) passes =
    let both = and_parts (list_all is_dns_byte (b ∷ part)) (list_all (list_all is_dns_byte) parts) passes in
    let first = and_parts (is_dns_byte b) (list_all is_dns_byte part) both.0 in
    let part_is : list_all is_dns_byte part ≡ true = first.1 in
    (first.0, rw part_is both.1)

bytes_of_parts : (text : List ℕ) → list_all (list_all is_dns_byte) (slice_split is_dot text) ≡ true → list_all is_name_byte text ≡ true
bytes_of_parts [] passes = refl
bytes_of_parts (b ∷ text) passes = elim (cases_Bool (is_dot b)) [
  | inl dot ↦
      let later : list_all (list_all is_dns_byte) (slice_split is_dot text) ≡ true = rw dot at passes in
      rw (dot, bytes_of_parts text later) (or_true (is_dns_byte b))
  | inr other ↦
      let first : list_all (list_all is_dns_byte) (onto_first b (slice_split is_dot text)) ≡ true = rw other at passes in
      let both = onto b (slice_split is_dot text) first in
      rw (both.0, bytes_of_parts text both.1) refl
]
  where
    or_true : (a : Bool) → ((a || true) && true) ≡ true
    or_true true = refl
    or_true false = refl

pub bytes_of_name : (name : List ℕ) → is_object_name name ≡ true → list_all is_name_byte name ≡ true
bytes_of_name name passes = bytes_of_parts name (weaker (slice_split is_dot name) (and_parts _ _ passes).1)

pub bytes_of_namespace : (ns : List ℕ) → is_namespace ns ≡ true → list_all is_name_byte ns ≡ true
bytes_of_namespace ns passes = widened ns (and_parts _ _ (and_parts _ _ (and_parts _ _ passes).1).1).0
  where
    widened : (text : List ℕ) → list_all is_dns_byte text ≡ true → list_all is_name_byte text ≡ true
    widened [] passes = refl
    widened (b ∷ text) passes =
        let both = and_parts (is_dns_byte b) (list_all is_dns_byte text) passes in
        rw (both.0, widened text both.1) refl

-- ---- ASCII

small : (b : ℕ) → is_name_byte b ≡ true → b < 128
small b passes = grind (arith, nat_tests)

pub ascii : (text : List ℕ) → list_all is_name_byte text ≡ true → IsAscii text
ascii [] passes i = omega arith
ascii (b ∷ text) passes i =
    let both = and_parts (is_name_byte b) (list_all is_name_byte text) passes in
    IsAscii-cons b text (small b both.0) (ascii text both.1) i
  where
    IsAscii-cons : (b : ℕ) (text : List ℕ) → b < 128 → IsAscii text → IsAscii (b ∷ text)
    IsAscii-cons b text first later zero = first
    IsAscii-cons b text first later (suc i) = later i
