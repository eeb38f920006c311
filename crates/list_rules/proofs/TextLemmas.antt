-- Texts that are cut at the first byte of a kind.
use Rattle.std.proofs.Common.{◌≡◌, ℕ, suc, ◌+◌, ◌-◌, ◌<◌, Bool, true, false, List, [], ◌∷◌, ◌++◌, length, take, drop, get_or, Some, None, refl, sym, ap, ◌∙◌, arith, inl, inr, ltb, ◌||◌, drop-cons}
use Rattle.std.proofs.lemmas.Bool.{cases_Bool, lt-ltb, ltb-true, and_parts}
use Rattle.std.proofs.lemmas.List.{take_rest, take-append-drop}
use Rattle.std.proofs.Math.Seq.{take-append_seam, drop-append-add}
use Rattle.std.specs.List.{list_any, list_all, position_or_len}
use Rattle.kube_meta.proofs.KeyLemmas.{any-at, any-none}
use Rattle.list_rules.specs.Tokens.{is_line_feed, line, line_of, IsOneLine}

-- what is no `q` where each is a `p`
pub none_passes : (p q : ℕ → Bool) → ((b : ℕ) → p b ≡ true → q b ≡ false) → (text : List ℕ) → list_all p text ≡ true → list_any q text ≡ false
none_passes p q apart [] passes = refl
none_passes p q apart (b ∷ text) passes =
    let parts = and_parts (p b) (list_all p text) passes in
    rw (apart b parts.0) (none_passes p q apart text parts.1)

-- ---- lines

-- behind a text of one line stands the first line feed
place : (text rest : List ℕ) → IsOneLine text → position_or_len is_line_feed (text ++ 10 ∷ rest) ≡ length text
place [] rest one = refl
place (b ∷ text) rest one = elim (cases_Bool (is_line_feed b)) [
  | inl here ↦ let bad : true ≡ false = rw here at one in absurd (cc)
  | inr other ↦ let later : IsOneLine text = rw other at one in rw (other, place text rest later) (omega arith)
]

has_line : (text rest : List ℕ) → list_any is_line_feed (text ++ 10 ∷ rest) ≡ true
has_line [] rest = refl
has_line (b ∷ text) rest = either (is_line_feed b) (list_any is_line_feed (text ++ 10 ∷ rest)) (has_line text rest)
  where
    either : (a b : Bool) → b ≡ true → (a || b) ≡ true
    either true b e = refl
    either false b e = e

-- so the line is read back
pub line_back : (text rest : List ℕ) → IsOneLine text → line_of (line text rest) ≡ Some (text, rest)
line_back text rest one =
    let here = place text rest one in
    rw (has_line text rest, here, take-append_seam text (10 ∷ rest), drop-append-add text (10 ∷ rest) 1) refl

-- the code's cut is the first line
pub line_cut : (text : List ℕ) (at : ℕ) → position_or_len is_line_feed text ≡ at → at < length text
    → Some (take at text, take (length text - (at + 1)) (drop (at + 1) text)) ≡ line_of text
line_cut text at found within =
    rw (any-at is_line_feed text at found within, found, take_rest text (at + 1)) refl

pub line_none : (text : List ℕ) → position_or_len is_line_feed text ≡ length text → None ≡ line_of text
line_none text none = rw (any-none is_line_feed text none) refl
