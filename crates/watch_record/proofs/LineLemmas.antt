-- Bytes as lines.
use Rattle.std.proofs.Common.{◌≡◌, ℕ, ◌+◌, ◌<◌, false, List, [], ◌∷◌, Option, Some, None, option_map, length, take, drop, refl, ap, ◌∙◌, arith, take_all, length-drop, MatchOption, Bor}
use Rattle.std.specs.List.{slice_split, position_or_len, before_first, after_first, list_any}
use Rattle.std.proofs.lemmas.Bool.{or_parts}
use Rattle.std.proofs.lemmas.List.{drop_all}
use Rattle.std.proofs.lemmas.List.Splits.{slice_split_first, length-slice_split, slice_split-cons_no}
use Rattle.kube_meta.proofs.KeyLemmas.{any-none}
use Rattle.watch_record.specs.Lines.{is_feed, ended, lines_in, first_line, later_lines, Parts, with_line, parts_of}

ended-cons : (line : List ℕ) (lines : List (List ℕ)) → 0 < length lines → ended (line ∷ lines) ≡ line ∷ ended lines
ended-cons line [] some = absurd (omega arith)
ended-cons line (next ∷ lines) some = refl

split-some : (bytes : List ℕ) → 0 < length (slice_split is_feed bytes)
split-some bytes = omega (arith, length-slice_split is_feed bytes)

pub lines-found : (bytes : List ℕ) → position_or_len is_feed bytes < length bytes → lines_in bytes ≡ before_first is_feed bytes ∷ lines_in (after_first is_feed bytes)
lines-found bytes within =
    ap ended (slice_split_first is_feed bytes 0 within)
    ∙ ended-cons (before_first is_feed bytes) (slice_split is_feed (after_first is_feed bytes)) (split-some (after_first is_feed bytes))

split-none : (bytes : List ℕ) → list_any is_feed bytes ≡ false → slice_split is_feed bytes ≡ bytes ∷ []
split-none [] none = refl
split-none (b ∷ bytes) none =
    let parts = or_parts (is_feed b) (list_any is_feed bytes) none in
    rw (slice_split-cons_no is_feed b bytes parts.0, split-none bytes parts.1) refl

pub split-none-at : (bytes : List ℕ) → position_or_len is_feed bytes ≡ length bytes → slice_split is_feed bytes ≡ bytes ∷ []
split-none-at bytes none = split-none bytes (any-none is_feed bytes none)

pub lines-none : (bytes : List ℕ) → position_or_len is_feed bytes ≡ length bytes → lines_in bytes ≡ []
lines-none bytes none = ap ended (split-none-at bytes none)

pub later-none : (bytes : List ℕ) → position_or_len is_feed bytes ≡ length bytes → later_lines bytes ≡ []
later-none bytes none = ap (λ n. lines_in (drop (n + 1) bytes)) none ∙ ap lines_in (drop_all (length bytes + 1) bytes (omega arith))

pub first-none : (bytes : List ℕ) → position_or_len is_feed bytes ≡ length bytes → first_line bytes ≡ bytes
first-none bytes none = ap (λ n. take n bytes) none ∙ take_all (length bytes) bytes (omega arith)

pub after-shorter : (bytes : List ℕ) → position_or_len is_feed bytes < length bytes → length (after_first is_feed bytes) < length bytes
after-shorter bytes within = omega (arith, within, length-drop (position_or_len is_feed bytes + 1) bytes)

-- ---- a text's next line

abbrev IsFound : List ℕ → Option (Bor (List ℕ) × Bor (List ℕ)) → Type 0
IsFound text found =
    MatchOption found (position_or_len is_feed text ≡ length text)
    (λ pieces. (position_or_len is_feed text < length text) × (pieces.0.now ≡ before_first is_feed text) × (pieces.1.now ≡ after_first is_feed text))

abbrev IsNext : List ℕ → Option (Bor (List ℕ) × Bor (List ℕ)) → Type 0
IsNext text found =
    MatchOption found ((first_line text ≡ text) × (lines_in text ≡ []) × (later_lines text ≡ []))
    (λ pieces. (first_line text ≡ pieces.0.now) × (lines_in text ≡ pieces.0.now ∷ lines_in pieces.1.now)
    × (later_lines text ≡ lines_in pieces.1.now) × (length pieces.1.now < length text))

pub next-found : (text : List ℕ) (found : Option (Bor (List ℕ) × Bor (List ℕ))) → IsFound text found → IsNext text found
next-found text None none = (first-none text none, lines-none text none, later-none text none)
next-found text (Some pieces) is =
    (rw is.1 refl, rw (is.1, is.2) (lines-found text is.0), rw is.2 refl, rw is.2 (after-shorter text is.0))

-- ---- the first empty line

pub counted : (line : List ℕ) (lines : List (List ℕ)) (n : ℕ) → 0 < length line
    → option_map (λ (parts : Parts). n + length parts.log) (parts_of (line ∷ lines)) ≡ option_map (λ (parts : Parts). (n + 1) + length parts.log) (parts_of lines)
counted [] lines n some = absurd (omega arith)
counted (b ∷ line) lines n some = one_more (parts_of lines)
  where
    one_more : (found : Option Parts) → option_map (λ (parts : Parts). n + length parts.log) (option_map (with_line (b ∷ line)) found) ≡ option_map (λ (parts : Parts). (n + 1) + length parts.log) found
    one_more None = refl
    one_more (Some parts) = let same : n + length ((b ∷ line) ∷ parts.log) ≡ (n + 1) + length parts.log = omega arith in ap Some same
