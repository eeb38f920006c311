-- The lines of bytes, and the texts that empty lines part.
use Rattle.std.proofs.Common.{◌≡◌, ℕ, suc, ◌+◌, ◌-◌, ◌<◌, ◌≤◌, Bool, true, false, ◌&&◌, List, [], ◌∷◌, ◌++◌, length, take, drop, get_or, refl, sym, subst, ap, ◌∙◌, arith, Bor, take_all, append_assoc, add-one, drop-cons, length-drop, inl, inr}
use Rattle.std.specs.Prelude.{if◌then◌else◌, not, ◌==◌, zero, map, Option, Some, None, slice_get}
use Rattle.std.specs.List.{slice_split, onto_first, position_or_len, before_first, after_first}
use Rattle.std.proofs.Math.Nat.{sub_self}
use Rattle.std.proofs.Math.Seq.{take-suc}
use Rattle.std.proofs.lemmas.Bool.{cases_lt, eqb-true}
use Rattle.std.proofs.lemmas.List.{append-nil, drop_all, get_or-drop}
use Rattle.std.proofs.lemmas.List.Splits.{slice_split_first, length-slice_split}
use Rattle.std.proofs.lemmas.List.Sums.{position_or_len_is, prefix_len-le-length}
use Rattle.watch_record.specs.Lines.{is_feed, first_line}
use Rattle.watch_record.specs.Between.{some_text, but_empty_last, all_lines, texts_at}
use Rattle.watch_record.proofs.LineLemmas.{split-none-at, first-none, after-shorter}

-- ---- places

pub fails : (b : Bool) → (b ≡ true → ⊥) → b ≡ false
fails true wrong = absurd (wrong refl)
fails false wrong = refl

pub some-left : (n : ℕ) (empty : Bool) → empty ≡ (n == 0) → empty ≡ false → 0 < n
some-left zero empty is not_empty = cc
some-left (suc n) empty is not_empty = omega arith

pub place-found : (bytes : List ℕ) (at : ℕ) → at < length bytes → ((k : ℕ) → k < at → is_feed (get_or bytes k 0) ≡ true → ⊥) → is_feed (get_or bytes at 0) ≡ true
    → position_or_len is_feed bytes ≡ at
place-found bytes at inside before here = position_or_len_is is_feed bytes at 0 (omega arith) (λ k below. fails _ (before k below)) (λ h. here)

pub place-none : (bytes : List ℕ) → ((k : ℕ) → k < length bytes → is_feed (get_or bytes k 0) ≡ true → ⊥) → position_or_len is_feed bytes ≡ length bytes
place-none bytes none = position_or_len_is is_feed bytes (length bytes) 0 (omega arith) (λ k below. fails _ (none k below)) (λ h. absurd (omega (arith, h)))

-- ---- lines

some-text : (text : List ℕ) → 0 < length text → some_text text ≡ text ∷ []
some-text [] some = absurd (omega arith)
some-text (b ∷ text) some = refl

kept-front : (line : List ℕ) (lines : List (List ℕ)) → 0 < length lines → but_empty_last (line ∷ lines) ≡ line ∷ but_empty_last lines
kept-front line [] some = absurd (omega arith)
kept-front line (next ∷ lines) some = refl

pub after-none : (bytes : List ℕ) → position_or_len is_feed bytes ≡ length bytes → after_first is_feed bytes ≡ []
after-none bytes none = ap (λ n. drop (n + 1) bytes) none ∙ drop_all (length bytes + 1) bytes (omega arith)

-- the lines of bytes are the first one, and those behind it
pub lines-next : (bytes : List ℕ) → 0 < length bytes → all_lines bytes ≡ first_line bytes ∷ all_lines (after_first is_feed bytes)
lines-next bytes some = elim (cases_lt (position_or_len is_feed bytes) (length bytes)) [
  | inl within ↦ ap but_empty_last (slice_split_first is_feed bytes 0 within)
      ∙ kept-front (before_first is_feed bytes) (slice_split is_feed (after_first is_feed bytes)) (omega (arith, length-slice_split is_feed (after_first is_feed bytes)))
  | inr past ↦
      let none : position_or_len is_feed bytes ≡ length bytes = omega (arith, past, prefix_len-le-length (λ b. not (is_feed b)) bytes) in
      ap but_empty_last (split-none-at bytes none) ∙ some-text bytes some ∙ ap (λ line. line ∷ []) (sym (first-none bytes none))
      ∙ ap (λ rest. first_line bytes ∷ all_lines rest) (sym (after-none bytes none))
]

pub lines-shorter : (bytes : List ℕ) → 0 < length bytes → length (after_first is_feed bytes) < length bytes
lines-shorter bytes some = elim (cases_lt (position_or_len is_feed bytes) (length bytes)) [
  | inl within ↦ after-shorter bytes within
  | inr past ↦
      let none : position_or_len is_feed bytes ≡ length bytes = omega (arith, past, prefix_len-le-length (λ b. not (is_feed b)) bytes) in
      omega (arith, some, ap length (after-none bytes none))
]

-- ---- texts

-- bytes put before the first of texts
abbrev pub led_by : List ℕ → List (List ℕ) → List (List ℕ)
led_by piece [] = piece ∷ []
led_by piece (text ∷ texts) = (piece ++ text) ∷ texts

led-onto : (piece : List ℕ) (b : ℕ) (texts : List (List ℕ)) → led_by piece (onto_first b texts) ≡ led_by (piece ++ b ∷ []) texts
led-onto piece b [] = refl
led-onto piece b (text ∷ texts) = ap (λ t. t ∷ texts) (sym (append_assoc piece (b ∷ []) text))

led-nothing : (fresh : Bool) (bytes : List ℕ) → led_by [] (texts_at fresh bytes) ≡ texts_at fresh bytes
led-nothing fresh [] = refl
led-nothing fresh (b ∷ bytes) = by_test (is_feed b && fresh)
  where
    by_texts : (texts : List (List ℕ)) → led_by [] (onto_first b texts) ≡ onto_first b texts
    by_texts [] = refl
    by_texts (text ∷ texts) = refl

    by_test : (t : Bool) → led_by [] (if t then [] ∷ texts_at true bytes else onto_first b (texts_at (is_feed b) bytes)) ≡ (if t then [] ∷ texts_at true bytes else onto_first b (texts_at (is_feed b) bytes))
    by_test true = refl
    by_test false = by_texts (texts_at (is_feed b) bytes)

texts-go-on : (fresh : Bool) (b : ℕ) (bytes : List ℕ) → (is_feed b && fresh) ≡ false → texts_at fresh (b ∷ bytes) ≡ onto_first b (texts_at (is_feed b) bytes)
texts-go-on fresh b bytes passes = rw passes refl

texts-end : (fresh : Bool) (b : ℕ) (bytes : List ℕ) → (is_feed b && fresh) ≡ true → texts_at fresh (b ∷ bytes) ≡ [] ∷ texts_at true bytes
texts-end fresh b bytes ends = rw ends refl

pub ends-fresh : (b : ℕ) (fresh : Bool) → b ≡ 10 → fresh ≡ true → (is_feed b && fresh) ≡ true
ends-fresh b fresh feed is = rw (feed, is) refl

pub passes-stale : (b : ℕ) (fresh : Bool) → fresh ≡ false → (is_feed b && fresh) ≡ false
passes-stale b fresh stale = by_test (is_feed b) fresh stale
  where
    by_test : (t f : Bool) → f ≡ false → (t && f) ≡ false
    by_test true f is = is
    by_test false f is = refl

pub passes-other : (b : ℕ) (fresh : Bool) → (b ≡ 10 → ⊥) → (is_feed b && fresh) ≡ false
passes-other b fresh other = ap (λ t. t && fresh) (fails (is_feed b) (λ e. other (eqb-true b 10 e)))

drop-next : (bytes : List ℕ) (at : ℕ) → at < length bytes → drop at bytes ≡ get_or bytes at 0 ∷ drop (at + 1) bytes
drop-next bytes at within = rw add-one (drop-cons bytes at 0 within)

-- these texts stand before `start`, and a further one begins there, which has come up to `at`
pub record Splits (bytes : List ℕ) (before : List (List ℕ)) (start at : ℕ) (fresh : Bool) : Type 0 where
  pub within : start ≤ at
  pub split : texts_at true bytes ≡ before ++ led_by (take (at - start) (drop start bytes)) (texts_at fresh (drop at bytes))

pub splits-begin : (bytes : List ℕ) → Splits bytes [] 0 0 true
splits-begin bytes = record { within = omega arith; split = sym (led-nothing true bytes) }

pub splits-more : (bytes : List ℕ) (before : List (List ℕ)) (start at : ℕ) (fresh : Bool) → at < length bytes → (is_feed (get_or bytes at 0) && fresh) ≡ false
    → Splits bytes before start at fresh → Splits bytes before start (at + 1) (is_feed (get_or bytes at 0))
splits-more bytes before start at fresh inside passes is =
    let b = get_or bytes at 0 in
    let piece = take (at - start) (drop start bytes) in
    let rest = texts_at (is_feed b) (drop (at + 1) bytes) in
    let next : texts_at fresh (drop at bytes) ≡ onto_first b rest = ap (texts_at fresh) (drop-next bytes at inside) ∙ texts-go-on fresh b (drop (at + 1) bytes) passes in
    let place : start + (at - start) ≡ at = omega (arith, is.within) in
    let here : get_or (drop start bytes) (at - start) 0 ≡ b = get_or-drop start bytes (at - start) 0 ∙ ap (λ n. get_or bytes n 0) place in
    let size : at - start < length (drop start bytes) = omega (arith, is.within, inside, length-drop start bytes) in
    let count : at + 1 - start ≡ suc (at - start) = omega (arith, is.within) in
    let longer : take (at + 1 - start) (drop start bytes) ≡ piece ++ b ∷ [] =
    ap (λ n. take n (drop start bytes)) count ∙ take-suc (drop start bytes) (at - start) 0 size ∙ ap (λ x. piece ++ x ∷ []) here in
    record {
      within = omega (arith, is.within);
      split = is.split ∙ ap (λ t. before ++ led_by piece t) next ∙ ap (λ t. before ++ t) (led-onto piece b rest) ∙ ap (λ p. before ++ led_by p rest) (sym longer);
    }

pub splits-ended : (bytes : List ℕ) (before : List (List ℕ)) (start at : ℕ) (fresh : Bool) → at < length bytes → (is_feed (get_or bytes at 0) && fresh) ≡ true
    → Splits bytes before start at fresh → Splits bytes (before ++ take (at - start) (drop start bytes) ∷ []) (at + 1) (at + 1) true
splits-ended bytes before start at fresh inside ends is =
    let b = get_or bytes at 0 in
    let piece = take (at - start) (drop start bytes) in
    let rest = texts_at true (drop (at + 1) bytes) in
    let next : texts_at fresh (drop at bytes) ≡ [] ∷ rest = ap (texts_at fresh) (drop-next bytes at inside) ∙ texts-end fresh b (drop (at + 1) bytes) ends in
    let none : take (at + 1 - (at + 1)) (drop (at + 1) bytes) ≡ [] = ap (λ n. take n (drop (at + 1) bytes)) (sub_self (at + 1)) in
    record {
      within = omega arith;
      split = is.split ∙ ap (λ t. before ++ led_by piece t) next ∙ ap (λ t. before ++ t ∷ rest) (append-nil piece)
          ∙ sym (append_assoc before (piece ∷ []) rest) ∙ ap (λ t. (before ++ piece ∷ []) ++ t) (sym (led-nothing true (drop (at + 1) bytes)))
          ∙ ap (λ p. (before ++ piece ∷ []) ++ led_by p rest) (sym none);
    }

pub splits-all : (bytes : List ℕ) (before : List (List ℕ)) (start at : ℕ) (fresh : Bool) → length bytes ≤ at → Splits bytes before start at fresh
    → texts_at true bytes ≡ before ++ drop start bytes ∷ []
splits-all bytes before start at fresh past is =
    let piece = take (at - start) (drop start bytes) in
    let whole : piece ≡ drop start bytes = take_all (at - start) (drop start bytes) (omega (arith, is.within, past, length-drop start bytes)) in
    is.split ∙ ap (λ rest. before ++ led_by piece (texts_at fresh rest)) (drop_all at bytes past) ∙ ap (λ t. before ++ t ∷ []) (append-nil piece) ∙ ap (λ t. before ++ t ∷ []) whole

-- ---- the last text, as it is read at the place n

some-none : (text : List ℕ) → length text ≡ 0 → some_text text ≡ []
some-none [] none = refl
some-none (b ∷ text) none = absurd (omega arith)

abbrev pub told : List (Bor (List ℕ)) → List (List ℕ)
told texts = map (λ text. text.now) texts

pub last-empty : (texts : List (Bor (List ℕ))) (n : ℕ) (last : Bor (List ℕ)) → length texts ≡ n + 1 → Some last ≡ slice_get texts n → length last.now ≡ 0
    → told (take n texts) ≡ but_empty_last (told texts)
last-empty [] n last size got none = absurd (omega arith)
last-empty (text ∷ []) zero last size got none = let same : last ≡ text = cc in sym (some-none text.now (ap (λ t. length t.now) (sym same) ∙ none))
last-empty (text ∷ []) (suc n) last size got none = absurd (omega arith)
last-empty (text ∷ next ∷ texts) zero last size got none = absurd (omega arith)
last-empty (text ∷ next ∷ texts) (suc n) last size got none = ap (λ more. text.now ∷ more) (last-empty (next ∷ texts) n last (omega arith) got none)

pub last-some : (texts : List (Bor (List ℕ))) (n : ℕ) (last : Bor (List ℕ)) → length texts ≡ n + 1 → Some last ≡ slice_get texts n → 0 < length last.now
    → told texts ≡ but_empty_last (told texts)
last-some [] n last size got some = absurd (omega arith)
last-some (text ∷ []) zero last size got some = let same : last ≡ text = cc in sym (some-text text.now (subst (λ (t : Bor (List ℕ)). 0 < length t.now) same some))
last-some (text ∷ []) (suc n) last size got some = absurd (omega arith)
last-some (text ∷ next ∷ texts) zero last size got some = absurd (omega arith)
last-some (text ∷ next ∷ texts) (suc n) last size got some = ap (λ more. text.now ∷ more) (last-some (next ∷ texts) n last (omega arith) got some)

pub last-none : (texts : List (Bor (List ℕ))) → length texts ≡ 0 → told texts ≡ but_empty_last (told texts)
last-none [] none = refl
last-none (text ∷ texts) none = absurd (omega arith)

pub none-left : (n : ℕ) (empty : Bool) → empty ≡ (n == 0) → empty ≡ true → n ≡ 0
none-left n empty is is_empty = eqb-true n 0 (sym is ∙ is_empty)

none-past : (texts : List (Bor (List ℕ))) (n : ℕ) → n < length texts → None ≡ slice_get texts n → ⊥
none-past [] n within none = omega arith
none-past (text ∷ texts) zero within none = cc
none-past (text ∷ texts) (suc n) within none = none-past texts n (omega arith) none

pub empty-past : (texts : List (Bor (List ℕ))) → None ≡ slice_get texts (length texts - 1) → length texts ≡ 0
empty-past [] none = refl
empty-past (text ∷ texts) none = absurd (none-past (text ∷ texts) (length (text ∷ texts) - 1) (omega arith) none)
