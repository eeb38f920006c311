-- The texts of bookmarks and losses around their numbers.
use Rattle.std.proofs.Common.{◌≡◌, ℕ, zero, suc, ◌+◌, ◌/◌, ◌%◌, ◌<◌, ◌≤◌, ◌^◌, Bool, true, false, List, [], ◌∷◌, ◌++◌, decimal, ◌≢◌, Option, Some, None, take, refl, sym, ap, ◌∙◌, append_assoc, append-nil, arith}
use Rattle.std.specs.Prelude.{codes, ◌==◌, ◌||◌, if◌then◌else◌, MatchOption}
use Rattle.std.specs.List.{position_or_len}
use Rattle.std.specs.Fmt.{digit_glyph, digits, digits_onto}
use Rattle.std.specs.List.{list_any}
use Rattle.std.proofs.lemmas.List.{append_cancel_left, append_cancel_right}
use Rattle.kube_meta.specs.declared.resources.Resource.{Resource}
use Rattle.json.specs.Print.{quoted}
use Rattle.kube_meta.specs.Resources.{api_version_of, kind_of}
use Rattle.json_obj.specs.Replies.{event_front, annotations_text}
use Rattle.json_obj.specs.declared.pieces.EventType.TheVariants as types
use Rattle.json_obj.proofs.PieceTexts.{expired_pieces_text}
use Rattle.meta_view.specs.declared.form.Form.TheVariants.{Whole}
use Rattle.meta_view.specs.Lines.{bookmark_line, expired_line}
use Rattle.watch_lines.specs.Numbers.{is_space, bookmark_front, bookmark_back, loss_front, loss_numbers}

regrouped : (x a v b k c n d r e z : List ℕ)
    → x ++ ((a ++ (v ++ (b ++ (k ++ (c ++ (n ++ (d ++ (r ++ (e ++ []))))))))) ++ z) ≡ (x ++ (a ++ (v ++ (b ++ (k ++ (c ++ (n ++ (d ++ [])))))))) ++ (r ++ (e ++ z))
regrouped x a v b k c n d r e z = simp (append_assoc, append-nil)

pub bookmark_parted : (resource : Resource) (n : ℕ) (closing : Bool) → bookmark_line Whole resource n closing ≡ bookmark_front resource closing ++ (decimal n ++ bookmark_back)
bookmark_parted resource n closing =
    regrouped (event_front types.Bookmark) (codes "{\"apiVersion\":") (quoted (api_version_of resource)) (codes ",\"kind\":") (quoted (kind_of resource)) (codes ",\"metadata\":{")
    (annotations_text closing) (codes "\"resourceVersion\":\"") (decimal n) (codes "\"}}") (codes "}")

loss_regrouped : (x a n m b z : List ℕ) → x ++ ((a ++ (n ++ (codes " (" ++ (m ++ b)))) ++ z) ≡ (x ++ a) ++ (n ++ 32 ∷ (codes "(" ++ (m ++ (b ++ z))))
loss_regrouped x a n m b z = simp append_assoc

pub loss_parted : (at floor : ℕ) → expired_line at floor ≡ loss_front ++ loss_numbers at floor
loss_parted at floor =
    ap (λ (l : List ℕ). event_front types.Error ++ (l ++ codes "}")) (sym (expired_pieces_text at floor))
    ∙ loss_regrouped (event_front types.Error) (codes "{\"apiVersion\":\"v1\",\"code\":410,\"kind\":\"Status\",\"message\":\"too old resource version: ") (decimal at) (decimal floor)
    (codes ")\",\"metadata\":{},\"reason\":\"Expired\",\"status\":\"Failure\"}") (codes "}")

-- ---- digits aren't spaces

glyph : (d : ℕ) → d < 10 → is_space (digit_glyph false d) ≡ false
glyph zero h = refl
glyph (suc zero) h = refl
glyph (suc (suc zero)) h = refl
glyph (suc (suc (suc zero))) h = refl
glyph (suc (suc (suc (suc zero)))) h = refl
glyph (suc (suc (suc (suc (suc zero))))) h = refl
glyph (suc (suc (suc (suc (suc (suc zero)))))) h = refl
glyph (suc (suc (suc (suc (suc (suc (suc zero))))))) h = refl
glyph (suc (suc (suc (suc (suc (suc (suc (suc zero)))))))) h = refl
glyph (suc (suc (suc (suc (suc (suc (suc (suc (suc zero))))))))) h = refl
glyph (suc (suc (suc (suc (suc (suc (suc (suc (suc (suc d)))))))))) h = absurd (omega arith)

abbrev Spaceless : List ℕ → Type 0
Spaceless text = list_any is_space text ≡ false

either : (b : Bool) (xs ys : List ℕ) → Spaceless xs → Spaceless ys → Spaceless (if b then xs else ys)
either true xs ys p q = p
either false xs ys p q = q

one_more : (n : ℕ) (acc : List ℕ) → Spaceless acc → Spaceless (digit_glyph false (n % 10) ∷ acc)
one_more n acc free =
    let small : n % 10 < 10 = omega arith in
    ap (λ (b : Bool). b || list_any is_space acc) (glyph (n % 10) small) ∙ free

from : (k n : ℕ) (acc : List ℕ) → Spaceless acc → Spaceless (digits_onto k 10 false n acc)
from zero n acc free = free
from (suc k) n acc free = either (n / 10 == 0) _ _ (one_more n acc free) (from k (n / 10) _ (one_more n acc free))

pub spaceless : (n : ℕ) → Spaceless (decimal n)
unfolding digits
spaceless n = from 64 n [] refl

-- what stands around the first space
pub around_one : (a b rest others : List ℕ) → Spaceless a → Spaceless b → a ++ 32 ∷ rest ≡ b ++ 32 ∷ others → (a ≡ b) × (rest ≡ others)
around_one [] [] rest others free other_free e = let same : rest ≡ others = cc in (refl, same)
around_one [] (y ∷ b) rest others free other_free e =
    let same : 32 ≡ y = cc in
    let bad : true ≡ false = sym (ap (λ (z : ℕ). is_space z || list_any is_space b) (sym same)) ∙ other_free in
    absurd (cc)
around_one (x ∷ a) [] rest others free other_free e =
    let same : x ≡ 32 = cc in
    let bad : true ≡ false = sym (ap (λ (z : ℕ). is_space z || list_any is_space a) same) ∙ free in
    absurd (cc)
around_one (x ∷ a) (y ∷ b) rest others free other_free e =
    let same : x ≡ y = cc in
    let tails : a ++ 32 ∷ rest ≡ b ++ 32 ∷ others = cc in
    let found = around_one a b rest others (or_right (is_space x) (list_any is_space a) free) (or_right (is_space y) (list_any is_space b) other_free) tails in
    (ap (λ (l : List ℕ). x ∷ l) found.0 ∙ ap (λ (z : ℕ). z ∷ b) same, found.1)
  where
    or_right : (p q : Bool) → (p || q) ≡ false → q ≡ false
    or_right true q bad = absurd (cc)
    or_right false q is = is

spaced : (a rest : List ℕ) → list_any is_space (a ++ 32 ∷ rest) ≡ true
spaced [] rest = refl
spaced (x ∷ a) rest = ap (λ (b : Bool). is_space x || b) (spaced a rest) ∙ or_true (is_space x)
  where
    or_true : (p : Bool) → (p || true) ≡ true
    or_true true = refl
    or_true false = refl

-- no space stands before the first one
pub before_space : (text : List ℕ) (at : ℕ) → position_or_len is_space text ≡ at → list_any is_space (take at text) ≡ false
before_space text at found = ap (λ (n : ℕ). list_any is_space (take n text)) (sym found) ∙ none text
  where
    one : (x : ℕ) (xs : List ℕ) (b : Bool) → is_space x ≡ b → list_any is_space (take (position_or_len is_space xs) xs) ≡ false
        → list_any is_space (take (position_or_len is_space (x ∷ xs)) (x ∷ xs)) ≡ false
    one x xs true is before = rw is refl
    one x xs false is before =
        let n : ℕ = position_or_len is_space xs in
        let next : 1 + n ≡ suc n = omega arith in
        rw is (ap (λ (m : ℕ). list_any is_space (take m (x ∷ xs))) next ∙ ap (λ (c : Bool). c || list_any is_space (take n xs)) is ∙ before)

    none : (xs : List ℕ) → list_any is_space (take (position_or_len is_space xs) xs) ≡ false
    none [] = refl
    none (x ∷ xs) = one x xs (is_space x) refl (none xs)

-- ---- what was read, in other words

-- of digits between two pieces
pub within_both : (r : Option ℕ) (text opens rest digits closes : List ℕ) → text ≡ opens ++ rest → rest ≡ digits ++ closes
    → MatchOption r ((n : ℕ) → n ≤ 2 ^ 62 → digits ≢ decimal n) (λ n. (n ≤ 2 ^ 62) × (digits ≡ decimal n))
    → MatchOption r ((n : ℕ) → n ≤ 2 ^ 62 → text ≢ opens ++ (decimal n ++ closes)) (λ n. (n ≤ 2 ^ 62) × (text ≡ opens ++ (decimal n ++ closes)))
within_both None text opens rest digits closes first last none = λ n le e.
    none n le (append_cancel_right digits (decimal n) closes (sym last ∙ append_cancel_left opens rest (decimal n ++ closes) (sym first ∙ e)))
within_both (Some n) text opens rest digits closes first last is =
    (is.0, first ∙ ap (λ (l : List ℕ). opens ++ l) (last ∙ ap (λ (l : List ℕ). l ++ closes) is.1))

pub within_none : (text opens rest closes : List ℕ) → text ≡ opens ++ rest → ((front : List ℕ) → rest ≢ front ++ closes) → (n : ℕ) → n ≤ 2 ^ 62 → text ≢ opens ++ (decimal n ++ closes)
within_none text opens rest closes first none n le e = none (decimal n) (append_cancel_left opens rest (decimal n ++ closes) (sym first ∙ e))

-- of a bookmark
pub bookmark_read : (r : Option ℕ) (line : List ℕ) (resource : Resource) (closing : Bool) (front back : List ℕ) → front ≡ bookmark_front resource closing → back ≡ bookmark_back
    → MatchOption r ((n : ℕ) → n ≤ 2 ^ 62 → line ≢ front ++ (decimal n ++ back)) (λ n. (n ≤ 2 ^ 62) × (line ≡ front ++ (decimal n ++ back)))
    → MatchOption r ((n : ℕ) → n ≤ 2 ^ 62 → line ≢ bookmark_line Whole resource n closing) (λ n. (n ≤ 2 ^ 62) × (line ≡ bookmark_line Whole resource n closing))
bookmark_read None line resource closing front back front_is back_is none = λ n le e.
    none n le (e ∙ bookmark_parted resource n closing ∙ ap (λ (l : List ℕ). l ++ (decimal n ++ bookmark_back)) (sym front_is) ∙ ap (λ (l : List ℕ). front ++ (decimal n ++ l)) (sym back_is))
bookmark_read (Some n) line resource closing front back front_is back_is is =
    (is.0, is.1 ∙ ap (λ (l : List ℕ). l ++ (decimal n ++ back)) front_is ∙ ap (λ (l : List ℕ). bookmark_front resource closing ++ (decimal n ++ l)) back_is ∙ sym (bookmark_parted resource n closing))

-- of a loss
pub loss_read : (r : Option (ℕ × ℕ)) (line rest : List ℕ) → line ≡ loss_front ++ rest
    → MatchOption r ((at floor : ℕ) → at ≤ 2 ^ 62 → floor ≤ 2 ^ 62 → rest ≢ loss_numbers at floor) (λ loss. (loss.0 ≤ 2 ^ 62) × (loss.1 ≤ 2 ^ 62) × (rest ≡ loss_numbers loss.0 loss.1))
    → MatchOption r ((at floor : ℕ) → at ≤ 2 ^ 62 → floor ≤ 2 ^ 62 → line ≢ expired_line at floor) (λ loss. (loss.0 ≤ 2 ^ 62) × (loss.1 ≤ 2 ^ 62) × (line ≡ expired_line loss.0 loss.1))
loss_read None line rest first none = λ at floor le floor_le e.
    none at floor le floor_le (append_cancel_left loss_front rest (loss_numbers at floor) (sym first ∙ e ∙ loss_parted at floor))
loss_read (Some loss) line rest first is = (is.0, is.1, first ∙ ap (λ (l : List ℕ). loss_front ++ l) is.2 ∙ sym (loss_parted loss.0 loss.1))

pub loss_none : (line : List ℕ) → ((rest : List ℕ) → line ≢ loss_front ++ rest) → (at floor : ℕ) → at ≤ 2 ^ 62 → floor ≤ 2 ^ 62 → line ≢ expired_line at floor
loss_none line none at floor le floor_le e = none (loss_numbers at floor) (e ∙ loss_parted at floor)

-- of its two numbers
abbrev pub back_of_loss : List ℕ
back_of_loss = codes ")\",\"metadata\":{},\"reason\":\"Expired\",\"status\":\"Failure\"}}"

pub first_none : (text first second : List ℕ) → list_any is_space first ≡ false → text ≡ first ++ 32 ∷ second → ((n : ℕ) → n ≤ 2 ^ 62 → first ≢ decimal n)
    → (at floor : ℕ) → at ≤ 2 ^ 62 → floor ≤ 2 ^ 62 → text ≢ loss_numbers at floor
first_none text first second free is none at floor le floor_le e =
    none at le (around_one first (decimal at) second (codes "(" ++ (decimal floor ++ back_of_loss)) free (spaceless at) (sym is ∙ e)).0

pub second_none : (text first second : List ℕ) → list_any is_space first ≡ false → text ≡ first ++ 32 ∷ second → ((n : ℕ) → n ≤ 2 ^ 62 → second ≢ codes "(" ++ (decimal n ++ back_of_loss))
    → (at floor : ℕ) → at ≤ 2 ^ 62 → floor ≤ 2 ^ 62 → text ≢ loss_numbers at floor
second_none text first second free is none at floor le floor_le e =
    none floor floor_le (around_one first (decimal at) second (codes "(" ++ (decimal floor ++ back_of_loss)) free (spaceless at) (sym is ∙ e)).1
