-- The later lists of a record of an unknown log.
use Rattle.std.proofs.Common.{◌≡◌, ℕ, zero, suc, ◌+◌, ◌<◌, ◌≤◌, ◌^◌, Bool, true, false, List, [], ◌∷◌, ◌++◌, length, take, drop, get_or, refl, sym, subst, ap, ◌∙◌, arith, add-one, Bor, inl, inr}
use Rattle.std.specs.Prelude.{All, nat_lt, map, if◌then◌else◌, not, Option, Some, None, option_and_then, IsUtf8}
use Rattle.std.specs.Str.{is_utf8}
use Rattle.std.proofs.lemmas.Str.{IsUtf8-from_is_utf8, is_utf8-from_IsUtf8}
use Rattle.serde_json.specs.Read.{read}
use Rattle.std.specs.List.{AllPairs, position_or_len, after_first}
use Rattle.std.proofs.lemmas.Bool.{cases_lt, ltb-true, ltb-false, lt-ltb, le-ltb}
use Rattle.std.proofs.lemmas.List.{drop_all, take-append-drop, length-map, length-take-le, get_or_default}
use Rattle.std.proofs.lemmas.List.Sums.{position_or_len_is}
use Rattle.std.proofs.lemmas.List.Elements.{All-nil, All-cons, All-head, All-tail, All-weaker, All-push}
use Rattle.std.proofs.lemmas.List.Kept.{AllPairs-cons}
use Rattle.kube_meta.specs.declared.resources.Resource.{Resource}
use Rattle.kube_meta.specs.Rows.{RowData}
use Rattle.watch_record.specs.Lines.{is_feed, first_line}
use Rattle.watch_record.specs.Between.{LaterData, IsLaterRead, IsFullList, IsListRead, put, AreLaterOf, IsSomeLater, IsBadLater, IsBadList, AreLaterRead, AreNoParts, BetweenParts, IsNoBetween, asked_from, parts_in, texts_at, most_bytes, watched_at, watched_in, watched_of}
use Rattle.watch_record.specs.declared.header.Header.{Header}
use Rattle.watch_record.specs.declared.between_refusal.BetweenNo.{BetweenNo}
use Rattle.watch_record.specs.declared.between_refusal.BetweenNo.TheVariants.{BadList, NoBody}
use Rattle.watch_record.proofs.PartLemmas.{told, fails}

-- ---- a list among others

abbrev Stands : LaterData → LaterData → Type 0
Stands a b = a.at ≤ b.at

abbrev IsLater : LaterData → LaterData → Bool
IsLater list other = nat_lt list.at other.at

abbrev IsPlaced : LaterData → List LaterData → Type 0
IsPlaced list lists = take (position_or_len (IsLater list) lists) lists ++ list ∷ drop (position_or_len (IsLater list) lists) lists ≡ put list lists

placed : (list : LaterData) (lists : List LaterData) → IsPlaced list lists
placed list [] = refl
placed list (other ∷ lists) = by_test (nat_lt list.at other.at) refl (placed list lists)
  where
    by_test : (t : Bool) → nat_lt list.at other.at ≡ t → IsPlaced list lists → IsPlaced list (other ∷ lists)
    by_test true is before = rw is refl
    by_test false is before =
        let step : 1 + position_or_len (IsLater list) lists ≡ suc (position_or_len (IsLater list) lists) = omega arith in
        rw (is, step) (ap (λ l. other ∷ l) before)

pub put-placed : (list : LaterData) (lists : List LaterData) (n : ℕ) → n ≡ position_or_len (λ other. nat_lt list.at other.at) lists → take n lists ++ list ∷ drop n lists ≡ put list lists
put-placed list lists n is = ap (λ k. take k lists ++ list ∷ drop k lists) is ∙ placed list lists

put-all : (P : LaterData → Type 0) (list : LaterData) (lists : List LaterData) → P list → All P lists → All P (put list lists)
put-all P list [] here all = All-cons P list [] here all
put-all P list (other ∷ lists) here all = by_test (nat_lt list.at other.at) (put-all P list lists here (All-tail P other lists all))
  where
    by_test : (t : Bool) → All P (put list lists) → All P (if t then list ∷ other ∷ lists else other ∷ put list lists)
    by_test true more = All-cons P list (other ∷ lists) here all
    by_test false more = All-cons P other (put list lists) (All-head P other lists all) more

pairs-head : (other : LaterData) (lists : List LaterData) → AllPairs Stands (other ∷ lists) → All (Stands other) lists
pairs-head other lists all = λ k d inside. all 0 (suc k) d (omega arith) (omega arith)

pairs-tail : (other : LaterData) (lists : List LaterData) → AllPairs Stands (other ∷ lists) → AllPairs Stands lists
pairs-tail other lists all = λ i j d below inside. all (suc i) (suc j) d (omega arith) (omega arith)

no-pairs : AllPairs Stands []
no-pairs = λ i j d below inside. absurd (omega arith)

put-ordered : (list : LaterData) (lists : List LaterData) → AllPairs Stands lists → AllPairs Stands (put list lists)
put-ordered list [] all = AllPairs-cons Stands list [] (All-nil (Stands list)) no-pairs
put-ordered list (other ∷ lists) all = by_test (nat_lt list.at other.at) refl (put-ordered list lists (pairs-tail other lists all))
  where
    by_test : (t : Bool) → nat_lt list.at other.at ≡ t → AllPairs Stands (put list lists) → AllPairs Stands (if t then list ∷ other ∷ lists else other ∷ put list lists)
    by_test true is more =
        let below : list.at < other.at = ltb-true list.at other.at is in
        let here : list.at ≤ other.at = omega arith in
        AllPairs-cons Stands list (other ∷ lists)
        (All-cons (Stands list) other lists here (All-weaker (Stands other) (Stands list) (λ more le. omega (arith, le, here)) lists (pairs-head other lists all))) all
    by_test false is more = AllPairs-cons Stands other (put list lists) (put-all (Stands other) list lists (ltb-false list.at other.at is) (pairs-head other lists all)) more

-- those before the place n don't stand later than this revision
abbrev pub NoneLater : List LaterData → ℕ → ℕ → Type 0
NoneLater lists at n = (k : ℕ) (d : LaterData) → k < n → (get_or lists k d).at ≤ at

pub none-later-more : (lists : List LaterData) (at n : ℕ) (other : LaterData) → n < length lists → other ≡ get_or lists n other → other.at ≤ at → NoneLater lists at n → NoneLater lists at (n + 1)
none-later-more lists at n other inside is here before = λ k d below. elim (cases_lt k n) [
  | inl less ↦ before k d less
  | inr more ↦
      let same : k ≡ n = omega arith in
      let value : get_or lists k d ≡ other = ap (λ i. get_or lists i d) same ∙ get_or_default lists n d other inside ∙ sym is in
      subst (λ (l : LaterData). l.at ≤ at) (sym value) here
]

pub first-later : (lists : List LaterData) (at n : ℕ) (other : LaterData) → n < length lists → other ≡ get_or lists n other → at < other.at → NoneLater lists at n
    → n ≡ position_or_len (λ o. nat_lt at o.at) lists
first-later lists at n other inside is here before = sym (position_or_len_is (λ o. nat_lt at o.at) lists n other (omega arith) (λ k below. le-ltb at (get_or lists k other).at (before k other below))
    (λ _. lt-ltb at (get_or lists n other).at (subst (λ (l : LaterData). at < l.at) is here)))

pub none-later-all : (lists : List LaterData) (at n : ℕ) → length lists ≡ n → NoneLater lists at n → n ≡ position_or_len (λ o. nat_lt at o.at) lists
none-later-all lists at n size before =
    let d : LaterData = record { rows = []; at = 0; place = 0 } in
    sym (position_or_len_is (λ o. nat_lt at o.at) lists n d (omega arith) (λ k below. le-ltb at (get_or lists k d).at (before k d below)) (λ more. absurd (omega (arith, more, size))))

-- ---- the lists that texts are

-- the n first of the texts are lists, and these are they
pub record AreLaterSoFar (resource : Resource) (from : ℕ) (texts : List (List ℕ)) (n : ℕ) (later : List LaterData) : Type 0 where
  pub reads : (all : List LaterData) → AreLaterOf resource from (n + 1) (drop n texts) later all → AreLaterOf resource from 1 texts [] all
  pub good : All (IsSomeLater resource from) (take n texts)
  pub read : All (IsLaterRead from) later
  pub ordered : AllPairs (λ a b. a.at ≤ b.at) later

pub later-begin : (resource : Resource) (from : ℕ) (texts : List (List ℕ)) → AreLaterSoFar resource from texts 0 []
later-begin resource from texts = record { reads = λ all are. are; good = All-nil (IsSomeLater resource from); read = All-nil (IsLaterRead from); ordered = no-pairs }

text-on : (texts : List (Bor (List ℕ))) (n : ℕ) (d : Bor (List ℕ)) → n < length texts → drop n (told texts) ≡ (get_or texts n d).now ∷ drop (suc n) (told texts)
text-on [] n d inside = absurd (omega arith)
text-on (t ∷ texts) zero d inside = refl
text-on (t ∷ texts) (suc n) d inside = text-on texts n d (omega arith)

text-at : (texts : List (Bor (List ℕ))) (n : ℕ) (d : Bor (List ℕ)) → n < length texts → drop n (told texts) ≡ (get_or texts n d).now ∷ drop (n + 1) (told texts)
text-at texts n d inside = rw add-one (text-on texts n d inside)

take-on : (texts more : List (List ℕ)) (n : ℕ) (text : List ℕ) → drop n texts ≡ text ∷ more → take (suc n) texts ≡ take n texts ++ text ∷ []
take-on [] more n text is = let none = drop_all {X = List ℕ} n [] (omega arith) in cc
take-on (t ∷ texts) more zero text is = let same : t ≡ text = cc in ap (λ x. x ∷ []) same
take-on (t ∷ texts) more (suc n) text is = ap (λ l. t ∷ l) (take-on texts more n text is)

take-at : (texts more : List (List ℕ)) (n : ℕ) (text : List ℕ) → drop n texts ≡ text ∷ more → take (n + 1) texts ≡ take n texts ++ text ∷ []
take-at texts more n text is = rw add-one (take-on texts more n text is)

pub later-more : (resource : Resource) (from : ℕ) (texts : List (Bor (List ℕ))) (n : ℕ) (d : Bor (List ℕ)) (later : List LaterData) (list : LaterData)
    → n < length texts → IsFullList resource (get_or texts n d).now list.rows list.at → list.place ≡ n + 1 → IsLaterRead from list
    → AreLaterSoFar resource from (told texts) n later → AreLaterSoFar resource from (told texts) (n + 1) (put list later)
later-more resource from texts n d later list inside is place read so =
    let next = text-at texts n d inside in
    let same : record { rows = list.rows; at = list.at; place = n + 1 } ≡ list = ap (λ p. record list { place = p }) (sym place) in
    record {
      reads = λ all are. so.reads all (subst (λ (l : List (List ℕ)). AreLaterOf resource from (n + 1) l later all) (sym next) (list.rows, list.at, is, read.onward, subst (λ (l : LaterData). AreLaterOf resource from (n + 1 + 1) (drop (n + 1) (told texts)) (put l later) all) (sym same) are));
      good = subst (All (IsSomeLater resource from)) (sym (take-at (told texts) (drop (n + 1) (told texts)) n (get_or texts n d).now next)) (All-push (IsSomeLater resource from) (take n (told texts)) (get_or texts n d).now so.good (record { rows = list.rows; at = list.at; onward = read.onward; is = is }));
      read = put-all (IsLaterRead from) list later read so.read;
      ordered = put-ordered list later so.ordered;
    }

pub later-all : (resource : Resource) (from : ℕ) (texts : List (Bor (List ℕ))) (n : ℕ) (later : List LaterData) → length texts ≤ n → AreLaterSoFar resource from (told texts) n later
    → AreLaterRead resource from (told texts) later
later-all resource from texts n later past so = record {
  are = so.reads later (subst (λ (l : List (List ℕ)). AreLaterOf resource from (n + 1) l later later) (sym (drop_all n (told texts) (omega (arith, length-map {A = Bor (List ℕ)} {B = List ℕ} texts (λ text. text.now))))) refl);
  read = so.read;
  ordered = so.ordered;
}

pub later-bad : (resource : Resource) (from : ℕ) (texts : List (Bor (List ℕ))) (n : ℕ) (d : Bor (List ℕ)) (later : List LaterData)
    → n < length texts → ¬ (IsSomeLater resource from (get_or texts n d).now) → AreLaterSoFar resource from (told texts) n later
    → IsBadLater resource from (told texts) (n + 1)
later-bad resource from texts n d later inside none so = record {
  before = take n (told texts);
  bad = (get_or texts n d).now;
  behind = drop (n + 1) (told texts);
  parted = sym (take-append-drop n (told texts)) ∙ ap (λ l. take n (told texts) ++ l) (text-at texts n d inside);
  place_is = ap (λ k. k + 1) (sym (length-take-le n (told texts) (omega (arith, inside, length-map {A = Bor (List ℕ)} {B = List ℕ} texts (λ text. text.now)))));
  good = so.good;
  none = none;
}

-- ---- a text that is no later list

pub no-list : (resource : Resource) (from : ℕ) (text : List ℕ) → ((rows : List RowData) (at : ℕ) → ¬ (IsFullList resource text rows at)) → ¬ (IsSomeLater resource from text)
no-list resource from text none = λ some. none some.rows some.at some.is

pub below-list : (resource : Resource) (from : ℕ) (text : List ℕ) (rows : List RowData) (at : ℕ) → IsListRead resource text rows at → at < from → ¬ (IsSomeLater resource from text)
below-list resource from text rows at read below = λ some. let same : some.at ≡ at = read.one some.rows some.at some.is in let onward = some.onward in omega (arith, same, onward, below)

-- the refusal of a later list is one of the parts
pub later-refuses : (header : Header) (parts : BetweenParts) (from : ℕ) (rows : List RowData) (why : BetweenNo) → asked_from header ≡ Some from → IsFullList header.resource parts.first rows from
    → (place : ℕ) × (why ≡ BadList place) × IsBadLater header.resource from parts.later place → AreNoParts header parts why
later-refuses header parts from rows why asked first refused = rw refused.1 (from, asked, by_place refused.0 refused.2)
  where
    by_place : (place : ℕ) → IsBadLater header.resource from parts.later place → IsBadList header.resource from parts place
    by_place zero bad = let place_is = bad.place_is in absurd (omega arith)
    by_place (suc n) bad = ((rows, first), bad)

-- ---- the whole

pub watched-text : (line : List ℕ) → IsUtf8 line → watched_of line ≡ option_and_then (watched_at line) (option_and_then watched_in (read line))
watched-text line utf8 = rw (is_utf8-from_IsUtf8 line utf8) refl

pub no-watched : (line : List ℕ) → ¬ (IsUtf8 line) → watched_of line ≡ None
no-watched line wrong = rw (fails (is_utf8 line) (λ e. wrong (IsUtf8-from_is_utf8 line e))) refl

few-texts : (texts : List (Bor (List ℕ))) → length texts < 2 → parts_in (told texts) ≡ None
few-texts [] few = refl
few-texts (text ∷ []) few = refl
few-texts (text ∷ next ∷ texts) few = absurd (omega arith)

pub no-body : (bytes : List ℕ) (header : Header) (texts : List (Bor (List ℕ))) → watched_of (first_line bytes) ≡ Some header → length bytes ≤ most_bytes
    → told texts ≡ texts_at true (after_first is_feed bytes) → length texts < 2 → IsNoBetween bytes NoBody
no-body bytes header texts watched short are few = rw watched (short, ap parts_in (sym are) ∙ few-texts texts few)
