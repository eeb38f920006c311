-- The changes that a line tells, as they are read one by one.
use Rattle.std.proofs.Common.{◌≡◌, ℕ, suc, ◌+◌, ◌<◌, ◌≤◌, Bool, true, false, not, List, [], ◌∷◌, ◌++◌, Option, Some, None, option_map, option_and_then, length, map, get_or, drop, All, refl, sym, ap, ◌∙◌, arith, append_assoc, append-nil, subst, Ordering, Less, Equal, Greater}
use Rattle.std.specs.Prelude.{◌==◌, ◌&&◌, ◌^◌, nat_lt, nat_le, bytes_eq}
use Rattle.std.specs.Option.{option_map_or}
use Rattle.std.specs.List.{list_all, AllByRecursion}
use Rattle.std.specs.Ordering.{is_lt}
use Rattle.std.specs.List.Sorted.{IsStrictlySortedBy}
use Rattle.std.proofs.lemmas.Bool.Decides.{nat_tests}
use Rattle.std.proofs.lemmas.Bool.{and_parts, and_from, lt-ltb, leb-true, le-leb}
use Rattle.std.proofs.lemmas.List.{at_drop_more, map_push, length-map}
use Rattle.std.proofs.lemmas.List.Elements.{All-cons, All-append}
use Rattle.serde_json.specs.View.{view, items_view}
use Rattle.serde_json.specs.Written.{comma_if}
use Rattle.serde_json.specs.declared.value.Value.{Value}
use Rattle.json_obj.specs.Replies.{items_text, later_items}
use Rattle.rev_log.specs.Changes.{ChangeData, RevisionData, HasItsKey, IsRevision, change_cmp}
use Rattle.watch_record.specs.Revisions.{Told, told_in, all_told, told_cmp, are_rising, are_in_order, text_of_told, line_front, line_back, recorded_line, is_text_of, is_line_of, IsChangeOf, AreChangesOf}
use Rattle.watch_record.specs.Reading.{ReadsChange, ReadsChanges, ReadsRevision}

-- ---- one more

later-push : (texts : List (List ℕ)) (text : List ℕ) → later_items (texts ++ text ∷ []) ≡ later_items texts ++ 44 ∷ text
later-push [] text = ap (λ l. 44 ∷ l) (append-nil text)
later-push (t ∷ texts) text = ap (λ l. 44 ∷ (t ++ l)) (later-push texts text) ∙ ap (λ l. 44 ∷ l) (sym (append_assoc t (later_items texts) (44 ∷ text)))

pub items-push : (texts : List (List ℕ)) (text : List ℕ) (later : Bool) → later ≡ nat_lt 0 (length texts)
    → items_text (texts ++ text ∷ []) ≡ items_text texts ++ (comma_if later ++ text)
items-push [] text later is = rw is (append-nil text)
items-push (t ∷ texts) text later is =
    let yes : later ≡ true = is ∙ lt-ltb 0 (length (t ∷ texts)) (omega arith) in
    rw yes (ap (λ l. t ++ l) (later-push texts text) ∙ sym (append_assoc t (later_items texts) (44 ∷ text)))

pub AreChangesOf-push : (rev : ℕ) (told : List Told) (changes : List ChangeData) (t : Told) (c : ChangeData) → AreChangesOf rev told changes → IsChangeOf rev t c
    → AreChangesOf rev (told ++ t ∷ []) (changes ++ c ∷ [])
AreChangesOf-push rev [] [] t c are is = (is, tt)
AreChangesOf-push rev [] (d ∷ changes) t c are is = absurd are
AreChangesOf-push rev (u ∷ told) [] t c are is = absurd are
AreChangesOf-push rev (u ∷ told) (d ∷ changes) t c are is = (are.0, AreChangesOf-push rev told changes t c are.1 is)

pub same-length : (rev : ℕ) (told : List Told) (changes : List ChangeData) → AreChangesOf rev told changes → length changes ≡ length told
same-length rev [] [] are = refl
same-length rev [] (d ∷ changes) are = absurd are
same-length rev (u ∷ told) [] are = absurd are
same-length rev (u ∷ told) (d ∷ changes) are = ap suc (same-length rev told changes are.1)

All-push : (changes : List ChangeData) (c : ChangeData) → All HasItsKey changes → HasItsKey c → All HasItsKey (changes ++ c ∷ [])
All-push changes c all is = All-append HasItsKey changes (c ∷ []) all (All-cons HasItsKey c [] is (λ k d within. absurd (omega arith)))

pub some-later : (changes slice : List ChangeData) (b : Bool) → b ≡ (length slice == 0) → slice ≡ changes → not b ≡ nat_lt 0 (length changes)
some-later changes slice b is same = ap not (is ∙ ap (λ l. length l == 0) same) ∙ tested_length (length changes)
  where
    tested_length : (n : ℕ) → not (n == 0) ≡ nat_lt 0 n
    tested_length n = grind (arith, nat_tests)

-- ---- what is read of the first values

pub record HasRead (rev : ℕ) (vs : List Value) (i : ℕ) (changes : List ChangeData) (old new : List ℕ) : Type 0 where
  pub values : List Told
  pub rest : all_told (items_view vs) ≡ option_map (λ more. values ++ more) (all_told (items_view (drop i vs)))
  pub changes_are : AreChangesOf rev values changes
  pub keyed : All HasItsKey changes
  pub writes : new ≡ old ++ items_text (map text_of_told values)

onward : (values : List Told) (told : Option Told) (value : Told) (more : Option (List Told)) → told ≡ Some value
    → option_map (λ m. values ++ m) (option_and_then (λ t. option_map (λ m. t ∷ m) more) told) ≡ option_map (λ m. (values ++ value ∷ []) ++ m) more
onward values told value None is = rw is refl
onward values told value (Some m) is = rw is (ap Some (sym (append_assoc values (value ∷ []) m)))

abbrev told_from : List Value → Option (List Told)
told_from vs = all_told (items_view vs)

stepped : (vs : List Value) (i : ℕ) (v : Value) → i < length vs
    → told_from (drop i vs) ≡ option_and_then (λ t. option_map (λ m. t ∷ m) (told_from (drop (i + 1) vs))) (told_in (view (get_or vs i v)))
stepped vs i v within = at_drop_more told_from vs i v within

pub has_read-more : (rev : ℕ) (vs : List Value) (i : ℕ) (v : Value) (changes : List ChangeData) (c : ChangeData) (later : Bool) (old middle new : List ℕ)
    → i < length vs → v ≡ get_or vs i v → HasRead rev vs i changes old middle → later ≡ nat_lt 0 (length changes)
    → ReadsChange rev later (told_in (view v)) c middle new → HasRead rev vs (i + 1) (changes ++ c ∷ []) old new
has_read-more rev vs i v changes c later old middle new within at so_far first here = record {
  values = so_far.values ++ here.value ∷ [];
  rest =
      so_far.rest ∙ ap (option_map (λ m. so_far.values ++ m)) (stepped vs i v within)
      ∙ onward so_far.values (told_in (view (get_or vs i v))) here.value (told_from (drop (i + 1) vs)) (ap (λ x. told_in (view x)) (sym at) ∙ here.told_is);
  changes_are = AreChangesOf-push rev so_far.values changes here.value c so_far.changes_are here.change_is;
  keyed = All-push changes c so_far.keyed here.keyed;
  writes =
      here.writes ∙ ap (λ l. l ++ (comma_if later ++ text_of_told here.value)) so_far.writes
      ∙ append_assoc old (items_text (map text_of_told so_far.values)) (comma_if later ++ text_of_told here.value)
      ∙ ap (λ l. old ++ l) (sym (ap items_text (map_push text_of_told so_far.values here.value)
      ∙ items-push (map text_of_told so_far.values) (text_of_told here.value) later (first ∙ ap (nat_lt 0) same)));
}
  where
    same : length changes ≡ length (map text_of_told so_far.values)
    same = same-length rev so_far.values changes so_far.changes_are ∙ sym (length-map so_far.values text_of_told)

nothing : (values : List Told) (told : Option Told) (more : Option (List Told)) → told ≡ None
    → option_map (λ m. values ++ m) (option_and_then (λ t. option_map (λ m. t ∷ m) more) told) ≡ None
nothing values told more is = rw is refl

-- ---- rising changes

less : (o : Ordering) → is_lt o ≡ true → o ≡ Less
less Less e = refl
less Equal e = absurd cc
less Greater e = absurd cc

same-order : (rev : ℕ) (t u : Told) (c d : ChangeData) → IsChangeOf rev t c → IsChangeOf rev u d → change_cmp c d ≡ told_cmp t u
same-order rev t u c d first second = rw (first.resource_is, first.key_is, second.resource_is, second.key_is) refl

all-above : (rev : ℕ) (t : Told) (c : ChangeData) → IsChangeOf rev t c → (told : List Told) (changes : List ChangeData) → AreChangesOf rev told changes
    → list_all (λ later. is_lt (told_cmp t later)) told ≡ true → AllByRecursion (λ d. change_cmp c d ≡ Less) changes
all-above rev t c is [] [] are e = tt
all-above rev t c is [] (d ∷ changes) are e = absurd are
all-above rev t c is (u ∷ told) [] are e = absurd are
all-above rev t c is (u ∷ told) (d ∷ changes) are e =
    let parts = and_parts _ _ e in
    (same-order rev t u c d is are.0 ∙ less (told_cmp t u) parts.0, all-above rev t c is told changes are.1 parts.1)

pub rising-changes : (rev : ℕ) (told : List Told) (changes : List ChangeData) → AreChangesOf rev told changes → are_rising told ≡ true → IsStrictlySortedBy change_cmp changes
unfolding IsStrictlySortedBy
rising-changes rev [] [] are e = tt
rising-changes rev [] (d ∷ changes) are e = absurd are
rising-changes rev (u ∷ told) [] are e = absurd are
rising-changes rev (u ∷ told) (d ∷ changes) are e =
    let parts = and_parts _ _ e in
    (all-above rev u d are.0 told changes are.1 parts.0, rising-changes rev told changes are.1 parts.1)

above-all : (rev : ℕ) (t : Told) (c : ChangeData) → IsChangeOf rev t c → (told : List Told) (changes : List ChangeData) → AreChangesOf rev told changes
    → AllByRecursion (λ d. change_cmp c d ≡ Less) changes → list_all (λ later. is_lt (told_cmp t later)) told ≡ true
above-all rev t c is [] [] are all = refl
above-all rev t c is [] (d ∷ changes) are all = absurd are
above-all rev t c is (u ∷ told) [] are all = absurd are
above-all rev t c is (u ∷ told) (d ∷ changes) are all =
    and_from _ _ (ap is_lt (sym (same-order rev t u c d is are.0) ∙ all.0)) (above-all rev t c is told changes are.1 all.1)

pub changes-rising : (rev : ℕ) (told : List Told) (changes : List ChangeData) → AreChangesOf rev told changes → IsStrictlySortedBy change_cmp changes → are_rising told ≡ true
unfolding IsStrictlySortedBy
changes-rising rev [] [] are h = refl
changes-rising rev [] (d ∷ changes) are h = absurd are
changes-rising rev (u ∷ told) [] are h = absurd are
changes-rising rev (u ∷ told) (d ∷ changes) are h = and_from _ _ (above-all rev u d are.0 told changes are.1 h.0) (changes-rising rev told changes are.1 h.1)

-- ---- the changes of a revision

numbered : (rev : ℕ) (told : List Told) (changes : List ChangeData) → AreChangesOf rev told changes → All (λ change. change.rev ≡ rev) changes
numbered rev [] [] are = λ k d within. absurd (omega arith)
numbered rev [] (d ∷ changes) are = absurd are
numbered rev (u ∷ told) [] are = absurd are
numbered rev (u ∷ told) (d ∷ changes) are = All-cons (λ change. change.rev ≡ rev) d changes are.0.rev_is (numbered rev told changes are.1)

pub in-order-revision : (rev : ℕ) (told : List Told) (changes : List ChangeData) → AreChangesOf rev told changes → All HasItsKey changes → are_in_order told ≡ true
    → IsRevision (record { rev = rev; changes = changes })
in-order-revision rev told changes are keyed e =
    let parts = and_parts (nat_le (length told) 64) (are_rising told) e in
    let same : length changes ≡ length told = same-length rev told changes are in
    record {
      few = let fits : length told ≤ 64 = leb-true (length told) 64 parts.0 in omega (arith, fits, same);
      rising = rising-changes rev told changes are parts.1;
      numbered = numbered rev told changes are;
      keyed = keyed;
    }

pub revision-in-order : (rev : ℕ) (told : List Told) (changes : List ChangeData) → AreChangesOf rev told changes → IsRevision (record { rev = rev; changes = changes })
    → are_in_order told ≡ true
revision-in-order rev told changes are form =
    let same : length changes ≡ length told = same-length rev told changes are in
    and_from _ _ (le-leb (length told) 64 (omega (arith, form.few, same))) (changes-rising rev told changes are form.rising)

-- ---- a line

-- what is written, and what the test of the text looks at
pub record WritesLine (rev : ℕ) (told : Option (List Told)) (changes : List ChangeData) (count : ℕ) (text : List ℕ) : Type 0 where
  pub front : List ℕ
  pub middle : List ℕ
  pub front_is : front ≡ line_front
  pub reads : ReadsChanges rev told changes front middle
  pub text_is : text ≡ middle ++ line_back rev
  pub count_is : count ≡ length changes

whole-line : (front middle text items : List ℕ) (rev : ℕ) → front ≡ line_front → middle ≡ front ++ items → text ≡ middle ++ line_back rev → text ≡ line_front ++ (items ++ line_back rev)
whole-line front middle text items rev first second third =
    third ∙ ap (λ l. l ++ line_back rev) (second ∙ ap (λ l. l ++ items) first) ∙ append_assoc line_front items (line_back rev)

tested : (rev : ℕ) (line : List ℕ) (told : Option (List Told)) (changes : List ChangeData) (count : ℕ) (text : List ℕ) (from : WritesLine rev told changes count text)
    → (nat_le 1 count && (nat_le rev (2 ^ 62) && bytes_eq text line)) ≡ is_text_of rev line from.reads.values
tested rev line told changes count text from =
    let values = from.reads.values in
    let same : text ≡ recorded_line (map text_of_told values) rev = whole-line from.front from.middle text (items_text (map text_of_told values)) rev from.front_is from.reads.writes from.text_is in
    let size : count ≡ length values = from.count_is ∙ same-length rev values changes from.reads.changes_are in
    ap (λ n. nat_le 1 n && (nat_le rev (2 ^ 62) && bytes_eq text line)) size ∙ ap (λ t. nat_le 1 (length values) && (nat_le rev (2 ^ 62) && bytes_eq t line)) same

at-told : (rev : ℕ) (line : List ℕ) (told : Option (List Told)) (values : List Told) (b : Bool) → told ≡ Some values → is_line_of rev line values ≡ b
    → option_map_or (is_line_of rev line) told false ≡ b
at-told rev line told values b is e = ap (λ t. option_map_or (is_line_of rev line) t false) is ∙ e

no-and : (a b : Bool) → a ≡ false → (a && b) ≡ false
no-and true b e = cc
no-and false b e = refl

and-no : (a b : Bool) → b ≡ false → (a && b) ≡ false
and-no true b e = e
and-no false b e = refl

pub other-text : (rev : ℕ) (line : List ℕ) (told : Option (List Told)) (changes : List ChangeData) (count : ℕ) (text : List ℕ) (b : Bool) → WritesLine rev told changes count text
    → b ≡ (nat_le 1 count && (nat_le rev (2 ^ 62) && bytes_eq text line)) → b ≡ false → option_map_or (is_line_of rev line) told false ≡ false
other-text rev line told changes count text b from is wrong =
    let not_text : is_text_of rev line from.reads.values ≡ false = sym (tested rev line told changes count text from) ∙ sym is ∙ wrong in
    at-told rev line told from.reads.values false from.reads.told_is (no-and (is_text_of rev line from.reads.values) (are_in_order from.reads.values) not_text)

fails : (b : Bool) → (b ≡ true → ⊥) → b ≡ false
fails true wrong = absurd (wrong refl)
fails false wrong = refl

pub no-order : (rev : ℕ) (line : List ℕ) (told : Option (List Told)) (changes : List ChangeData) (count : ℕ) (text : List ℕ) → WritesLine rev told changes count text
    → ¬ (IsRevision (record { rev = rev; changes = changes })) → option_map_or (is_line_of rev line) told false ≡ false
no-order rev line told changes count text from wrong =
    let values = from.reads.values in
    let not_in_order : are_in_order values ≡ false =
    fails (are_in_order values) (λ e. wrong (in-order-revision rev values changes from.reads.changes_are from.reads.keyed e)) in
    at-told rev line told values false from.reads.told_is (and-no (is_text_of rev line values) (are_in_order values) not_in_order)

pub its-line : (rev : ℕ) (line : List ℕ) (told : Option (List Told)) (changes : List ChangeData) (count : ℕ) (text : List ℕ) (b : Bool) → WritesLine rev told changes count text
    → b ≡ (nat_le 1 count && (nat_le rev (2 ^ 62) && bytes_eq text line)) → b ≡ true → IsRevision (record { rev = rev; changes = changes })
    → (revision : RevisionData) → revision ≡ record { rev = rev; changes = changes } → ReadsRevision rev line told revision
its-line rev line told changes count text b from is right form revision same =
    let values = from.reads.values in
    let test : (nat_le 1 count && (nat_le rev (2 ^ 62) && bytes_eq text line)) ≡ true = sym is ∙ right in
    let some : 1 ≤ count = leb-true 1 count (and_parts (nat_le 1 count) _ test).0 in
    let within : rev ≤ 2 ^ 62 = leb-true rev (2 ^ 62) (and_parts (nat_le rev (2 ^ 62)) _ (and_parts (nat_le 1 count) _ test).1).0 in
    let size : count ≡ length changes = from.count_is in
    subst (ReadsRevision rev line told) (sym same) (record {
      values = values;
      told_is = from.reads.told_is;
      line_is = and_from _ _ (sym (tested rev line told changes count text from) ∙ test) (revision-in-order rev values changes from.reads.changes_are form);
      rev_is = refl;
      changes_are = from.reads.changes_are;
      kept = record { form = form; some_changes = omega (arith, some, size); within = within };
    })
