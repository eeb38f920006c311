-- The keys that stand, key by key.
use Rattle.std.proofs.Common.{◌≡◌, ℕ, ◌+◌, ◌<◌, Bool, true, false, not, cond, List, length, get_or, take, Option, Some, None, is_some, bytes_eq, refl, sym, ap, ◌∙◌}
use Rattle.std.specs.Prelude.{◌&&◌, ◌||◌}
use Rattle.std.specs.BTreeSet.{BTreeSet, Updates}
use Rattle.std.specs.Cmp.Lexicographic.{slice_cmp}
use Rattle.std.specs.List.{list_any}
use Rattle.std.specs.Option.{option_or}
use Rattle.std.specs.Ordering.{nat_cmp}
use Rattle.std.proofs.lemmas.Cmp.{nat_list_eq_equiv}
use Rattle.std.proofs.lemmas.List.Folds.{list_any_more}
use Rattle.std.proofs.lemmas.Map.Text.{is_eq-slice_cmp}
use Rattle.kube_meta.specs.Rows.{RowData, key_of, row_with}
use Rattle.rev_log.proofs.MapLemmas.{row_with_more}
use Rattle.select_all.specs.declared.selection.Kind.{Kind}
use Rattle.select_all.specs.Streams.{TransitionData}
use Rattle.mirror_log.specs.Intakes.{has, same_kind, is_of, tells}

either : (b c : Bool) → cond b true c ≡ (c || b)
either true true = refl
either true false = refl
either false true = refl
either false false = refl

unless : (b c : Bool) → cond b false c ≡ (c && not b)
unless true true = refl
unless true false = refl
unless false true = refl
unless false false = refl

-- a key that is inserted, and one that is removed
pub inserted : (old new : BTreeSet (List ℕ)) (key : List ℕ) → Updates (slice_cmp nat_cmp) old new key true → (other : List ℕ) → has new other ≡ (has old other || bytes_eq key other)
inserted old new key updates other = updates.0 other ∙ ap (λ b. cond b true (has old other)) (is_eq-slice_cmp key other) ∙ either (bytes_eq key other) (has old other)

pub removed : (old new : BTreeSet (List ℕ)) (key : List ℕ) → Updates (slice_cmp nat_cmp) old new key false → (other : List ℕ) → has new other ≡ (has old other && not (bytes_eq key other))
removed old new key updates other = updates.0 other ∙ ap (λ b. cond b false (has old other)) (is_eq-slice_cmp key other) ∙ unless (bytes_eq key other) (has old other)

-- ---- the keys of rows

one_of : (o : Option RowData) (b : Bool) (row : RowData) → is_some (option_or o (cond b (Some row) None)) ≡ (is_some o || b)
one_of None true row = refl
one_of None false row = refl
one_of (Some r) b row = refl

pub row_added : (rows : List RowData) (i : ℕ) (row : RowData) (old new : BTreeSet (List ℕ)) (key : List ℕ) → i < length rows → row ≡ get_or rows i row → key ≡ key_of row
    → ((other : List ℕ) → has old other ≡ is_some (row_with (take i rows) other)) → ((other : List ℕ) → has new other ≡ (has old other || bytes_eq key other))
    → (other : List ℕ) → has new other ≡ is_some (row_with (take (i + 1) rows) other)
row_added rows i row old new key inside is key_is so_far adds other =
    adds other
    ∙ ap (λ b. b || bytes_eq key other) (so_far other)
    ∙ ap (λ (k : List ℕ). is_some (row_with (take i rows) other) || bytes_eq k other) key_is
    ∙ ap (λ b. is_some (row_with (take i rows) other) || b) (nat_list_eq_equiv.symm (key_of row) other)
    ∙ sym (one_of (row_with (take i rows) other) (bytes_eq other (key_of row)) row)
    ∙ ap (λ (o : Option RowData). is_some o) (row_with_more rows i row other inside is)

-- ---- the keys of lines

and_unless : (a b c : Bool) → ((a && not b) && not c) ≡ (a && not (b || c))
and_unless true true c = refl
and_unless true false c = refl
and_unless false b c = refl

pub line_removed : (kind : Kind) (lines : List TransitionData) (i : ℕ) (line : TransitionData) (first old new : BTreeSet (List ℕ)) → i < length lines → line ≡ get_or lines i line
    → ((key : List ℕ) → has old key ≡ (has first key && not (tells kind (take i lines) key)))
    → ((key : List ℕ) → has new key ≡ (has old key && not (same_kind line.kind kind && is_of key line)))
    → (key : List ℕ) → has new key ≡ (has first key && not (tells kind (take (i + 1) lines) key))
line_removed kind lines i line first old new inside is so_far takes key =
    let of : TransitionData → Bool = λ t. same_kind t.kind kind && is_of key t in
    takes key
    ∙ ap (λ b. b && not (of line)) (so_far key)
    ∙ and_unless (has first key) (tells kind (take i lines) key) (of line)
    ∙ ap (λ (t : TransitionData). has first key && not (list_any of (take i lines) || of t)) is
    ∙ ap (λ b. has first key && not b) (sym (list_any_more of lines i line inside))
