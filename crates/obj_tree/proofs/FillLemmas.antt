-- Pages that are filled one after the other.
use Rattle.std.proofs.Common.{◌≡◌, ◌<◌, ◌≤◌, List, [], ◌∷◌, ◌++◌, length, refl, sym, ap, ◌∙◌, arith}
use Rattle.std.specs.Prelude.{Result, Ok, Err, IfOk}
use Rattle.std.proofs.lemmas.List.{append-nil}
use Rattle.kube_meta.specs.Rows.{RowData}
use Rattle.obj_tree.specs.Pages.{joined, AreSized, AreFull, AreFilled, ArePagesOf}
use Rattle.obj_tree.proofs.PageLemmas.{joined-append}

pub filled-append : (pages : List (List RowData)) (page : List RowData) → AreFilled pages → length page ≡ 48 → AreFilled (pages ++ (page ∷ []))
filled-append [] page filled one = (one, tt)
filled-append (first ∷ pages) page filled one = (filled.0, filled-append pages page filled.1 one)

-- one more page behind them
pub one_more : (pages : List (List RowData)) (page : List RowData) → joined (pages ++ (page ∷ [])) ++ [] ≡ joined pages ++ page
one_more pages page = append-nil (joined (pages ++ (page ∷ []))) ∙ joined-append pages (page ∷ []) ∙ ap (λ (r : List RowData). joined pages ++ r) (append-nil page)

filled_sized : (pages : List (List RowData)) → AreFilled pages → AreSized pages
filled_sized [] filled = tt
filled_sized (page ∷ pages) filled = (omega (arith, filled.0), omega (arith, filled.0), filled_sized pages filled.1)

filled_full : (pages : List (List RowData)) → AreFilled pages → AreFull pages
filled_full [] filled = tt
filled_full (page ∷ []) filled = (tt, tt)
filled_full (page ∷ next ∷ pages) filled = (omega (arith, filled.0, filled.1.0), filled_full (next ∷ pages) filled.1)

last_sized : (pages : List (List RowData)) (last : List RowData) → AreFilled pages → 0 < length last → length last ≤ 48 → AreSized (pages ++ (last ∷ []))
last_sized [] last filled some few = (some, omega (arith, few), tt)
last_sized (page ∷ pages) last filled some few = (omega (arith, filled.0), omega (arith, filled.0), last_sized pages last filled.1 some few)

last_full : (pages : List (List RowData)) (last : List RowData) → AreFilled pages → 0 < length last → AreFull (pages ++ (last ∷ []))
last_full [] last filled some = (tt, tt)
last_full (page ∷ []) last filled some = (omega (arith, filled.0, some), (tt, tt))
last_full (page ∷ next ∷ pages) last filled some = (omega (arith, filled.0, filled.1.0), last_full (next ∷ pages) last filled.1 some)

none_left : (last : List RowData) → length last ≡ 0 → last ≡ []
none_left [] e = refl
none_left (row ∷ last) e = absurd (omega arith)

-- filled pages alone
pub all_filled : (pages : List (List RowData)) (last rows : List RowData) → AreFilled pages → length last ≡ 0 → joined pages ++ last ≡ rows → ArePagesOf pages rows
all_filled pages last rows filled none all = record {
  rows_are = sym (append-nil (joined pages)) ∙ ap (λ (r : List RowData). joined pages ++ r) (sym (none_left last none)) ∙ all;
  sized = filled_sized pages filled;
  full = filled_full pages filled;
}

-- and with a last one
pub with_last : (pages : List (List RowData)) (last rows : List RowData) → AreFilled pages → 0 < length last → length last ≤ 48 → joined pages ++ last ≡ rows → ArePagesOf (pages ++ (last ∷ [])) rows
with_last pages last rows filled some few all = record {
  rows_are = sym (append-nil (joined (pages ++ (last ∷ [])))) ∙ one_more pages last ∙ all;
  sized = last_sized pages last filled some few;
  full = last_full pages last filled some;
}

-- what follows from what holds of an answer
pub ok_follows : {A E : Type 0} (r : Result A E) (P Q : A → Type 0) → ((x : A) → P x → Q x) → IfOk r P → IfOk r Q
ok_follows (Ok x) P Q follows holds = follows x holds
ok_follows (Err e) P Q follows holds = tt
