-- The page of a state's selected rows.
use Rattle.std.proofs.Common.{◌≡◌, ℕ, Bool, true, List, [], ◌∷◌, length, Option, Some, None, inl, inr, refl, ap, sym, ◌∙◌}
use Rattle.std.specs.Prelude.{◌↔◌, filter}
use Rattle.std.proofs.lemmas.Bool.{cases_Bool}
use Rattle.kube_meta.specs.Rows.{RowData, behind, is_behind}
use Rattle.select_all.specs.declared.selection.Selection.{Selection}
use Rattle.select_all.specs.Listings.{listing}
use Rattle.select_all.specs.Selecting.{selects}
use Rattle.list_rules.specs.declared.ask.ListAsk.{ListAsk}
use Rattle.list_rules.specs.Pages.{page_of, left_of, remaining_of, is_unrestricted}
use Rattle.client_api.specs.Lists.{IsCut}
use Rattle.cached_client.proofs.WalkLemmas.{listing_free, within_all}

filters-swap : {X : Type 0} (f g : X → Bool) (xs : List X) → filter f (filter g xs) ≡ filter g (filter f xs)
filters-swap f g [] = refl
filters-swap f g (x ∷ xs) = elim (cases_Bool (f x)) [
  | inl passes ↦ elim (cases_Bool (g x)) [
    | inl kept ↦ rw (passes, kept, passes) (ap (λ ys. x ∷ ys) (filters-swap f g xs))
    | inr out ↦ rw (passes, out) (filters-swap f g xs)
  ]
  | inr fails ↦ elim (cases_Bool (g x)) [
    | inl kept ↦ rw (fails, kept, fails) (filters-swap f g xs)
    | inr out ↦ rw (fails, out) (filters-swap f g xs)
  ]
]

-- the selected rows of those behind a key are the rows behind it of the selected ones
pub listing_behind : (s : Selection) (after : Option (List ℕ)) (rows : List RowData) → listing s (behind after rows) ≡ behind after (listing s rows)
listing_behind s None rows = refl
listing_behind s (Some key) rows = filters-swap (λ row. selects s row.obj) (is_behind key) rows

-- what a walk kept of the rows in question, and what it left of them, is the page and what is left behind it
pub cut_of_walk : (ask : ListAsk) (state asked kept rest : List RowData) (left : ℕ) → listing ask.selection asked ≡ listing ask.selection (behind ask.after state) →
    kept ≡ page_of ask.limit (listing ask.selection asked) → length (listing ask.selection rest) ≡ left_of ask.limit (listing ask.selection asked) →
    (left ≡ 0) ↔ (length (listing ask.selection rest) ≡ 0) → remaining_of ask.selection left ≡ remaining_of ask.selection (length (listing ask.selection rest)) →
    IsCut ask (behind ask.after (listing ask.selection state)) kept left
cut_of_walk ask state asked kept rest left in_question first count none told =
    let s = ask.selection in
    let all_is : listing s asked ≡ behind ask.after (listing s state) = in_question ∙ listing_behind s ask.after state in
    let count_is : length (listing s rest) ≡ left_of ask.limit (behind ask.after (listing s state)) = count ∙ ap (left_of ask.limit) all_is in
    record {
      rows_are = first ∙ ap (page_of ask.limit) all_is;
      none_left = (λ e. sym count_is ∙ none.0 e, λ e. none.1 (count_is ∙ e));
      told = told ∙ ap (remaining_of s) count_is;
    }

-- ---- all of a state

-- those behind no key that a selection without a namespace or a requirement has are all
pub all_listed : (ask : ListAsk) (rows : List RowData) → ask.after ≡ None → ask.selection.ns ≡ None → is_unrestricted ask.selection ≡ true →
    behind ask.after (listing ask.selection rows) ≡ rows
all_listed ask rows after ns free =
    ap (λ (o : Option (List ℕ)). behind o (listing ask.selection rows)) after ∙ listing_free ask.selection rows free (within_all ask.selection rows ns)
