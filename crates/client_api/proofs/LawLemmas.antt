-- Lists of one selection, the lines of turns, and the loads of a sole client.
use Rattle.std.proofs.Common.{◌≡◌, inl, inr, ℕ, suc, ◌+◌, ◌<◌, ◌≤◌, List, [], ◌∷◌, ◌++◌, length, map, Bool, refl, ap, sym, ◌∙◌, subst, append-nil, length-append, arith}
use Rattle.std.specs.Prelude.{All}
use Rattle.std.proofs.lemmas.Bool.{cases_lt}
use Rattle.kube_meta.specs.Rows.{RowData, behind}
use Rattle.rev_front.specs.Passes.{Pass, Extends, end_from, last_or, last_of}
use Rattle.rev_log.specs.Changes.{RevisionData}
use Rattle.rev_log.specs.Logs.{Log}
use Rattle.rev_front.proofs.Beginnings.{last_push}
use Rattle.rev_front.proofs.Passing.{extends_self, extends_trans}
use Rattle.up_api.specs.Sections.{log_of}
use Rattle.select_all.specs.declared.selection.Meaning.{Meaning}
use Rattle.select_all.specs.declared.selection.Meaning.TheVariants.{MostRecent, Any, NotOlder, Exact}
use Rattle.up_api.proofs.SectionLemmas.{logs_grow_on}
use Rattle.select_all.specs.declared.selection.Selection.{Selection}
use Rattle.select_all.specs.Selecting.{selects}
use Rattle.select_all.specs.Listings.{IsListing}
use Rattle.select_all.specs.Streams.{TransitionData, transitions}
use Rattle.select_all.proofs.ListingLaws.{listings_are_one, listings_are_kept}
use Rattle.select_all.proofs.StreamLaws.{no_transitions}
use Rattle.select_all.specs.Meanings.{IsAtLeast}
use Rattle.list_rules.specs.declared.ask.ListAsk.{ListAsk}
use Rattle.list_rules.specs.Pages.{page_of, next_of}
use Rattle.watch_rules.specs.declared.ask.WatchAsk.{WatchAsk}
use Rattle.watch_rules.specs.Bodies.{Line, Told, Lost as LostLine, TellsBody, AreOpen}
use Rattle.watch_rules.proofs.LineLemmas.{tellings_begin, tellings_go_on, tellings_stay}
use Rattle.client_api.specs.declared.answers.Took.{Took}
use Rattle.client_api.specs.declared.answers.Took.TheVariants.{Events, Quiet, Lost}
use Rattle.client_api.specs.Answers.{ListedData}
use Rattle.client_api.specs.Facts.{Watched, HasLoaded}
use Rattle.client_api.specs.Fresh.{Meets}
use Rattle.client_api.specs.Lists.{IsListed, more_of}
use Rattle.client_api.specs.Turns.{IsWatchTurn, GivesEvents, IsQuiet}
use Rattle.client_api.specs.Laws.{IsPageOf, ListsAgree, StartsTell, TurnsTell, LoadsAreEnds, OnwardsJoin, LooksLoad, LoadsAreFresh, turn_lines, position_after, IsLasting}

-- ---- what is known

pub onwards_do_join : OnwardsJoin
onwards_do_join = (
  λ p. record { extends = extends_self p; lawful = λ lawful. lawful },
  λ p q r first second. record { extends = extends_trans p q r first.extends second.extends; lawful = λ lawful. second.lawful (first.lawful lawful) },
)

pub looks_do_load : LooksLoad
looks_do_load p m q n is later learns =
    let last : last_of q ≡ n = ap (last_or 0) (learns.loads_stay ∙ ap (λ (x : Pass RevisionData). x.loads) is) ∙ last_push 0 n p.loads in
    let grew : length q.loads ≡ length p.loads + 1 = ap length (learns.loads_stay ∙ ap (λ (x : Pass RevisionData). x.loads) is) ∙ length-append p.loads (n ∷ []) in
    ((omega (arith, grew), omega (arith, last, later)), last)

fresh-for : (p m q : Pass RevisionData) (n at : ℕ) (meaning : Meaning) → HasLoaded p q × (last_of q ≡ n) → p.shown ≤ n → n ≤ at → IsAtLeast meaning at → Meets p meaning at q
fresh-for p m q n at MostRecent loaded later within least = (loaded.0, omega (arith, loaded.1, within))
fresh-for p m q n at Any loaded later within least = omega (arith, later, within)
fresh-for p m q n at (NotOlder asked) loaded later within least = (least, omega (arith, later, within))
fresh-for p m q n at (Exact asked) loaded later within least = absurd least

pub loads_are_fresh_for : LoadsAreFresh
loads_are_fresh_for p m q n at meaning is later learns within seen least = record {
  seen = seen;
  meets = fresh-for p m q n at meaning (looks_do_load p m q n is later learns) later within least;
}

-- ---- lists

-- a listing at a revision that is seen stays one as more is seen
pub listing-later : (base : List RowData) (q r : Pass RevisionData) (s : Selection) (at : ℕ) (rows : List RowData) → Extends q r → at ≤ end_from q.first q.seen →
    IsListing (log_of base q) s at rows → IsListing (log_of base r) s at rows
listing-later base q r s at rows later within is =
    subst (λ (log : Log). IsListing log s at rows) (sym (logs_grow_on base q r later))
    (listings_are_kept (selects s) (log_of base q) later.seen_on.0 s.resource at rows within is)

-- a list's answer is a page of each list that is the selection's listing there
pub page-of : (base : List RowData) (p q : Pass RevisionData) (ask : ListAsk) (listed : ListedData) (is : IsListed base p ask listed q) (rows : List RowData) → is.all ≡ rows → IsPageOf rows ask listed
page-of base p q ask listed is rows same = record {
  next = next_of ask.limit (behind ask.after rows);
  page = record { rows_are = subst (λ (all : List RowData). listed.rows ≡ page_of ask.limit (behind ask.after all)) same is.rows_are; next_is = refl };
  more_is = subst (λ (all : List RowData). listed.more ≡ more_of ask listed.rev (behind ask.after all)) same is.more_is;
}

pub lists_do_agree : ListsAgree
lists_do_agree base p q o r ask other listed later a onward b same_selection same_rev =
    let kept : IsListing (log_of base r) ask.selection listed.rev a.all = listing-later base q r ask.selection listed.rev a.all onward a.fresh.seen a.listing in
    let moved : IsListing (log_of base r) other.selection later.rev a.all =
    subst (λ (z : Selection × ℕ). IsListing (log_of base r) z.0 z.1 a.all) {x = (ask.selection, listed.rev)} {y = (other.selection, later.rev)} (λ i. (sym same_selection i, sym same_rev i)) kept in
    let one : b.all ≡ a.all = listings_are_one (selects other.selection) (log_of base r) other.selection.resource later.rev b.all a.all b.listing moved in
    record {
      list = a.all;
      listing = moved;
      first = page-of base p q ask listed a a.all refl;
      second = page-of base o r other later b a.all one;
    }

-- ---- watches

pub starts_do_tell : StartsTell
starts_do_tell base window p q ask begun is = tellings_begin (log_of base q) q.floor window ask begun.at begun.rows is.opening

module _ (base : List RowData) (window : ℕ) (p q : Pass RevisionData) (ask : WatchAsk) (at : ℕ) (lines : List Line) (position : ℕ) where
  abbrev pub watched : Watched
  watched = record { selection = ask.selection; position = position }

  abbrev pub Tells : List Line → ℕ → Type 0
  Tells more reached = TellsBody (log_of base q) q.floor window ask at more reached

  -- the lines so far, of the log that is known now
  told-now : Extends p q → TellsBody (log_of base p) p.floor window ask at lines position → Tells lines position
  told-now later tells =
      subst (λ (log : Log). TellsBody log q.floor window ask at lines position) (sym (logs_grow_on base p q later))
      (tellings_stay (log_of base p) later.seen_on.0 p.floor q.floor window ask at lines position later.floor_on tells)

  -- events begin below the revision up to which they are
  events-above : (from upto : ℕ) (told : List TransitionData) → GivesEvents base watched from upto told q → position ≤ upto
  events-above from upto told is = elim (cases_lt upto position) [
    | inl below ↦
        let empty : told ≡ [] = is.lines_are ∙ no_transitions (selects ask.selection) (log_of base q) ask.selection.resource position upto (omega (arith, below)) in
        absurd (omega (arith, is.some_line, ap length empty))
    | inr above ↦ above
  ]

  -- a stretch that has these transitions
  stretched : (upto : ℕ) (told : List TransitionData) → Tells lines position → AreOpen lines → position ≤ upto → upto ≤ end_from q.first q.seen →
      told ≡ transitions (log_of base q) ask.selection position upto → Tells (lines ++ map Told told) upto × AreOpen (lines ++ map Told told)
  stretched upto told now free onward within is =
      subst (λ (ts : List TransitionData). Tells (lines ++ map Told ts) upto × AreOpen (lines ++ map Told ts)) (sym is)
      ((tellings_go_on (log_of base q) q.floor window ask at lines position now free).stretch upto onward within)

  -- no line at the same position
  unmoved : (upto : ℕ) → upto ≡ position → Tells lines position → AreOpen lines → Tells (lines ++ []) upto × AreOpen (lines ++ [])
  unmoved upto same now free =
      subst (λ (z : List Line × ℕ). Tells z.0 z.1 × AreOpen z.0) {x = (lines, position)} {y = (lines ++ [], upto)} (λ i. (sym (append-nil lines) i, sym same i)) (now, free)

  quiet-tells : (upto : ℕ) (reached : Bool) → Tells lines position → AreOpen lines → IsQuiet base p watched upto reached q → Tells (lines ++ []) upto × AreOpen (lines ++ [])
  quiet-tells upto reached now free is = elim is.seen [
    | inl same ↦ unmoved upto same now free
    | inr within ↦ stretched upto [] now free is.onward within (sym is.nothing)
  ]

  pub turn-tells : (took : Took) → Tells lines position → AreOpen lines → IsWatchTurn base window p watched took q →
      Tells (lines ++ turn_lines took) (position_after took position) × (IsLasting took → AreOpen (lines ++ turn_lines took))
  turn-tells (Events from upto told) now free is =
      let goes = stretched upto told.items now free (events-above from upto told.items is) is.seen is.lines_are in
      (goes.0, λ _. goes.1)
  turn-tells (Quiet upto reached) now free is = let goes = quiet-tells upto reached now free is in (goes.0, λ _. goes.1)
  turn-tells (Lost stood floor) now free is =
      let ends : Tells (lines ++ LostLine position floor ∷ []) position = (tellings_go_on (log_of base q) q.floor window ask at lines position now free).loss floor is.evicted in
      (subst (λ n. Tells (lines ++ LostLine n floor ∷ []) position) (sym is.stood) ends, λ lasts. absurd lasts)

pub turns_do_tell : TurnsTell
turns_do_tell base window p q ask at lines position took later tells free is =
    turn-tells base window p q ask at lines position took (told-now base window p q ask at lines position later tells) free is

-- ---- loads

last-append : (n : ℕ) (xs ys : List ℕ) → last_or n (xs ++ ys) ≡ last_or (last_or n xs) ys
last-append n [] ys = refl
last-append n (x ∷ xs) ys = last-append x xs ys

-- the last of some numbers that are all the same
last-same : (e n : ℕ) (xs : List ℕ) → 0 < length xs → All (λ x. x ≡ e) xs → last_or n xs ≡ e
last-same e n [] some all = absurd (omega (arith, some))
last-same e n (x ∷ []) some all = all 0 n (omega arith)
last-same e n (x ∷ y ∷ ys) some all = last-same e x (y ∷ ys) (omega arith) (λ k d in_range. all (suc k) d (omega arith))

pub loads_do_end : LoadsAreEnds
loads_do_end p q loaded loads =
    let grew : length q.loads ≡ length p.loads + length loads.more = ap length loads.loads ∙ length-append p.loads loads.more in
    let some : 0 < length loads.more = omega (arith, grew, loaded.0) in
    ap (last_or 0) loads.loads ∙ last-append 0 p.loads loads.more
    ∙ last-same (end_from q.first q.seen) (last_or 0 p.loads) loads.more some loads.ends
