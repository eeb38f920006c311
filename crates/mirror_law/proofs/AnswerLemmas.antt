-- What mirrors answer is what their peer answers.
use Rattle.std.proofs.Common.{◌≡◌, ℕ, ◌≤◌, Bool, true, false, List, [], ◌∷◌, ◌++◌, map, Option, Some, None, IfSome, refl, sym, ap, ◌∙◌, subst, inl, inr, arith}
use Rattle.std.specs.Prelude.{◌&&◌}
use Rattle.std.proofs.lemmas.Bool.{cases_Bool}
use Rattle.kube_meta.specs.declared.objects.Obj.{Obj}
use Rattle.kube_meta.specs.declared.resources.Resource.{Resource}
use Rattle.kube_meta.specs.Rows.{RowData}
use Rattle.rev_log.specs.Logs.{Log, IsLog, end_of}
use Rattle.rev_log.specs.States.{row_at}
use Rattle.select_all.specs.declared.selection.Selection.{Selection}
use Rattle.select_all.specs.Selecting.{selects}
use Rattle.select_all.specs.Streams.{TransitionData, transitions, transitions_by}
use Rattle.select_all.specs.Floors.{IsEvicted}
use Rattle.select_all.specs.Listings.{IsListing, IsListingBy, shown_by}
use Rattle.select_all.proofs.ListingLaws.{listing_by_key, listings_are_by_key}
use Rattle.watch_rules.specs.declared.starts.Start.{Start}
use Rattle.watch_rules.specs.declared.starts.Start.TheVariants.{FromState, FromHere, FromRevision}
use Rattle.watch_rules.specs.Bodies.{Line, Told, Bookmark, BodyPiece, Upto, Mark, position_of, opening_lines, piece_lines, loss_lines, IsOpening, ArePieces}
use Rattle.mirror_law.specs.Mirrors.{both, IsMirrorOf, SelectsBoth}
use Rattle.mirror_law.specs.Laws.{MirrorsAnswerLists, MirrorsAnswerWatches, MirrorsCompose}
use Rattle.mirror_law.proofs.MirrorLemmas.{stands}

-- ---- lists

-- a row that two tests show one after the other is one that both show
shown_twice : (test other : Obj → Bool) (row : Option RowData) → shown_by other (shown_by test row) ≡ shown_by (both test other) row
shown_twice test other None = refl
shown_twice test other (Some row) = elim (cases_Bool (test row.obj)) [
  | inl passes ↦ simp passes refl
  | inr fails ↦ simp fails refl
]

pub mirrors_answer_lists : MirrorsAnswerLists
mirrors_answer_lists test other peer resource b at m rows is mirrors from within =
    let same : (key : List ℕ) → shown_by other (row_at m resource at key) ≡ shown_by (both test other) (row_at peer resource at key) =
    λ key. ap (shown_by other) (stands test peer resource b m mirrors at key from within) ∙ shown_twice test other (row_at peer resource at key) in (
      λ listing.
          let by = listing_by_key other m resource at rows listing in
          (listings_are_by_key (both test other) peer resource at rows is.revisions).1 (record { rising = by.rising; exact = λ key. by.exact key ∙ same key }),
      λ listing.
          let by = listing_by_key (both test other) peer resource at rows listing in
          (listings_are_by_key other m resource at rows mirrors.log.revisions).1 (record { rising = by.rising; exact = λ key. by.exact key ∙ sym (same key) }),
    )

-- ---- mirrors of mirrors

and_assoc : (a b c : Bool) → (a && (b && c)) ≡ ((a && b) && c)
and_assoc true b c = refl
and_assoc false b c = refl

pub mirrors_compose : MirrorsCompose
mirrors_compose first second peer resource b c m n is order outer inner = record {
  log = inner.log;
  first = inner.first;
  begun = inner.begun;
  reached = omega (arith, inner.reached, outer.reached);
  states = λ r rows from within.
      let lists = mirrors_answer_lists first second peer resource b r m rows is outer (omega (arith, order, from)) (omega (arith, within, inner.reached)) in
      (λ state. lists.0 ((inner.states r rows from within).0 state), λ listing. (inner.states r rows from within).1 (lists.1 listing));
  streams = λ third x y from up within.
      inner.streams third x y from up within
      ∙ outer.streams (both second third) x y (omega (arith, order, from)) up (omega (arith, within, inner.reached))
      ∙ ap (λ (test : Obj → Bool). transitions_by test peer resource x y) (λ i obj. and_assoc (first obj) (second obj) (third obj) i);
}

-- ---- watches

module _ (peer m : Log) (b : ℕ) (s u t : Selection) (is : IsLog peer) (mirrors : IsMirrorOf peer s b m) (selected : SelectsBoth u s t) where
  tests : selects u ≡ both (selects s) (selects t)
  tests = λ i obj. selected.exact obj i

  -- a listing and a stream of the mirror are the peer's
  listed : (at : ℕ) (rows : List RowData) → b ≤ at → at ≤ end_of m → IsListing m t at rows → IsListing peer u at rows
  listed at rows from within listing =
      let here : IsListingBy (selects t) m s.resource at rows = subst (λ (r : Resource). IsListingBy (selects t) m r at rows) selected.one_resource listing in
      let there = (mirrors_answer_lists (selects s) (selects t) peer s.resource b at m rows is mirrors from within).0 here in
      subst (λ (r : Resource). IsListingBy (selects u) peer r at rows) (sym selected.resource)
      (subst (λ (test : Obj → Bool). IsListingBy test peer s.resource at rows) (sym tests) there)

  told : (x y : ℕ) → b ≤ x → x ≤ y → y ≤ end_of m → transitions peer u x y ≡ transitions m t x y
  told x y from order within =
      ap (λ (r : Resource). transitions_by (selects u) peer r x y) selected.resource
      ∙ ap (λ (test : Obj → Bool). transitions_by test peer s.resource x y) tests
      ∙ sym (mirrors.streams (selects t) x y from order within)
      ∙ ap (λ (r : Resource). transitions_by (selects t) m r x y) (sym selected.one_resource)

  opens : (start : Start) (at : ℕ) (rows : List RowData) → b ≤ at → IsOpening m t start at rows → IsOpening peer u start at rows
  opens (FromState meaning) at rows from opening = (listed at rows from opening.1 opening.0, omega (arith, opening.1, mirrors.reached))
  opens (FromHere meaning) at rows from opening = (opening.0, omega (arith, opening.1, mirrors.reached))
  opens (FromRevision revision) at rows from opening = opening

  pieces_are : (bookmarks : Bool) (from : ℕ) (pieces : List BodyPiece) → ArePieces m bookmarks from pieces → ArePieces peer bookmarks from pieces
  pieces_are bookmarks from [] are = tt
  pieces_are bookmarks from (Upto to ∷ more) are = (are.0, omega (arith, are.1, mirrors.reached), pieces_are bookmarks to more are.2)
  pieces_are bookmarks from (Mark ∷ more) are = (are.0, omega (arith, are.1, mirrors.reached), pieces_are bookmarks from more are.2)

  pieces_tell : (bookmarks : Bool) (from : ℕ) (pieces : List BodyPiece) → b ≤ from → ArePieces m bookmarks from pieces → piece_lines peer u from pieces ≡ piece_lines m t from pieces
  pieces_tell bookmarks from [] begun are = refl
  pieces_tell bookmarks from (Upto to ∷ more) begun are =
      ap (λ (ts : List TransitionData). map Told ts ++ piece_lines peer u to more) (told from to begun are.0 are.1)
      ∙ ap (λ (lines : List Line). map Told (transitions m t from to) ++ lines) (pieces_tell bookmarks to more (omega (arith, begun, are.0)) are.2)
  pieces_tell bookmarks from (Mark ∷ more) begun are = ap (λ (lines : List Line). Bookmark from ∷ lines) (pieces_tell bookmarks from more begun are.2)

no_loss : (loss : Option ℕ) (P : ℕ → Type 0) → loss ≡ None → IfSome loss P
no_loss None P none = tt
no_loss (Some floor) P none = absurd (cc)

pub mirrors_answer_watches : MirrorsAnswerWatches
mirrors_answer_watches peer m b log_floor peer_floor low s u ask body is mirrors selected begun none lawful = (
  record {
    opening = opens peer m b s u ask.selection is mirrors selected ask.start body.at body.rows begun lawful.opening;
    pieces = pieces_are peer m b s u ask.selection is mirrors selected ask.bookmarks body.at body.pieces lawful.pieces;
    lost = no_loss body.loss (λ floor. IsEvicted peer peer_floor low u.resource (position_of body) floor) none;
  },
  ap (λ (lines : List Line). opening_lines ask body.at body.rows ++ lines ++ loss_lines (position_of body) body.loss)
      (pieces_tell peer m b s u ask.selection is mirrors selected ask.bookmarks body.at body.pieces begun lawful.pieces),
)
