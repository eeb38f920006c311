-- What a batch tells a watch.
use Rattle.std.proofs.Common.{◌≡◌, ℕ, ◌<◌, List, [], ◌∷◌, length, refl, ap, sym, ◌∙◌, subst, arith}
use Rattle.std.specs.Prelude.{IfOk, Result, Ok, Err}
use Rattle.std.specs.Global.{Vec}
use Rattle.kube_meta.specs.Rows.{RowData}
use Rattle.rev_front.specs.Passes.{Pass}
use Rattle.rev_log.specs.Changes.{RevisionData}
use Rattle.rev_log.specs.Logs.{Log}
use Rattle.select_all.specs.Selecting.{selects}
use Rattle.select_all.specs.Streams.{TransitionData, transitions}
use Rattle.select_all.proofs.StreamLaws.{transitions_are_kept}
use Rattle.up_api.specs.Sections.{log_of}
use Rattle.watch_lane.specs.Batches.{BatchData, IsBatch, PieceData, noted}
use Rattle.client_api.specs.declared.answers.Took.{Took}
use Rattle.client_api.specs.declared.answers.Took.TheVariants.{Events}
use Rattle.client_api.specs.Facts.{Watched}
use Rattle.client_api.specs.Turns.{IsWatchTurn}
use Rattle.cached_client.specs.Knowing.{KnowsAllOf}
use Rattle.cached_client.specs.Watching.{IsLoadedTurn}
use Rattle.cached_client.proofs.KnowingLemmas.{log_grown, within-known}

some-in : (xs : List TransitionData) → (xs ≡ [] → ⊥) → 0 < length xs
some-in [] some = absurd (some refl)
some-in (x ∷ xs) some = omega arith

turn-received : (base : List RowData) (window : ℕ) (p q : Pass RevisionData) (batch : BatchData) (lines : Vec TransitionData) → IsBatch base batch → KnowsAllOf batch.note q → lines.items ≡ batch.lines →
    IsWatchTurn base window p (record { selection = batch.selection; position = batch.from }) (Events batch.from batch.to lines) q
turn-received base window p q batch lines is knows same = record {
  begins = refl;
  lines_are = same ∙ is.lines_are ∙ sym (transitions_are_kept (selects batch.selection) (log_of base batch.note) knows.seen_on.0 batch.selection.resource batch.from batch.to (omega (arith, is.within)))
      ∙ ap (λ (log : Log). transitions log batch.selection batch.from batch.to) (sym (log_grown base batch.note q knows));
  some_line = some-in lines.items (λ none. is.some (sym same ∙ none));
  seen = within-known batch.note q batch.to knows is.within;
}

-- a batch that begins at the position
pub turn_received : (base : List RowData) (window : ℕ) (p q : Pass RevisionData) (batch : BatchData) (piece : PieceData) (note : Pass RevisionData) (from upto : ℕ) (lines : Vec TransitionData) →
    noted piece note ≡ batch → IsBatch base (noted piece note) → from ≡ piece.from → upto ≡ piece.to → lines.items ≡ piece.lines → KnowsAllOf note q →
    IsWatchTurn base window p (record { selection = batch.selection; position = batch.from }) (Events from upto lines) q
turn_received base window p q batch piece note from upto lines view is begins ends same knows =
    subst (λ (z : BatchData × ℕ × ℕ). IsWatchTurn base window p (record { selection = z.0.selection; position = z.0.from }) (Events z.1 z.2 lines) q)
    {x = (noted piece note, piece.from, piece.to)} {y = (batch, from, upto)} (λ i. (view i, sym begins i, sym ends i)) (turn-received base window p q (noted piece note) lines is knows same)

-- what a batch gives is what a turn of the watch gives with which it goes on
pub received_as : {E : Type 0} (base : List RowData) (q : Pass RevisionData) (of_batch watched : Watched) (given : Result Took E) → of_batch ≡ watched →
    IfOk given (λ took. (window : ℕ) (p : Pass RevisionData) → IsWatchTurn base window p of_batch took q) → IfOk given (λ took. (window : ℕ) (p : Pass RevisionData) → IsWatchTurn base window p watched took q)
received_as base q of_batch watched given same is = subst (λ (w : Watched). IfOk given (λ took. (window : ℕ) (p : Pass RevisionData) → IsWatchTurn base window p w took q)) same is

-- and so for whoever had loaded before
pub received_loaded : {E : Type 0} (base : List RowData) (window : ℕ) (r q : Pass RevisionData) (of_batch watched : Watched) (given : Result Took E) → of_batch ≡ watched →
    IfOk given (λ took. (window : ℕ) (p : Pass RevisionData) → IsWatchTurn base window p of_batch took q) → IfOk given (λ took. IsLoadedTurn base window r watched took q)
received_loaded base window r q of_batch watched (Ok took) same is = λ p loaded. subst (λ (w : Watched). IsWatchTurn base window p w took q) same (is window p)
received_loaded base window r q of_batch watched (Err memory) same is = tt
