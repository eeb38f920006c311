-- What a call of a hub answered and left is a step, as its clauses tell it.
use Rattle.std.proofs.Common.{◌≡◌, ◌↔◌, ℕ, ◌≤◌, ◌<◌, Option, Some, None, Result, Ok, Err, List, refl, subst, arith}
use Rattle.std.specs.Prelude.{IfOk, OnOk, OnErr, IfSome, IsSome}
use Rattle.kube_meta.specs.Rows.{RowData}
use Rattle.rev_front.specs.Passes.{Pass, end_from}
use Rattle.rev_log.specs.Changes.{RevisionData}
use Rattle.rev_log.specs.Logs.{Log}
use Rattle.select_all.specs.declared.selection.Selection.{Selection}
use Rattle.up_api.specs.Feeds.{HistoryData}
use Rattle.up_api.specs.Sections.{StandsAt, log_of, log_upto}
use Rattle.cache_core.specs.Feeding.{Stays, IsRebuilt}
use Rattle.cache_hub.specs.Catching.{CaughtData, IsCaught}
use Rattle.cache_hub.specs.Hubs.{HubData, StandsFor, OnlyLanes, HasCaughtUp}
use Rattle.cache_hub.specs.OpenLanes.{GoesAlong, AreTold, AreChanged, SetsLane, newly_open, left_behind, open_at}
use Rattle.laws.specs.HubSteps.{IsPump, IsRebuild, IsOpening, IsCatchUp, IsLoss}
use Rattle.laws.proofs.HubLemmas.{polls_are_pumps, histories_are_rebuilds, lanes_open, lanes_catch_up, lanes_go_along, lanes_are_lost}

-- the pass is behind the call as it was before
module _ (base : List RowData) (p q : Pass RevisionData) (same : q ≡ p) (old new : HubData) where
  stood : StandsAt (λ log. StandsFor log new) base q new.cache.end → StandsFor (log_upto base p new.cache.end) new
  stood stands = subst (λ (z : Pass RevisionData). StandsFor (log_upto base z new.cache.end) new) same stands.stands

  pub pumped : StandsAt (λ log. StandsFor log new) base q new.cache.end → Stays old.cache new.cache → new.cache.base ≡ old.cache.base → old.cache.end ≤ new.cache.end →
      old.cache.ring.floor ≤ new.cache.ring.floor → AreTold (log_of base p) new.cache.end old.lanes.all new.lanes.all → IsPump (log_of base p) old new
  pumped stands stays built onward rises told =
      polls_are_pumps (log_of base p) old new (stood stands) stays built onward
      (subst (λ (z : Pass RevisionData). new.cache.end ≤ end_from z.first z.seen) same stands.within) rises told

  pub rebuilt : {A E : Type 0} (result : Result A E) (history : HistoryData) → OnOk result (StandsAt (λ log. StandsFor log new) base q new.cache.end) → OnOk result (IsRebuilt history old.cache new.cache) →
      OnOk result (AreChanged left_behind old.lanes.all new.lanes.all) → OnOk result (IsRebuild (log_of base p) history old new)
  rebuilt (Ok done) history stands built changed = histories_are_rebuilds (log_of base p) history old new (stood stands) built changed
  rebuilt (Err refusal) history stands built changed = tt

pub opened : {A E : Type 0} (result : Result A E) (id_of : A → ℕ) (old new : HubData) (s : Selection) (at : ℕ) → s.resource ≡ old.cache.resource →
    IfOk result (λ a. open_at old.lanes.all (id_of a) ≡ None) → OnlyLanes old new → IfOk result (λ a. SetsLane old.lanes.all new.lanes.all (id_of a) (Some (newly_open s at old.cache.end old.lanes.room))) →
    IfOk result (λ a. IsOpening (id_of a) s at old new)
opened (Ok a) id_of old new s at of free only sets = lanes_open old new (id_of a) s at of free only sets
opened (Err refusal) id_of old new s at of free only sets = tt

pub caught_up : {E : Type 0} (result : Result CaughtData E) (old new : HubData) (id : ℕ) (s : Selection) (at many : ℕ) →
    IfOk result (λ caught. (log : Log) → StandsFor log old → IsCaught log s at old.cache.end many caught) → OnOk result (old.cache.ring.floor ≤ at) → OnlyLanes old new →
    IfOk result (λ caught. HasCaughtUp (Some id) caught.upto old new) → IfOk result (λ caught. IsCatchUp id s at caught old new)
caught_up (Ok caught) old new id s at many told served only set = lanes_catch_up old new id s at many caught told served only set
caught_up (Err refusal) old new id s at many told served only set = tt

pub went_along : (result : Option CaughtData) (old new : HubData) (id : ℕ) (s : Selection) (at : ℕ) → IsSome result ↔ GoesAlong s at (open_at old.lanes.all id) →
    IfSome result (λ caught. (log : Log) (many : ℕ) → 1 ≤ many → StandsFor log old → IsCaught log s at old.cache.end many caught) → OnlyLanes old new →
    IfSome result (λ caught. HasCaughtUp (Some id) caught.upto old new) → IfSome result (λ caught. IsCatchUp id s at caught old new)
went_along None old new id s at goes told only set = tt
went_along (Some caught) old new id s at goes told only set = lanes_go_along old new id s at 1 caught (λ log. told log 1 (omega arith)) (goes.0 refl) only set

-- the hub is as it was behind a refusal
pub lost : {A E : Type 0} (result : Result A E) (refusal : E) → result ≡ Err refusal → (old mid new : HubData) (id : ℕ) (s : Selection) (at : ℕ) → OnErr result (mid ≡ old) → s.resource ≡ old.cache.resource →
    at < old.cache.ring.floor → OnlyLanes mid new → SetsLane mid.lanes.all new.lanes.all id None → IsLoss id s at old new
lost result refusal refused old mid new id s at kept of below only sets =
    let same : mid ≡ old = subst (λ r. OnErr r (mid ≡ old)) refused kept in
    lanes_are_lost old new id s at of below (subst (λ (h : HubData). OnlyLanes h new) same only) (subst (λ (h : HubData). SetsLane h.lanes.all new.lanes.all id None) same sets)
