-- Lanes over a pump: what the computed one makes of a lane and its queue, case by case.
use Rattle.std.proofs.Common.{◌≡◌, ◌≢◌, ◌⊎◌, ℕ, Bool, true, false, List, [], ◌∷◌, refl, subst, inl, inr}
use Rattle.rev_log.specs.Logs.{Log}
use Rattle.select_all.specs.Streams.{TransitionData}
use Rattle.cache_world.specs.Lanes.{LaneData, BatchData, batch_between, unsent, lane_after, queue_after, pumped_lane, queued}

no_list : {A : Type 0} (x : A) (xs ys : List A) → ys ≡ x ∷ xs → ys ≢ []
no_list x xs ys e none = absurd (cc)

module _ (P : LaneData → List BatchData → Type 0) (log : Log) (end : ℕ) (lane : LaneData)
    (left : (lane.behind ≡ true) ⊎ (unsent log end lane ≡ []) → P lane [])
    (falls_behind : lane.behind ≡ false → unsent log end lane ≢ [] → P (record lane { behind = true }) [])
    (sent : lane.behind ≡ false → unsent log end lane ≢ [] → P (record lane { mark = end }) (batch_between log lane.selection lane.mark end ∷ [])) where
  by_case : (behind : Bool) (came : List TransitionData) (falls : Bool) → lane.behind ≡ behind → unsent log end lane ≡ came → P (lane_after lane end behind came falls) (queue_after lane end behind came falls)
  by_case true came falls is same = left (inl is)
  by_case false [] falls is same = left (inr same)
  by_case false (x ∷ more) true is same = falls_behind is (no_list x more _ same)
  by_case false (x ∷ more) false is same =
      subst (λ (list : List TransitionData). P (record lane { mark = end }) (record { selection = lane.selection; from = lane.mark; to = end; sent = list } ∷ [])) same (sent is (no_list x more _ same))

  -- what holds in the three cases holds of the lane after a pump and of what went into its queue
  pub pumped_cases : (falls : Bool) → P (pumped_lane log end falls lane) (queued log end falls lane)
  pumped_cases falls = by_case lane.behind (unsent log end lane) falls refl refl
