-- The law of every world: the opening one is lawful, and lists of steps lead from lawful worlds to lawful ones.
use Rattle.std.proofs.Common.{ℕ, ◌≤◌, ◌^◌, List, [], ◌∷◌, All, sym, subst, arith}
use Rattle.std.proofs.lemmas.List.Elements.{All-nil}
use Rattle.kube_meta.specs.Rows.{RowData, AreRising}
use Rattle.rev_front.specs.Passes.{IsWhole, FitFrom}
use Rattle.rev_log.specs.Logs.{Fits}
use Rattle.rev_log.proofs.FitLemmas.{are_logs}
use Rattle.select_all.proofs.FloorSteps.{floors_begin}
use Rattle.cache_world.specs.World.{World, Party, whole_of, pass_of, seat_of, opening}
use Rattle.cache_world.specs.World.Party.{Store, Cache, Client}
use Rattle.cache_world.specs.Steps.{Step, after, Reaches}
use Rattle.cache_world.specs.Law.{IsGiven, IsLoss, IsKnowledge, IsLawful, EveryWorldIsLawful}
use Rattle.cache_world.proofs.PassLemmas.{store_knows}
use Rattle.cache_world.proofs.GrowthLemmas.{Leads, goes_trans}
use Rattle.cache_world.proofs.StepLemmas.{stays, step_leads}

pub steps_lead : (steps : List Step) (world last : World) → IsLawful world → Reaches world steps last → Leads world last
steps_lead [] world last is reached = subst (Leads world) (sym reached) (stays world is)
steps_lead (step ∷ steps) world last is reached =
    let one = step_leads world step is reached.0 in
    let rest = steps_lead steps (after world step) last one.0 reached.1 in
    (rest.0, goes_trans world (after world step) last one.1 rest.1)

module _ (first : ℕ) (base : List RowData) (window window_max : ℕ) (bound : first ≤ 2 ^ 62) (rising : AreRising base) (old : All (λ row. row.rev ≤ first) base) where
  abbrev new : World
  new = opening first base window window_max

  no_revision : FitFrom Fits first []
  no_revision i revision found = absurd (cc)

  new_whole : IsWhole Fits (whole_of new)
  new_whole = record { from = omega arith; reached = omega arith; bounded = (omega arith, omega arith); fitting = no_revision }

  new_passes : (who : Party) → IsKnowledge (whole_of new) (pass_of new who)
  new_passes Store = store_knows new (seat_of Store) new_whole
  new_passes (Cache resource) = store_knows new (seat_of (Cache resource)) new_whole
  new_passes (Client i) = store_knows new (seat_of (Client i)) new_whole

  pub new_lawful : IsLawful new
  new_lawful = record {
    log = are_logs new.log no_revision rising old (omega arith);
    whole = new_whole;
    passes = new_passes;
    caches = λ resource. record { begun = omega arith; kept = omega arith; ordered = omega arith; within = omega arith; floor_ok = floors_begin new.log resource window window_max first first (omega arith) };
    clients = λ i. record { watch = tt; given = All-nil (IsGiven new.log); losses = All-nil (IsLoss new) };
  }

pub every_world : EveryWorldIsLawful
every_world first base window window_max bound rising old steps more world later before on =
    let one = steps_lead steps (opening first base window window_max) world (new_lawful first base window window_max bound rising old) before in
    let two = steps_lead more world later one.0 on in
    (one.0, (two.1, two.0))
