-- What a server comes to, from what its listener says at the end.
use Rattle.std.proofs.Common.{◌≡◌, ◌∙◌, sym, subst, inl, inr, ◌⊎◌, ◌↔◌, ℕ, ◌<◌, ◌≤◌, List, Option}
use Rattle.std.proofs.Math.Logic.{∥∥₁_map}
use Rattle.edge_io.specs.Sent.{Sent}
use Rattle.net_front.specs.Ends.{MayEnd}
use Rattle.watchcache.specs.declared.asked.ServeOptions.{ServeOptions}
use Rattle.watchcache.specs.declared.noted.Notes.{Notes}
use Rattle.watchcache.specs.Run.{NetUse, RunsServer}

-- why a server ended, by what its listener gave
pub why_ended : {L : Type 0} (given : L → ℕ) (over : L → Type 0) (faults : L → ℕ) (l : L) (accepted limit served : ℕ) (ended failed : Type 0) →
    accepted ≡ given l → served ≡ given l → ended ↔ over l → (0 < faults l → failed) → MayEnd (over l) (faults l) accepted limit →
    ∥ ended ∥₁ ⊎ failed ⊎ (limit ≤ served)
why_ended given over faults l accepted limit served ended failed accepted-is served-is ends fails (inl is-over) =
    inl (∥∥₁_map is-over ends.1)
why_ended given over faults l accepted limit served ended failed accepted-is served-is ends fails (inr (inl some)) = inr (inl (fails some))
why_ended given over faults l accepted limit served ended failed accepted-is served-is ends fails (inr (inr enough)) =
    inr (inr (subst (λ n. limit ≤ n) (accepted-is ∙ sym served-is) enough))

-- how a net was used, by its counts
abbrev pub used : ℕ → ℕ → ℕ → ℕ → Type 0 → Option (List ℕ) → Notes → NetUse
used f f-new s s-new over peer notes =
    record { faults_old = f; faults_new = f-new; served_old = s; served_new = s-new; over = over; peer_old = peer; notes = notes }

-- what is so of the counts before is so of those that they are
pub server_since : (options : ServeOptions) (sent : Sent) (status f f-mid f-new s s-mid s-new : ℕ) (over : Type 0) (peer other : Option (List ℕ)) (notes : Notes)
    → f-mid ≡ f → s-mid ≡ s → RunsServer options (used f-mid f-new s-mid s-new over other notes) sent status → RunsServer options (used f f-new s s-new over peer notes) sent status
server_since options sent status f f-mid f-new s s-mid s-new over peer other notes f-is s-is runs =
    by (subst (λ (n : ℕ). RunsServer options (used f f-new n s-new over other notes) sent status) s-is
    (subst (λ (n : ℕ). RunsServer options (used n f-new s-mid s-new over other notes) sent status) f-is runs))
  where
    by : RunsServer options (used f f-new s s-new over other notes) sent status → RunsServer options (used f f-new s s-new over peer notes) sent status
    by (inl ended) = inl (record { port = ended.port; settings = ended.settings; ended = ended.ended; told = ended.told })
    by (inr unstarted) = inr unstarted
