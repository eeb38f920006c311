-- What a server comes to that begins with what another one sends.
use Rattle.std.proofs.Common.{◌≡◌, subst, inl, inr, ℕ, List, Option, Some, None, Ok, Err, IfSome}
use Rattle.std.specs.Prelude.{Result, IfErr}
use Rattle.watchcache.specs.declared.asked.ServeOptions.{ServeOptions}
use Rattle.watchcache.specs.declared.noted.Notes.{Notes}
use Rattle.watchcache.proofs.ServerLemmas.{used}
use Rattle.edge_io.specs.Counts.{Rose}
use Rattle.edge_io.specs.Sent.{Sent}
use Rattle.mirror_link.specs.Asking.{IsAsked}
use Rattle.mirror_link.specs.Openings.{OpeningData}
use Rattle.mirror_link.specs.declared.link_refusal.LinkNo.{LinkNo}
use Rattle.mirror_link.specs.declared.link_refusal.LinkNo.TheVariants.{WriteFault}
use Rattle.watchcache.specs.Run.{Refuses, RunsFrom, RunsServer}

-- what holds of all that a source has left holds of what its peer sends, where that is told
pub sent_by : (P : List ℕ → Type 0) (peer left : Option (List ℕ)) → IfSome peer (λ bytes. left ≡ Some bytes) → IfSome left P → IfSome peer P
sent_by P None left same holds = tt
sent_by P (Some bytes) left same holds = subst (λ l. IfSome l P) same holds

-- where the sink failed that an opening was asked for over, its count of faults rose
pub rose : (result : Result OpeningData LinkNo) (text : List ℕ) (sent : Sent) → IsAsked result text sent →
    IfErr result (λ why. why ≡ WriteFault → Rose sent.faults_old sent.faults_new)
rose (Ok opening) text sent is = tt
rose (Err why) text sent is = λ fault. (subst (λ (w : LinkNo). IsAsked {A = OpeningData} (Err w) text sent) fault is).1

-- it was read at a port, and served over; whatever another one sends
pub opened : (Has : List ℕ → Type 0) (W : Type 0) (Lacks : W → List ℕ → Type 0) (IsOf : W → Type 0) (line : W → List ℕ) (port : Option ℕ)
    (options : ServeOptions) (sent : Sent) (status f f-new s s-new : ℕ) (over : Type 0) (left other : Option (List ℕ)) (notes : Notes) → notes.dialled ≡ port → IfSome left Has →
    RunsServer options (used f f-new s s-new over other notes) sent status →
    RunsFrom Has W Lacks IsOf line port options (used f f-new s s-new over left notes) sent status
opened Has W Lacks IsOf line port options sent status f f-new s s-new over left other notes at has (inl served) =
    inl (record { dialled = at; opened = has; served = record { port = served.port; settings = served.settings; ended = served.ended; told = served.told } })
opened Has W Lacks IsOf line port options sent status f f-new s s-new over left other notes at has (inr unstarted) = inr (inr unstarted)

-- the counts before the dial, and what the other one sends, tell it as well
pub dialled : (Has : List ℕ → Type 0) (W : Type 0) (Lacks : W → List ℕ → Type 0) (IsOf : W → Type 0) (line : W → List ℕ) (port : Option ℕ)
    (options : ServeOptions) (sent : Sent) (status f f-mid f-new s s-mid s-new : ℕ) (over : Type 0) (peer left : Option (List ℕ)) (notes : Notes) → f-mid ≡ f → s-mid ≡ s →
    IfSome peer (λ bytes. left ≡ Some bytes) →
    RunsFrom Has W Lacks IsOf line port options (used f-mid f-new s-mid s-new over left notes) sent status →
    RunsFrom Has W Lacks IsOf line port options (used f f-new s s-new over peer notes) sent status
dialled Has W Lacks IsOf line port options sent status f f-mid f-new s s-mid s-new over peer left notes f-is s-is same runs =
    by_peer (subst (λ (n : ℕ). RunsFrom Has W Lacks IsOf line port options (used f f-new n s-new over left notes) sent status) s-is
    (subst (λ (n : ℕ). RunsFrom Has W Lacks IsOf line port options (used n f-new s-mid s-new over left notes) sent status) f-is runs))
  where
    by_peer : RunsFrom Has W Lacks IsOf line port options (used f f-new s s-new over left notes) sent status →
        RunsFrom Has W Lacks IsOf line port options (used f f-new s s-new over peer notes) sent status
    by_peer (inl m) =
        inl (record {
          dialled = m.dialled;
          opened = sent_by Has peer left same m.opened;
          served = record { port = m.served.port; settings = m.served.settings; ended = m.served.ended; told = m.served.told };
        })
    by_peer (inr (inl u)) = inr (inl (record { why = u.why; dialled = u.dialled; sends = sent_by (Lacks u.why) peer left same u.sends; told = u.told }))
    by_peer (inr (inr unstarted)) = inr (inr unstarted)

-- there is none, and why was told
pub unopened : (Has : List ℕ → Type 0) (W : Type 0) (Lacks : W → List ℕ → Type 0) (IsOf : W → Type 0) (line : W → List ℕ) (port : Option ℕ)
    (options : ServeOptions) (why : W) (sent : Sent) (status f f-new s s-new : ℕ) (over : Type 0) (left other : Option (List ℕ)) (notes : Notes) → notes.dialled ≡ port →
    (IsOf why → IfSome left (Lacks why)) → Refuses IsOf line why (used f f-new s s-new over other notes) sent status →
    RunsFrom Has W Lacks IsOf line port options (used f f-new s s-new over left notes) sent status
unopened Has W Lacks IsOf line port options why sent status f f-new s s-new over left other notes at lacks (inl tells) =
    inr (inl (record { why = why; dialled = at; sends = lacks tells.0; told = tells }))
unopened Has W Lacks IsOf line port options why sent status f f-new s s-new over left other notes at lacks (inr unstarted) = inr (inr unstarted)
