-- Watches stay lawful as the log grows and over each step of theirs.
use Rattle.std.proofs.Common.{◌≡◌, ◌≢◌, ◌⊎◌, ℕ, ◌≤◌, max, Bool, true, false, List, [], ◌∷◌, ◌++◌, All, append-nil, refl, sym, ap, ◌∙◌, subst, inl, inr, nat_eq, nat_le, arith}
use Rattle.std.specs.List.Sorted.{IsStrictlySortedBy}
use Rattle.std.proofs.lemmas.Bool.{cases_Bool, cond_both, eqb-true, leb-true, leb-false, ltb-false}
use Rattle.std.proofs.lemmas.List.Elements.{All-nil, All-push, All-tail, All-head}
use Rattle.kube_meta.specs.declared.resources.Resource.{Resource}
use Rattle.rev_log.specs.Changes.{RevisionData}
use Rattle.rev_log.specs.Logs.{Log, IsLog, end_of, grown}
use Rattle.select_all.specs.declared.selection.Selection.{Selection}
use Rattle.select_all.specs.Selecting.{selects}
use Rattle.select_all.specs.Streams.{TransitionData, transition_cmp, transitions}
use Rattle.select_all.proofs.StreamLaws.{transitions_are_joined, transitions_are_kept, no_transitions}
use Rattle.select_all.proofs.FloorSteps.{end-grows}
use Rattle.select_all.proofs.OrderLaws.{transitions_in_order}
use Rattle.cache_world.specs.Lanes.{LaneData, BatchData, IsBatchOf, IsInStep, batch_between, unsent}
use Rattle.cache_world.specs.World.{WatchData}
use Rattle.cache_world.specs.Steps.{pumped_watch, rebuilt_watch, opened_watch, caught_watch, delivered}
use Rattle.cache_world.specs.Law.{IsWatch}
use Rattle.cache_world.proofs.LaneLemmas.{pumped_cases}

-- ---- streams of a selection

none_told : (log : Log) (s : Selection) (a b : ℕ) → b ≤ a → transitions log s a b ≡ []
none_told log s a b order = no_transitions (selects s) log s.resource a b order

joined : (log : Log) (s : Selection) (a b c : ℕ) → a ≤ b → b ≤ c → transitions log s a b ++ transitions log s b c ≡ transitions log s a c
joined log s a b c first second = transitions_are_joined (selects s) log s.resource a b c first second

told_alike : (log : Log) (more : List RevisionData) (s : Selection) (a b : ℕ) → b ≤ max a (end_of log) → transitions (grown log more) s a b ≡ transitions log s a b
told_alike log more s a b within = transitions_are_kept (selects s) log more s.resource a b within

-- a stream that isn't empty goes on
came_onward : (log : Log) (s : Selection) (a b : ℕ) → transitions log s a b ≢ [] → a ≤ b
came_onward log s a b came = elim (cases_Bool (nat_le b a)) [
  | inl below ↦ absurd (came (none_told log s a b (leb-true b a below)))
  | inr above ↦ let more = leb-false b a above in omega (arith, more)
]

-- what was received up to a position is in order
in_order : (log : Log) (s : Selection) (a b : ℕ) (received : List TransitionData) → IsLog log → received ≡ transitions log s a b → IsStrictlySortedBy transition_cmp received
in_order log s a b received is same = subst (IsStrictlySortedBy transition_cmp) (sym same) (transitions_in_order (selects s) log s.resource a b is).0

-- ---- batches

batch_grown : (log : Log) (more : List RevisionData) (s : Selection) (batch : BatchData) → IsBatchOf log s batch → IsBatchOf (grown log more) s batch
batch_grown log more s batch is = (
  record {
    onward = is.0.onward;
    within = let b = is.0.within in omega (arith, end-grows log more);
    some = is.0.some;
    exact = is.0.exact ∙ sym (told_alike log more batch.selection batch.from batch.to (let b = is.0.within in omega arith));
  },
  is.1,
)

batches_grown : (log : Log) (more : List RevisionData) (s : Selection) (batches : List BatchData) → All (IsBatchOf log s) batches → All (IsBatchOf (grown log more) s) batches
batches_grown log more s batches all k d lt = batch_grown log more s _ (all k d lt)

-- what a pump puts into a queue is a batch
new_batch : (log : Log) (s : Selection) (mark end : ℕ) → end ≤ end_of log → transitions log s mark end ≢ [] → IsBatchOf log s (batch_between log s mark end)
new_batch log s mark end within came = (record { onward = came_onward log s mark end came; within = within; some = came; exact = refl }, refl)

-- ---- watches

-- what was received is in order since it is the stream
watch_is : (log : Log) (end : ℕ) (watch : WatchData) → IsLog log →
    watch.start ≤ watch.position → watch.position ≤ max watch.start (end_of log) →
    watch.received ≡ transitions log watch.lane.selection watch.start watch.position →
    All (IsBatchOf log watch.lane.selection) watch.waiting →
    (watch.start ≤ watch.lane.mark) × (watch.lane.mark ≤ max watch.start (end_of log)) →
    IsInStep log end watch.lane → IsWatch log end watch
watch_is log end watch is started reached received waiting marked in_step = record {
  started = started;
  reached = reached;
  received = received;
  in_order = in_order log watch.lane.selection watch.start watch.position watch.received is received;
  waiting = waiting;
  marked = marked;
  in_step = in_step;
}

-- a watch stays lawful as the log grows
pub watch_grown : (log : Log) (more : List RevisionData) (end : ℕ) (watch : WatchData) → end ≤ end_of log → IsWatch log end watch → IsWatch (grown log more) end watch
watch_grown log more end watch within is =
    let longer = end-grows log more in
    let reached = is.reached in
    let marked = is.marked in
    record {
      started = is.started;
      reached = omega arith;
      received = is.received ∙ sym (told_alike log more watch.lane.selection watch.start watch.position is.reached);
      in_order = is.in_order;
      waiting = batches_grown log more watch.lane.selection watch.waiting is.waiting;
      marked = (marked.0, omega arith);
      in_step = λ fed. told_alike log more watch.lane.selection watch.lane.mark end (omega arith) ∙ is.in_step fed;
    }

-- over a pump
pub watch_pumped : (log : Log) (ends : Resource → ℕ) (end later : ℕ) (falls : Bool) (watch : WatchData) → IsLog log → later ≤ end_of log →
    ends watch.lane.selection.resource ≡ later → IsWatch log end watch →
    IsWatch log (ends (pumped_watch log later falls watch).lane.selection.resource) (pumped_watch log later falls watch)
watch_pumped log ends end later falls watch lawful within at is =
    pumped_cases (λ (lane : LaneData) (sent : List BatchData). IsWatch log (ends lane.selection.resource) (record watch { waiting = watch.waiting ++ sent; lane = lane })) log later watch.lane
    (λ why. watch_is log (ends watch.lane.selection.resource) (record watch { waiting = watch.waiting ++ []; lane = watch.lane }) lawful is.started is.reached is.received
    (subst (All (IsBatchOf log watch.lane.selection)) (sym (append-nil watch.waiting)) is.waiting) is.marked
    (λ fed. left_in_step why fed))
    (λ fed came. watch_is log (ends watch.lane.selection.resource) (record watch { waiting = watch.waiting ++ []; lane = record (watch.lane) { behind = true } }) lawful is.started is.reached is.received
    (subst (All (IsBatchOf log watch.lane.selection)) (sym (append-nil watch.waiting)) is.waiting) is.marked
    (λ not. absurd (cc)))
    (λ fed came. watch_is log (ends watch.lane.selection.resource) (record watch { waiting = watch.waiting ++ batch_between log watch.lane.selection watch.lane.mark later ∷ []; lane = record (watch.lane) { mark = later } }) lawful is.started is.reached is.received
    (All-push (IsBatchOf log watch.lane.selection) watch.waiting _ is.waiting (new_batch log watch.lane.selection watch.lane.mark later within came))
    (let onward = came_onward log watch.lane.selection watch.lane.mark later came in let marked = is.marked in (omega arith, omega arith))
    (λ again. none_told log watch.lane.selection later (ends watch.lane.selection.resource) (omega (arith, at))))
    falls
  where
    left_in_step : (watch.lane.behind ≡ true) ⊎ (unsent log later watch.lane ≡ []) → watch.lane.behind ≡ false → unsent log (ends watch.lane.selection.resource) watch.lane ≡ []
    left_in_step (inl behind) fed = absurd (cc)
    left_in_step (inr nothing) fed = ap (transitions log watch.lane.selection watch.lane.mark) at ∙ nothing

-- over a rebuild
pub watch_rebuilt : (log : Log) (end later : ℕ) (watch : WatchData) → IsWatch log end watch → IsWatch log later (rebuilt_watch watch)
watch_rebuilt log end later watch is = record {
  started = is.started;
  reached = is.reached;
  received = is.received;
  in_order = is.in_order;
  waiting = is.waiting;
  marked = is.marked;
  in_step = λ fed. absurd (cc);
}

-- a new one
pub watch_opened : (log : Log) (s : Selection) (at end : ℕ) → IsLog log → IsWatch log end (opened_watch s at end)
watch_opened log s at end lawful =
    watch_is log end (opened_watch s at end) lawful (omega arith) (omega arith) (sym (none_told log s at at (omega arith))) (All-nil (IsBatchOf log s)) (omega arith, omega arith)
    (λ fed. let order = ltb-false at end fed in none_told log s at end (omega arith))

-- over a catching up
pub watch_caught : (log : Log) (ends : Resource → ℕ) (to end : ℕ) (watch : WatchData) → IsLog log → end ≤ end_of log → ends watch.lane.selection.resource ≡ end →
    watch.position ≤ to → to ≤ max watch.position end → IsWatch log end watch →
    IsWatch log (ends (caught_watch log to end watch).lane.selection.resource) (caught_watch log to end watch)
watch_caught log ends to end watch lawful within at onward reach is =
    let reached = is.reached in
    let started = is.started in
    let marked = is.marked in
    let received : watch.received ++ transitions log watch.lane.selection watch.position to ≡ transitions log watch.lane.selection watch.start to = ap (λ (old : List TransitionData). old ++ transitions log watch.lane.selection watch.position to) is.received ∙ joined log watch.lane.selection watch.start watch.position to is.started onward in
    cond_both (nat_le end to) (record (watch.lane) { mark = to; behind = false }) watch.lane
    (λ (lane : LaneData). IsWatch log (ends lane.selection.resource) (record watch { position = to; received = watch.received ++ transitions log watch.lane.selection watch.position to; lane = lane }))
    (λ all. watch_is log (ends watch.lane.selection.resource) (record watch { position = to; received = watch.received ++ transitions log watch.lane.selection watch.position to; lane = record (watch.lane) { mark = to; behind = false } }) lawful
    (omega arith) (omega arith) received is.waiting (omega arith, omega arith)
    (λ fed. let le = leb-true end to all in none_told log watch.lane.selection to (ends watch.lane.selection.resource) (omega arith)))
    (λ part. watch_is log (ends watch.lane.selection.resource) (record watch { position = to; received = watch.received ++ transitions log watch.lane.selection watch.position to; lane = watch.lane }) lawful
    (omega arith) (omega arith) received is.waiting marked (λ fed. ap (transitions log watch.lane.selection watch.lane.mark) at ∙ is.in_step fed))

-- over a delivery
received_on : (log : Log) (end : ℕ) (batch : BatchData) (more : List BatchData) (watch : WatchData) → IsLog log → IsBatchOf log watch.lane.selection batch → All (IsBatchOf log watch.lane.selection) more → batch.from ≡ watch.position → IsWatch log end watch →
    IsWatch log end (record watch { position = batch.to; received = watch.received ++ batch.sent; waiting = more })
received_on log end batch more watch lawful this rest here is =
    let onward = this.0.onward in
    let within = this.0.within in
    let started = is.started in
    let sent : batch.sent ≡ transitions log watch.lane.selection watch.position batch.to = this.0.exact ∙ ap (λ (x : Selection). transitions log x batch.from batch.to) this.1 ∙ ap (λ (n : ℕ). transitions log watch.lane.selection n batch.to) here in
    watch_is log end (record watch { position = batch.to; received = watch.received ++ batch.sent; waiting = more }) lawful (omega arith) (omega arith)
    (ap (λ (old : List TransitionData). old ++ batch.sent) is.received ∙ ap (λ (new : List TransitionData). transitions log watch.lane.selection watch.start watch.position ++ new) sent ∙ joined log watch.lane.selection watch.start watch.position batch.to is.started (omega arith))
    rest is.marked is.in_step

pub watch_delivered : (log : Log) (ends : Resource → ℕ) (waiting : List BatchData) (watch : WatchData) → IsLog log → waiting ≡ watch.waiting → IsWatch log (ends watch.lane.selection.resource) watch →
    IsWatch log (ends (delivered waiting watch).lane.selection.resource) (delivered waiting watch)
watch_delivered log ends [] watch lawful same is = is
watch_delivered log ends (batch ∷ more) watch lawful same is =
    let all : All (IsBatchOf log watch.lane.selection) (batch ∷ more) = subst (All (IsBatchOf log watch.lane.selection)) (sym same) is.waiting in
    let this = All-head (IsBatchOf log watch.lane.selection) batch more all in
    let rest = All-tail (IsBatchOf log watch.lane.selection) batch more all in
    cond_both (nat_eq batch.from watch.position) (record watch { position = batch.to; received = watch.received ++ batch.sent; waiting = more }) (record watch { waiting = more })
    (λ (w : WatchData). IsWatch log (ends w.lane.selection.resource) w)
    (λ here. received_on log (ends watch.lane.selection.resource) batch more watch lawful this rest (eqb-true batch.from watch.position here) is)
    (λ elsewhere. record { started = is.started; reached = is.reached; received = is.received; in_order = is.in_order; waiting = rest; marked = is.marked; in_step = is.in_step })
