-- What lanes have to be told of the events of a log, and that the stream up to a revision is that of the log up to there.
use Rattle.std.proofs.Common.{◌≡◌, ℕ, ◌-◌, ◌<◌, ◌≤◌, inl, inr, Bool, true, false, nat_lt, List, [], ◌∷◌, ◌++◌, drop, map, filter, filter_map, Option, refl, sym, ap, ◌∙◌, arith}
use Rattle.std.specs.List.{cons_option, AllByRecursion}
use Rattle.std.proofs.lemmas.Bool.{cases_lt}
use Rattle.std.proofs.lemmas.List.{length-take, take-append-drop}
use Rattle.kube_meta.specs.declared.resources.Resource.{Resource}
use Rattle.rev_log.specs.Logs.{Log, AreNumbered, grown, end_of}
use Rattle.select_all.specs.declared.selection.Selection.{Selection}
use Rattle.select_all.specs.Selecting.{selects}
use Rattle.select_all.specs.Streams.{EventData, TransitionData, events, transition_by, transitions}
use Rattle.select_all.proofs.EventLaws.{are_above, are_within}
use Rattle.select_all.proofs.StreamLaws.{transitions_are_joined, transitions_are_kept}
use Rattle.event_ring.specs.Events.{EventRows}
use Rattle.cache_core.specs.Caches.{held_event, held_events, log_at}
use Rattle.cache_world.specs.Lanes.{LaneData, unsent}
use Rattle.cache_hub.specs.Due.{event_data, all_due}

-- ---- events that a ring holds are those of the log

pub data_of_held : (events : List EventData) → map event_data (map held_event events) ≡ events
data_of_held [] = refl
data_of_held (e ∷ es) = ap (λ more. e ∷ more) (data_of_held es)

-- ---- of events, those above a mark

due_more : (lane : LaneData) (e : EventRows) (es : List EventRows) → lane.behind ≡ false →
    all_due lane es ≡ filter_map (transition_by (selects lane.selection)) (filter (λ x. nat_lt lane.mark x.rev) (map event_data es)) →
    all_due lane (e ∷ es) ≡ filter_map (transition_by (selects lane.selection)) (filter (λ x. nat_lt lane.mark x.rev) (map event_data (e ∷ es)))
due_more lane e es ahead more = by (nat_lt lane.mark e.rev) refl
  where
    f : EventData → Option TransitionData
    f = transition_by (selects lane.selection)

    by : (b : Bool) → nat_lt lane.mark e.rev ≡ b → all_due lane (e ∷ es) ≡ filter_map f (filter (λ x. nat_lt lane.mark x.rev) (map event_data (e ∷ es)))
    by true above = rw ahead (rw above (ap (cons_option (f (event_data e))) more))
    by false below = rw ahead (rw below more)

pub all_due-is : (lane : LaneData) (es : List EventRows) → lane.behind ≡ false →
    all_due lane es ≡ filter_map (transition_by (selects lane.selection)) (filter (λ e. nat_lt lane.mark e.rev) (map event_data es))
all_due-is lane [] ahead = refl
all_due-is lane (e ∷ es) ahead = due_more lane e es ahead (all_due-is lane es ahead)

all_above : (mark from to : ℕ) (es : List EventData) → mark ≤ from → AllByRecursion (λ event. (from < event.rev) × (event.rev ≤ to)) es → filter (λ e. nat_lt mark e.rev) es ≡ es
all_above mark from to [] below within = refl
all_above mark from to (e ∷ es) below within = grind (arith, below, within.0.0, all_above mark from to es below within.1)

-- a watch that was told everything up to a revision, and then what is above its mark, was told everything
pub told_on : (log : Log) (s : Selection) (mark old new : ℕ) → AreNumbered log.first log.revisions → old ≤ new → transitions log s mark old ≡ [] →
    filter_map (transition_by (selects s)) (filter (λ e. nat_lt mark e.rev) (events log s.resource old new)) ≡ transitions log s mark new
told_on log s mark old new numbered onward nothing = elim (cases_lt old mark) [
  | inl above ↦ ap (filter_map (transition_by (selects s))) (are_above log s.resource old mark new numbered (omega (arith, above)))
  | inr below ↦
      ap (filter_map (transition_by (selects s))) (all_above mark old new (events log s.resource old new) below (are_within log s.resource numbered old new))
      ∙ ap (λ before. before ++ transitions log s old new) (sym nothing)
      ∙ transitions_are_joined (selects s) log s.resource mark old new below onward
]

-- what is due of the events of a log is what wasn't sent
pub due_is_unsent : (log : Log) (lane : LaneData) (es : List EventRows) (resource : Resource) (old new : ℕ) →
    AreNumbered log.first log.revisions → old ≤ new → es ≡ held_events log resource old new → lane.selection.resource ≡ resource →
    unsent log old lane ≡ [] → lane.behind ≡ false → all_due lane es ≡ unsent log new lane
due_is_unsent log lane es resource old new numbered onward held of nothing ahead =
    all_due-is lane es ahead
    ∙ ap (λ xs. filter_map (transition_by (selects lane.selection)) (filter (λ e. nat_lt lane.mark e.rev) (map event_data xs))) (held ∙ ap (λ r. held_events log r old new) (sym of))
    ∙ ap (λ xs. filter_map (transition_by (selects lane.selection)) (filter (λ e. nat_lt lane.mark e.rev) xs)) (data_of_held (events log lane.selection.resource old new))
    ∙ told_on log lane.selection lane.mark old new numbered onward nothing

-- ---- the log up to a revision

pub at_end : (log : Log) (e : ℕ) → log.first ≤ e → e ≤ end_of log → end_of (log_at log e) ≡ e
at_end log e begun reached = omega (arith, begun, reached, length-take (e - log.first) log.revisions)

at_grows : (log : Log) (e : ℕ) → grown (log_at log e) (drop (e - log.first) log.revisions) ≡ log
at_grows log e = ap (λ xs. record log { revisions = xs }) (take-append-drop (e - log.first) log.revisions)

-- the stream up to a revision is that of the log up to there
pub transitions_at : (log : Log) (s : Selection) (a e : ℕ) → log.first ≤ e → e ≤ end_of log → transitions (log_at log e) s a e ≡ transitions log s a e
transitions_at log s a e begun reached =
    sym (transitions_are_kept (selects s) (log_at log e) (drop (e - log.first) log.revisions) s.resource a e (omega (arith, at_end log e begun reached)))
    ∙ ap (λ l. transitions l s a e) (at_grows log e)
