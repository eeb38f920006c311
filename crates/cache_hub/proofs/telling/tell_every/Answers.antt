use Rattle.std.proofs.Common.{refl, sym, ap, ◌∙◌, subst, suc, arith, ◌+◌, ◌≡◌, Bool, length, option_map, rules}
use Rattle.indexmap.specs.Layout.{length-set_value_at}
use Rattle.up_api.specs.Sections.{log_of}
use Rattle.cache_hub.specs.Due.{IsPieceOf, IsReady}
use Rattle.cache_hub.specs.OpenLanes.{told_lane}
use Rattle.cache_hub.proofs.TellLemmas.{AreWalked, each_all, fact_at, no_piece, piece_for_all, walk_begins, walk_ends, walked_on}
use Rattle.cache_hub.proofs.telling.tell_every.Goals as goal
use Rattle.cache_hub.proofs.telling.tell_every.Goals.{in-Some, in_default}

pub loop-place-init : goal.loop-place-init
loop-place-init g c =
    let log = log_of g.N.LogFacts.base c.args.told.now in
    (refl, walk_begins log c.args.end c.args.lanes.now.entries, refl, no_piece log c.args.end c.args.lanes.now.entries)

pub tell_along-requires-clause-ready : goal.tell_along-requires-clause-ready
tell_along-requires-clause-ready g c =
    let log = log_of g.N.LogFacts.base c.args.told.now in
    subst (λ p. IsReady (log_of g.N.LogFacts.base p) c.args.end c.args.events.now c.in-Some.lane.now) (sym c.loop-place.invariant.0)
    (fact_at log c.args.end (IsReady log c.args.end c.args.events.now) c.loop-place.place c.args.lanes.now.entries c.loop-place.lanes.entries c.in-Some.lane.now
    (each_all (IsReady log c.args.end c.args.events.now) c.args.lanes.now.entries c.len-place-end.ensures.unique c.requires.ready) c.loop-place.invariant.1 (sym c.in-Some.ensures.value))

pub tell_along-requires-clause-last : goal.tell_along-requires-clause-last
tell_along-requires-clause-last g c =
    let log = log_of g.N.LogFacts.base c.args.told.now in
    subst (λ p. IsPieceOf (log_of g.N.LogFacts.base p) c.args.end c.in-Some.lane.now.lane.selection (option_map (λ x. x.value) c.loop-place.last)) (sym c.loop-place.invariant.0)
    (fact_at log c.args.end (λ o. IsPieceOf log c.args.end o.lane.selection (option_map (λ x. x.value) c.loop-place.last)) c.loop-place.place c.args.lanes.now.entries c.loop-place.lanes.entries c.in-Some.lane.now
    c.loop-place.invariant.3 c.loop-place.invariant.1 (sym c.in-Some.ensures.value))

pub loop-place-preserved : goal.loop-place-preserved
loop-place-preserved g c =
    let log = log_of g.N.LogFacts.base c.args.told.now in
    let next : suc c.loop-place.place ≡ c.loop-place.place + 1 = omega arith in
    elim c.match-get_index_mut.branch [
      | in-Some w ↦
          let entries = ap (λ m. m.entries) w.lanes-is in
          let found = sym w.in-Some.ensures.value in
          let s = c.requires.alike.0 in
          let alike = each_all (λ o. o.lane.selection ≡ s) c.args.lanes.now.entries c.len-place-end.ensures.unique c.requires.alike.1 in (
            w.told-is ∙ w.tell_along.ensures.told ∙ c.loop-place.invariant.0,
            subst (λ n. AreWalked log c.args.end n c.args.lanes.now.entries c.match-get_index_mut.lanes.entries) next
                (subst (AreWalked log c.args.end (suc c.loop-place.place) c.args.lanes.now.entries) (sym entries)
                (walked_on log c.args.end c.loop-place.place c.args.lanes.now.entries c.loop-place.lanes.entries w.in-Some.lane.now w.tell_along.new.self c.loop-place.invariant.1 found
                (subst (λ p. (falls : Bool) × (w.tell_along.new.self ≡ told_lane (log_of g.N.LogFacts.base p) c.args.end falls w.in-Some.lane.now)) c.loop-place.invariant.0 w.tell_along.ensures.sent))),
            ap length entries ∙ length-set_value_at c.loop-place.lanes.entries c.loop-place.place w.tell_along.new.self ∙ c.loop-place.invariant.2,
            piece_for_all log c.args.end s w.in-Some.lane.now.lane.selection (option_map (λ x. x.value) c.match-get_index_mut.last) c.args.lanes.now.entries alike
                (fact_at log c.args.end (λ o. o.lane.selection ≡ s) c.loop-place.place c.args.lanes.now.entries c.loop-place.lanes.entries w.in-Some.lane.now alike c.loop-place.invariant.1 found)
                (search (rules, w.last-is, w.tell_along.ensures.last, c.loop-place.invariant.0)),
          )
      | in_default w ↦ absurd (search (rules, w.in_default.is, c.get_index_mut.ensures.found.1 (omega (arith, c.loop-place-test.true, c.len-place-end.ensures.len, c.loop-place.invariant.2))))
    ]

pub returns-clause-lanes : goal.returns-clause-lanes
returns-clause-lanes g c =
    walk_ends (log_of g.N.LogFacts.base c.args.told.now) c.args.end c.loop-place.place c.args.lanes.now.entries c.loop-place.lanes.entries
    (omega (arith, c.loop-place-test.false, c.len-place-end.ensures.len)) c.loop-place.invariant.1
