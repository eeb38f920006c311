use Rattle.std.proofs.Common.{inl, inr, ◌∙◌, ◌≤◌, length, filter_map, ap, sym, subst, arith}
use Rattle.std.proofs.lemmas.Bool.{cases_lt}
use Rattle.std.proofs.lemmas.Option.{slice_get_within, get_or_from_slice_get}
use Rattle.cache_hub.proofs.CatchLemmas.{catching_goes_on, catching_stops, catching_ends}
use Rattle.cache_core.proofs.UndoLemmas.{none_there}
use Rattle.cache_hub.specs.Catching.{CaughtData, AreFirst}
use Rattle.cache_hub.specs.Due.{transition_of}
use Rattle.cache_hub.proofs.catching.first_lines.Goals.{else-loop-i-test, then-loop-i-test+in_default}
use Rattle.cache_hub.proofs.catching.first_lines.Goals as goal

pub loop-i-preserved : goal.loop-i-preserved
loop-i-preserved c = λ order. catching_goes_on c.args.many c.args.at c.args.selection.now c.args.all c.args.events.now c.loop-i.i c.in-Some.event.now c.loop-i.caught c.take.new.self c.requires order
    (slice_get_within c.args.events.now c.loop-i.i c.in-Some.event.now (sym c.in-Some.ensures))
    (sym (get_or_from_slice_get c.args.events.now c.loop-i.i c.in-Some.event.now c.in-Some.event.now (sym c.in-Some.ensures)))
    (c.loop-i.invariant order) (sym c.ends_before.ensures ∙ c.if-ends_before.false) c.in_ok-take.ensures

pub returns-then-ends_before : goal.returns-then-ends_before
returns-then-ends_before c = λ order. catching_stops c.args.many c.args.at c.args.selection.now c.args.all c.args.events.now c.loop-i.i c.in-Some.event.now c.loop-i.caught c.requires order
    (slice_get_within c.args.events.now c.loop-i.i c.in-Some.event.now (sym c.in-Some.ensures))
    (sym (get_or_from_slice_get c.args.events.now c.loop-i.i c.in-Some.event.now c.in-Some.event.now (sym c.in-Some.ensures)))
    (c.loop-i.invariant order) (sym c.ends_before.ensures ∙ c.if-ends_before.true)

pub returns : goal.returns
returns c = λ order.
    let done : length c.args.events.now ≤ c.loop-i.i = elim c.loop-i-test.branch [
      | else-loop-i-test w ↦ omega (arith, w.loop-i-test.false, c.loop-i.auto.i-end, c.len-i-end.ensures)
      | then-loop-i-test+in_default w ↦ elim (cases_lt c.loop-i.i (length c.args.events.now)) [
        | inl inside ↦ absurd (none_there c.args.events.now c.loop-i.i inside (sym w.in_default.ensures))
        | inr beyond ↦ beyond
      ]
    ] in
    subst (λ ls. AreFirst c.args.many c.args.all (filter_map (transition_of c.args.selection.now) c.args.events.now) (record { upto = c.args.all; lines = ls })) (sym (ap (λ (x : CaughtData). x.lines) c.caught-2.view_is))
    (catching_ends c.args.many c.args.at c.args.selection.now c.args.all c.args.events.now c.loop-i.i c.loop-i.caught order done (c.loop-i.invariant order))
