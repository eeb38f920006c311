use Rattle.std.proofs.Common.{◌≡◌, suc, ◌-◌, length, take, sym, ap, ◌∙◌, arith}
use Rattle.event_ring.specs.Rings.{RingData, last_revision}
use Rattle.event_ring.specs.declared.stamped.Stamped.{Stamped}
use Rattle.event_ring.proofs.FitLemmas.{last_taken, none_inside}
use Rattle.event_ring.proofs.ring.Ring.floor_after.Goals as goal

pub returns-in-Some : goal.returns-in-Some
returns-in-Some c =
    let before : suc (c.args.passed - 1) ≡ c.args.passed = omega arith in
    rw (← c.self.view_is)
    (ap (λ (x : Stamped). x.event.rev) c.last.view_is
    ∙ sym (last_taken c.self.inside.floor c.self.inside.held.items (c.args.passed - 1) c.in-Some.last.now (sym c.in-Some.ensures))
    ∙ ap (λ n. last_revision c.self.inside.floor (take n c.self.inside.held.items)) before)

pub returns-in-None : goal.returns-in-None
returns-in-None c =
    let past = none_inside c.self.inside.held.items (c.args.passed - 1) (sym c.in-None.ensures) in
    let long = ap (λ (r : RingData). length r.held) c.self.view_is in
    absurd (omega (arith, past, long, c.requires, c.if-passed-eq0.false))
