use Rattle.std.proofs.Common.{[], ◌∷◌, refl, ap, sym, subst, ◌∙◌}
use Rattle.edge_io.proofs.ToldLemmas.{Noted-join}
use Rattle.rev_front.specs.Passes.{Pass}
use Rattle.rev_log.specs.Changes.{RevisionData}
use Rattle.client_api.specs.Alone.{IsSoleRead}
use Rattle.client_api.specs.Facts.{IsOnward}
use Rattle.sess_turns.specs.declared.ends.WatchEnd.TheVariants as ends
use Rattle.sess_turns.specs.Turns.{timed_out, stopped}
use Rattle.sess_turns.proofs.AloneLemmas.{sole-same}
use Rattle.sess_turns.proofs.AskLemmas.{gives-told, is-late, is-in-time}
use Rattle.sess_turns.proofs.TurnedLemmas.{ends-here, breaks-here, took-turned}
use Rattle.sess_turns.proofs.turns.turn.Goals as goal

pub returns-then-is_late-clause-turned : goal.returns-then-is_late-clause-turned
returns-then-is_late-clause-turned g c =
    let now = c.now-reading.result in
    let late = is-late c.args.settings.now c.args.ask.now.timeout_s c.args.start.ms c.seconds.result now.ms c.is_late.result c.seconds.ensures.is c.is_late.ensures c.if-is_late.true in
    ends-here _ _ _ c.args.start _ _ _ (timed_out now) ends.Timeout _ (late, sym c.tick.ensures.pass) (λ made few. few) refl c.now-reading.ensures.noted
    (λ w. sole-same _ _ c.tick.ensures.pass) c.close.result _ refl c.close.ensures.ended c.close.ensures.sends

pub returns-then-reading-clause-turned : goal.returns-then-reading-clause-turned
returns-then-reading-clause-turned g c =
    let now = c.now-reading.result in
    let in_time = is-in-time c.args.settings.now c.args.ask.now.timeout_s c.args.start.ms c.seconds.result now.ms c.is_late.result c.seconds.ensures.is c.is_late.ensures c.if-is_late.false in
    ends-here _ _ _ c.args.start _ _ _ (stopped now) ends.Stopped _ (in_time, c.if-reading.true, sym c.tick.ensures.pass) (λ made few. few) refl c.now-reading.ensures.noted
    (λ w. sole-same _ _ c.tick.ensures.pass) c.close-then-reading.result _ refl c.close-then-reading.ensures.ended c.close-then-reading.ensures.sends

pub returns-in-Ok-clause-turned : goal.returns-in-Ok-clause-turned
returns-in-Ok-clause-turned g c =
    let now = c.now-reading.result in
    let e = c.in-Ok.ensures in
    let in_time = is-in-time c.args.settings.now c.args.ask.now.timeout_s c.args.start.ms c.seconds.result now.ms c.is_late.result c.seconds.ensures.is c.is_late.ensures c.if-is_late.false in
    let last : Pass RevisionData = g.C.Client.pass c.take.new.self in
    took-turned _ _ _ c.args.start _ _ _
    (record { reading = now; took = c.in-Ok.took; pass = last })
    (record {
      goes_on = (in_time, c.if-reading.false);
      onward = subst (λ (z : Pass RevisionData). IsOnward z last) c.tick.ensures.pass e.onward;
      gives = gives-told _ (g.C.Client.facts c.args.client.now) _ _ _ _ _ _ c.in-Ok.took c.tick.ensures.facts c.requires.watching c.tick.ensures.pass e.answer;
    })
    (Noted-join _ _ _ (now ∷ []) [] c.now-reading.ensures.noted c.tell.ensures.unread)
    (λ w. subst (λ (z : Pass RevisionData). IsSoleRead z last) c.tick.ensures.pass (e.sole (c.tick.ensures.whole w)))
    c.in-Ok.took c.tell.result _ refl refl c.tell.ensures.told

pub returns-in-Err-clause-turned : goal.returns-in-Err-clause-turned
returns-in-Err-clause-turned g c =
    let now = c.now-reading.result in
    let e = c.in-Err.ensures in
    let in_time = is-in-time c.args.settings.now c.args.ask.now.timeout_s c.args.start.ms c.seconds.result now.ms c.is_late.result c.seconds.ensures.is c.is_late.ensures c.if-is_late.false in
    let last : Pass RevisionData = g.C.Client.pass c.take.new.self in
    breaks-here _ _ _ c.args.start _ _ _ now (record { pass = last; position = c.args.place.now.position; mark = c.args.place.now.mark }) (in_time, c.if-reading.false)
    (subst (λ (z : Pass RevisionData). IsOnward z last) c.tick.ensures.pass e.onward) c.now-reading.ensures.noted refl refl
    (λ w. e.sole (c.tick.ensures.whole w) ∙ ap (λ (z : Pass RevisionData). z.seen) c.tick.ensures.pass)
