-- What is copied is of the store's own log, which the pass knows.
use Rattle.std.proofs.Common.{◌≡◌, sym, subst, ap, ◌∙◌, arith}
use Rattle.rev_front.specs.Passes.{revision}
use Rattle.rev_log.specs.Logs.{Log}
use Rattle.up_store.specs.Past.{IsOldState}
use Rattle.up_store.specs.Stores.{log_in}
use Rattle.up_store.proofs.StoreLemmas.{met-log}
use Rattle.up_store.proofs.store.Store.old_state.Goals as goal

pub returns-clause-state : goal.returns-clause-state
returns-clause-state g c =
    let floor : c.floor-floor.result ≡ c.self.inside.pen.floor = c.floor-floor.ensures ∙ ap (λ w. w.floor) c.meet.ensures.same in
    let current : c.revision-current.result ≡ revision c.self.inside.pen = c.revision-current.ensures.answer ∙ ap revision c.meet.ensures.same in
    subst (λ (log : Log). IsOldState log c.args.resource c.args.at c.in_ok-old_state.field-0)
    (sym (met-log g.N.LogFacts.base c.self.inside.pen c.args.told.now c.meet.new.told c.meet.ensures.met))
    (c.in_ok-old_state.ensures (log_in g.N.LogFacts.base c.self.inside.pen) c.self.inside.pen.floor c.self.invariant.keeps (omega (arith, floor, c.if-at-floor.false)) (omega (arith, current, c.if-current-at.false)))
