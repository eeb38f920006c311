-- What is copied is of the store's own log, which the pass knows.
use Rattle.std.proofs.Common.{◌≡◌, ap, ◌∙◌, arith}
use Rattle.rev_front.specs.Passes.{revision}
use Rattle.up_store.specs.Stores.{log_in}
use Rattle.up_store.proofs.StoreLemmas.{old-history-told}
use Rattle.up_store.proofs.store.Store.old_history.Goals as goal

pub returns-clause-history : goal.returns-clause-history
returns-clause-history g c =
    let floor : c.floor-floor.result ≡ c.self.inside.pen.floor = c.floor-floor.ensures ∙ ap (λ w. w.floor) c.meet.ensures.same in
    let upto : c.revision-upto.result ≡ revision c.self.inside.pen = c.revision-upto.ensures.answer ∙ ap revision c.meet.ensures.same in
    old-history-told g.N.LogFacts.base c.self.inside.pen c.args.told.now c.meet.new.told c.args.resource c.floor-floor.result c.in_ok-old_history.field-0 c.meet.ensures.met floor
    (c.in_ok-old_history.ensures.history (log_in g.N.LogFacts.base c.self.inside.pen) c.self.inside.pen.floor c.self.invariant.keeps (omega (arith, floor)) (omega (arith, floor, upto, c.self.invariant.keeps.reached)) upto)
