-- The revisions from a place on are those above its number.
use Rattle.std.proofs.Common.{◌≡◌, length, refl, ◌∙◌, arith}
use Rattle.up_store.proofs.KeptLemmas.{old-history}
use Rattle.up_store.proofs.kept.Kept.old_history.Goals as goal

pub copied-requires-clause-order : goal.copied-requires-clause-order
copied-requires-clause-order c = omega (arith, c.len.ensures, c.args.self.now.revisions.ok.0, c.place_of-start.ensures.within)

pub copied-requires-clause-inside : goal.copied-requires-clause-inside
copied-requires-clause-inside c = omega (arith, c.len.ensures, c.args.self.now.revisions.ok.0)

pub returns-clause-history : goal.returns-clause-history
returns-clause-history c = λ log floor keeps later order end.
    let len : c.len.result ≡ length c.args.self.now.revisions.items = c.len.ensures ∙ c.args.self.now.revisions.ok.0 in
    old-history log floor c.args.self.now c.args.resource c.args.from c.args.upto c.place_of-start.result c.len.result _ later order refl refl end len
    (c.in_ok-state.ensures log floor keeps later (omega (arith, order, end))) c.in_ok-revisions.ensures
    (c.place_of-start.ensures.place log floor keeps (omega (arith, keeps.within, later)) (omega (arith, order, end))) keeps
