use Rattle.std.proofs.Common.{◌≡◌, ◌∙◌, ap, subst, arith}
use Rattle.rev_front.specs.Passes.{Extends, Pass}
use Rattle.rev_log.specs.Changes.{RevisionData}
use Rattle.rev_front.proofs.Passing.{looks_hold}
use Rattle.cached_client.proofs.answering.load.Goals as goal

pub returns-clause-last : goal.returns-clause-last
returns-clause-last g c =
    let learns = c.meet.ensures.learns in
    let q = c.meet.new.told in
    let later = subst (λ (m : Pass RevisionData). Extends m q) c.look-loaded.ensures.load learns.extends in
    (looks_hold c.args.told.now q c.look-loaded.result later).1 (learns.loads_stay ∙ ap (λ (x : Pass RevisionData). x.loads) c.look-loaded.ensures.load)

pub returns-clause-loaded : goal.returns-clause-loaded
returns-clause-loaded g c =
    let learns = c.meet.ensures.learns in
    let q = c.meet.new.told in
    let later = subst (λ (m : Pass RevisionData). Extends m q) c.look-loaded.ensures.load learns.extends in
    let stands = looks_hold c.args.told.now q c.look-loaded.result later in
    let last = stands.1 (learns.loads_stay ∙ ap (λ (x : Pass RevisionData). x.loads) c.look-loaded.ensures.load) in
    (stands.0, omega (arith, c.look-loaded.ensures.later, last))
