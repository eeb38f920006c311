-- Not checked yet: the names of the steps are guesses.
use Rattle.std.proofs.Common.{max, ap, ◌∙◌, arith}
use Rattle.up_store.specs.Stores.{log_in}
use Rattle.up_store.proofs.store.Store.trim.Goals as goal

pub raise-requires-clause-reached : goal.raise-requires-clause-reached
raise-requires-clause-reached g c =
    omega (arith, c.max-floor.ensures, c.floor_within.ensures.within (log_in g.N.LogFacts.base c.self.inside.pen) c.self.inside.pen.floor c.self.invariant.keeps, c.floor.ensures, c.self.invariant.keeps.reached)
