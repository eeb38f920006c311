use Rattle.std.proofs.Common.{ap, sym}
use Rattle.cache_core.proofs.UndoLemmas.{lent_if}
use Rattle.cache_core.proofs.cache.Cache.events_above.Goals as goal

pub returns-clause-lent : goal.returns-clause-lent
returns-clause-lent c = lent_if c.since.result c.args.self.now c.self.inside.ring c.args.at (ap (λ d. d.ring) (sym c.self.view_is)) c.since.ensures.lent c.since.ensures.served
