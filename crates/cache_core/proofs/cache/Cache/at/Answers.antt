use Rattle.std.proofs.Common.{ap, sym}
use Rattle.cache_core.proofs.UndoLemmas.{at_found}
use Rattle.cache_core.proofs.cache.Cache.at.Goals as goal

pub returns-clause-state : goal.returns-clause-state
returns-clause-state c =
    at_found c.args.self.now c.self.inside.ring c.self.inside.tree c.in_ok-tree.tree c.undo.new.tree c.in_ok-span.span c.into_snapshot.result c.args.rev
    (ap (λ d. d.ring) (sym c.self.view_is)) (ap (λ d. d.rows) (sym c.self.view_is)) c.in_ok-tree.ensures c.in_ok-span.ensures.lent c.in_ok-span.ensures.served
    c.in_ok-undo.ensures c.len-len.ensures.rising c.into_snapshot.ensures c.requires
