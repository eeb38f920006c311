use Rattle.std.proofs.Common.{ap, sym, subst}
use Rattle.cache_core.specs.Steps.{IsUpTo, IsGroup}
use Rattle.cache_core.proofs.FeedLemmas.{group_of}
use Rattle.cache_core.proofs.cache.Cache.step.Goals as goal

pub push-requires : goal.push-requires
push-requires c = (
  c.args.self.now.end,
  subst (IsUpTo c.args.self.now.end) (ap (λ d. d.ring) (sym c.self.view_is)) c.requires.ring,
  subst (IsGroup c.args.self.now.end) (sym c.in_ok-events.ensures)
      (group_of c.args.self.now.resource c.self.inside.tree c.args.self.now.end c.args.revision.now c.requires.above c.requires.is c.requires.of c.requires.some),
)
