use Rattle.std.proofs.Common.{sym, subst, drop, List}
use Rattle.std.proofs.lemmas.List.{drop_all}
use Rattle.rev_log.specs.Changes.{RevisionData}
use Rattle.event_ring.specs.Events.{EventRows}
use Rattle.cache_core.specs.Caches.{CacheData}
use Rattle.cache_core.specs.Steps.{HasCome, IsFedTo}
use Rattle.cache_core.proofs.FeedLemmas.{come_first, come_next, may_follow_at, keeps_refl, keeps_on, followed_keeps}
use Rattle.cache_core.proofs.cache.follow.Goals as goal

pub loop-revision-init : goal.loop-revision-init
loop-revision-init c = record {
  come = λ log upto fed. come_first c.args.cache.now c.args.fresh.now.items c.args.revisions.now log upto fed;
  keeps = keeps_refl c.args.cache.now;
}

pub step-requires : goal.step-requires
step-requires c =
    may_follow_at c.requires.0 c.requires.1.0 c.args.cache.now c.loop-revision.cache c.args.fresh.now.items c.loop-revision.fresh.items c.args.revisions.now c.loop-revision.revision-index c.revision-item.result
    c.loop-revision-test.true c.revision-item.is (c.loop-revision.invariant.come c.requires.0 c.requires.1.0 c.requires.1.1)

pub returns-in_err-step-clause-came : goal.returns-in_err-step-clause-came
returns-in_err-step-clause-came c = λ log upto fed. (
  drop c.loop-revision.revision-index c.args.revisions.now,
  subst (λ (d : CacheData). HasCome log c.args.cache.now d c.args.fresh.now.items c.step.new.fresh.items (drop c.loop-revision.revision-index c.args.revisions.now) upto) (sym c.in_err-step.ensures.kept)
      (subst (λ (es : List EventRows). HasCome log c.args.cache.now c.loop-revision.cache c.args.fresh.now.items es (drop c.loop-revision.revision-index c.args.revisions.now) upto) (sym c.in_err-step.ensures.untold)
      (c.loop-revision.invariant.come log upto fed)),
)

pub loop-revision-preserved : goal.loop-revision-preserved
loop-revision-preserved c = record {
  come = λ log upto fed.
      come_next log upto c.args.cache.now c.loop-revision.cache c.step.new.self c.args.fresh.now.items c.loop-revision.fresh.items c.step.new.fresh.items c.args.revisions.now c.loop-revision.revision-index c.revision-item.result
      c.loop-revision-test.true c.revision-item.is c.loop-revision.invariant.keeps.stays.resource (c.loop-revision.invariant.come log upto fed) c.in_ok-step.ensures.done c.in_ok-step.ensures.told;
  keeps = keeps_on c.args.cache.now c.loop-revision.cache c.step.new.self c.loop-revision.invariant.keeps (followed_keeps c.loop-revision.cache c.step.new.self c.revision-item.result
      (may_follow_at c.requires.0 c.requires.1.0 c.args.cache.now c.loop-revision.cache c.args.fresh.now.items c.loop-revision.fresh.items c.args.revisions.now c.loop-revision.revision-index c.revision-item.result
      c.loop-revision-test.true c.revision-item.is (c.loop-revision.invariant.come c.requires.0 c.requires.1.0 c.requires.1.1))
      c.in_ok-step.ensures.done);
}

pub returns-clause-came : goal.returns-clause-came
returns-clause-came c = λ log upto fed. (drop c.loop-revision.revision-index c.args.revisions.now, c.loop-revision.invariant.come log upto fed)

pub returns-clause-done : goal.returns-clause-done
returns-clause-done c = λ log upto fed.
    subst (λ (left : List RevisionData). IsFedTo log c.loop-revision.cache left upto) (drop_all c.loop-revision.revision-index c.args.revisions.now c.loop-revision-test.false)
    (c.loop-revision.invariant.come log upto fed).fed
