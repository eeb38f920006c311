use Rattle.std.proofs.Common.{◌<◌, inr, ap, sym, subst, ◌∙◌, arith}
use Rattle.kube_meta.specs.declared.resources.Resource.{Resource}
use Rattle.rev_front.specs.Passes.{Pass}
use Rattle.rev_log.specs.Changes.{RevisionData}
use Rattle.rev_log.specs.Logs.{end_of}
use Rattle.up_api.specs.Feeds.{IsPoll}
use Rattle.up_api.specs.Sections.{log_of, HasSeenAll, Learns}
use Rattle.up_api.specs.declared.feeds.Feed.{Feed}
use Rattle.reflect_core.proofs.AlongLemmas.{taken_later, taken_more}
use Rattle.reflect_core.proofs.PumpLemmas.{goes-on, knows-on, learns-on}
use Rattle.reflect_core.proofs.following.poll_until.Goals as goal

pub loop-feed-smaller : goal.loop-feed-smaller
loop-feed-smaller g c =
    let below : c.loop-feed.feed.upto < end_of (log_of g.N.LogFacts.base c.poll.new.told) =
    omega (arith, c.in-Ok.ensures.section, c.in-Ok.ensures.learns.extends.shown_on, c.loop-feed.invariant.learns.extends.shown_on, c.requires.until, c.loop-feed-test.true) in
    let on = goes-on (log_of g.N.LogFacts.base c.poll.new.told) c.loop-feed.feed.resource c.loop-feed.feed.upto c.args.batch c.in-Ok.polled c.requires.batch below c.in-Ok.ensures.polled in
    omega (arith, on, ap (λ (f : Feed). f.upto) c.in-Ok.ensures.feed, c.loop-feed-test.true)

pub loop-feed-preserved : goal.loop-feed-preserved
loop-feed-preserved g c =
    let was = c.loop-feed.invariant in
    let poll = c.in-Ok.ensures in
    let apply = c.apply.ensures in
    let feed_upto = ap (λ (f : Feed). f.upto) poll.feed in
    let feed_gen = ap (λ (f : Feed). f.gen_) poll.feed in
    let same_gen = ap (λ (p : Pass RevisionData). p.gen) apply.told in
    let done = c.in_ok-apply-in-Ok.ensures.done in
    record {
      resource_is = ap (λ (f : Feed). f.resource) poll.feed ∙ was.resource_is;
      gen_is = feed_gen ∙ was.gen_is;
      upto_is = feed_upto ∙ sym done;
      onward = omega (arith, was.onward, was.upto_is, poll.polled.onward, done);
      stands = apply.stands;
      learns = subst (Learns c.args.told.now) (sym apply.told) (learns-on c.args.told.now c.loop-feed.told c.poll.new.told was.learns poll.learns);
      resource = apply.resource ∙ was.resource;
      window = apply.window ∙ was.window;
      base = apply.base ∙ was.base;
      rebuilds = apply.rebuilds ∙ was.rebuilds;
      time = apply.time ∙ was.time;
      along = taken_more g.H.Held.ends_at g.H.Held.goes_along g.N.LogFacts.base c.loop-feed.told c.poll.new.told c.apply.new.told c.args.held.now c.loop-feed.held c.apply.new.self
          poll.learns apply.told was.along apply.stands.within apply.along;
      seen = inr (subst HasSeenAll (sym apply.told) poll.section);
      polled = inr (
        omega (arith, same_gen, feed_gen, was.gen_is, poll.served, c.requires.known, was.learns.extends.gen_on, poll.learns.extends.gen_on),
        record {
          from = c.loop-feed.feed.upto;
          polled = c.in-Ok.polled;
          behind = omega (arith, was.onward, was.upto_is);
          short = omega (arith, c.loop-feed-test.true);
          poll = subst (λ (z : Resource × Pass RevisionData). IsPoll (log_of g.N.LogFacts.base z.1) z.0 c.loop-feed.feed.upto c.args.batch c.in-Ok.polled) (λ i. (was.resource_is i, sym apply.told i)) poll.polled;
          reached = sym done;
        },
      );
      own = c.in-Ok.ensures.own ∙ was.own;
      history = poll.history_stays ∙ was.history;
      reads = poll.reads ∙ was.reads;
      knows = knows-on (g.U.Upstream.own c.args.up.now) (g.U.Upstream.own c.loop-feed.up) c.args.told.now c.poll.new.told c.apply.new.told was.own apply.told poll.knows;
    }

pub returns-in_err-apply-in-Ok-clause-along : goal.returns-in_err-apply-in-Ok-clause-along
returns-in_err-apply-in-Ok-clause-along g c =
    taken_more g.H.Held.ends_at g.H.Held.goes_along g.N.LogFacts.base c.loop-feed.told c.poll.new.told c.apply.new.told c.args.held.now c.loop-feed.held c.apply.new.self
    c.in-Ok.ensures.learns c.apply.ensures.told c.loop-feed.invariant.along c.apply.ensures.stands.within c.apply.ensures.along

pub returns-in-Err-Cut-clause-along : goal.returns-in-Err-Cut-clause-along
returns-in-Err-Cut-clause-along g c = taken_later g.H.Held.ends_at g.H.Held.goes_along g.N.LogFacts.base c.loop-feed.told c.poll.new.told c.args.held.now c.loop-feed.held c.in-Err-Cut.ensures.learns c.loop-feed.invariant.along

pub returns-in-Err-Compacted-clause-along : goal.returns-in-Err-Compacted-clause-along
returns-in-Err-Compacted-clause-along g c = taken_later g.H.Held.ends_at g.H.Held.goes_along g.N.LogFacts.base c.loop-feed.told c.poll.new.told c.args.held.now c.loop-feed.held c.in-Err-Compacted.ensures.learns c.loop-feed.invariant.along

pub returns-in-Err-Memory-clause-along : goal.returns-in-Err-Memory-clause-along
returns-in-Err-Memory-clause-along g c = taken_later g.H.Held.ends_at g.H.Held.goes_along g.N.LogFacts.base c.loop-feed.told c.poll.new.told c.args.held.now c.loop-feed.held c.in-Err-Memory.ensures.learns c.loop-feed.invariant.along
