-- What the store polls is of its own log, which the pass knows.
use Rattle.std.proofs.Common.{◌≡◌, sym, subst, ap, ◌∙◌, arith}
use Rattle.rev_front.proofs.Beginnings.{prefix_length}
use Rattle.rev_log.specs.Logs.{Log}
use Rattle.up_api.specs.Feeds.{IsPoll}
use Rattle.up_store.specs.Stores.{log_in}
use Rattle.up_store.proofs.StoreLemmas.{met-log}
use Rattle.up_store.proofs.reading.StoreUpstream.poll.Goals as goal

pub returns-clause-polled : goal.returns-clause-polled
returns-clause-polled g c =
    let floor : c.floor-floor.result ≡ c.self.inside.pen.floor = c.floor-floor.ensures ∙ ap (λ w. w.floor) c.meet.ensures.same in
    subst (λ (log : Log). IsPoll log c.args.feed.now.resource c.args.feed.now.upto c.args.max c.in_ok-polled.polled)
    (sym (met-log g.N.LogFacts.base c.self.inside.pen c.args.told.now c.meet.new.told c.meet.ensures.met))
    (c.in_ok-polled.ensures (log_in g.N.LogFacts.base c.self.inside.pen) c.self.inside.pen.floor c.self.invariant.keeps (omega (arith, floor, c.if-feed-floor.false, c.self.invariant.keeps.within))
    (omega (arith, c.requires.known, c.meet.ensures.met.covered.first_is, prefix_length c.args.told.now.seen c.self.inside.pen.log c.meet.ensures.met.covered.seen)))
