use Rattle.std.proofs.Common.{◌-◌, ◌≡◌, ◌≤◌, ◌⊎◌}
use Rattle.std.specs.Prelude.{IfSome}
use Rattle.up_api.specs.Sections.{log_of, Learns, StaysOrSeesAll, Knows, StandsAt}
use Rattle.reflect_core.specs.Along.{TakesInPolls}
use Rattle.reflect_core.specs.Pumps.{LastPoll}
use Rattle.reflect_core.proofs.following.poll_until.Given as goal

-- the cache stands for the log up to where the feed is complete
abbrev pub invariant-loop-feed : goal.invariant-loop-feed
invariant-loop-feed g l = record {
  resource_is : l.feed.resource ≡ l.fn.feed.resource;
  gen_is : l.feed.gen_ ≡ l.fn.feed.gen_;
  upto_is : l.feed.upto ≡ g.H.Held.ends_at l.held;
  onward : g.H.Held.ends_at l.fn.held ≤ g.H.Held.ends_at l.held;
  stands : StandsAt (g.H.Held.stands_for l.held) g.N.LogFacts.base l.told (g.H.Held.ends_at l.held);
  learns : Learns l.fn.told l.told;
  resource : g.H.Held.resource l.held ≡ g.H.Held.resource l.fn.held;
  window : g.H.Held.window l.held ≡ g.H.Held.window l.fn.held;
  base : g.H.Held.base l.held ≡ g.H.Held.base l.fn.held;
  rebuilds : g.H.Held.rebuilds l.held ≡ g.H.Held.rebuilds l.fn.held;
  time : g.H.Held.time l.held ≡ g.H.Held.time l.fn.held;
  along : TakesInPolls g.H.Held.ends_at g.H.Held.goes_along (log_of g.N.LogFacts.base l.told) l.fn.held l.held;
  seen : StaysOrSeesAll l.fn.told l.told;
  polled : (l.feed.upto ≡ l.fn.feed.upto) ⊎ ((l.told.gen ≡ l.feed.gen_) × LastPoll (log_of g.N.LogFacts.base l.told) l.fn.feed.resource l.batch (g.H.Held.ends_at l.fn.held) l.until (g.H.Held.ends_at l.held));
  own : g.U.Upstream.own l.up ≡ g.U.Upstream.own l.fn.up;
  history : g.U.Upstream.history l.up ≡ g.U.Upstream.history l.fn.up;
  reads : g.U.Upstream.reads l.up ≡ g.U.Upstream.reads l.fn.up;
  knows : IfSome (g.U.Upstream.own l.fn.up) (λ w. Knows w l.fn.told → Knows w l.told);
}

abbrev pub decreases-loop-feed : goal.decreases-loop-feed
decreases-loop-feed g l = l.until - l.feed.upto
