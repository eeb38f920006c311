use Rattle.std.proofs.Common.{◌≡◌, ◌∙◌, ◌||◌, ℕ, List, None, ap, option_copied}
use Rattle.std.proofs.lemmas.Result.{IfOk-weaker}
use Rattle.watch_lane.specs.Index.{is_listed, is_touched, lane_at}
use Rattle.watch_lane.specs.Places.{stands}
use Rattle.watch_lane.proofs.IndexLemmas.{looked, event_touches}
use Rattle.watch_lane.proofs.index.LaneIndex.touched.Goals as goal

-- what the list has in the end
has : (c : goal.After-join) (all : List ℕ) (id : ℕ) → is_listed all id ≡ (is_listed c.in_ok-found.found.items id || stands c.self.inside.places None id) →
    is_listed all id ≡ is_touched c.args.self.now.field (option_copied c.args.old) (option_copied c.args.new) (lane_at c.args.self.now.lanes id)
has c all id joined = looked c.args.self.now c.self.inside.field c.self.inside.lanes.entries c.self.inside.places (option_copied c.args.old) (option_copied c.args.new) id
    (is_listed c.new.result.items id) (is_listed c.in_ok-before.before.items id) (is_listed c.in_ok-found.found.items id) (is_listed all id)
    c.self.view_is (λ p. c.self.invariant p id)
    (ap (λ l. is_listed l id) c.new.ensures.items) (c.in_ok-before.ensures.joined id) (c.in_ok-found.ensures.joined id) joined

pub returns-clause-exact : goal.returns-clause-exact
returns-clause-exact c = IfOk-weaker c.join.result _ _ (λ ids all id. has c ids.items id (all id)) c.join.ensures.joined

pub returns-clause-events : goal.returns-clause-events
returns-clause-events c = IfOk-weaker c.join.result _ _ (λ ids all id s found selected. has c ids.items id (all id) ∙ event_touches s c.args.self.now.field (option_copied c.args.old) (option_copied c.args.new) (lane_at c.args.self.now.lanes id) found selected) c.join.ensures.joined
