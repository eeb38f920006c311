use Rattle.std.proofs.Common.{◌≡◌, ℕ, All, ap, sym, ◌∙◌, subst}
use Rattle.cache_core.specs.Feeding.{IsHistoryOf}
use Rattle.cache_core.proofs.CapacityLemmas.{rebuilt_capacity, rebuilt_times}
use Rattle.cache_core.proofs.HistoryLemmas.{groups_found, cache_found, replay_bounds}
use Rattle.cache_core.proofs.cache.Cache.rebuild.Goals as goal

pub push_all-requires-clause-groups : goal.push_all-requires-clause-groups
push_all-requires-clause-groups c =
    groups_found c.requires.0 c.args.self.now.resource c.args.history c.clear.new.self.floor c.in_ok-tree.tree c.deref.result.now _ c.requires.1
    (ap (λ h. h.floor) (sym c.history.view_is) ∙ sym (ap (λ r. r.floor) c.clear.ensures))
    (ap (λ h. h.rows) (sym c.history.view_is) ∙ sym c.in_ok-tree.ensures)
    (ap (λ h. h.revisions) (sym c.history.view_is) ∙ sym c.deref.ensures.value)
    c.in_ok-groups.ensures.events

pub returns-clause-stands : goal.returns-clause-stands
returns-clause-stands c = λ log of.
    cache_found log c.self.inside.resource c.args.history c.history.inside.floor c.history.inside.upto c.self.inside.time c.in_ok-tree.tree c.replay.new.tree c.deref.result.now _ c.clear.new.self c.push_all.new.ring
    (subst (λ r. IsHistoryOf log r c.args.history) (ap (λ d. d.resource) (sym c.self.view_is)) of)
    (ap (λ h. h.floor) (sym c.history.view_is)) (ap (λ h. h.upto) (sym c.history.view_is))
    (ap (λ h. h.rows) (sym c.history.view_is) ∙ sym c.in_ok-tree.ensures)
    (ap (λ h. h.revisions) (sym c.history.view_is) ∙ sym c.deref.ensures.value)
    c.in_ok-groups.ensures.rows c.in_ok-groups.ensures.events
    (ap (λ r. r.held) c.clear.ensures) (ap (λ r. r.floor) c.clear.ensures) c.push_all.ensures

pub returns-clause-rebuilt : goal.returns-clause-rebuilt
returns-clause-rebuilt c =
    let bounds = replay_bounds c.clear.new.self c.push_all.new.ring _ c.self.inside.time c.push_all.ensures in
    record {
      stays = record {
        resource = ap (λ d. d.resource) c.self.view_is;
        time = ap (λ d. d.time) c.self.view_is;
        window = bounds.window ∙ ap (λ r. r.window) c.clear.ensures ∙ ap (λ d. d.ring.window) c.self.view_is;
        window_max = bounds.window_max ∙ ap (λ r. r.window_max) c.clear.ensures ∙ ap (λ d. d.ring.window_max) c.self.view_is;
        fresh_ms = bounds.fresh_ms ∙ ap (λ r. r.fresh_ms) c.clear.ensures ∙ ap (λ d. d.ring.fresh_ms) c.self.view_is;
      };
      base = ap (λ h. h.floor) c.history.view_is;
      end = ap (λ h. h.upto) c.history.view_is;
      capacity = λ fresh.
          rebuilt_capacity c.args.self.now.ring c.self.inside.ring c.clear.new.self c.push_all.new.ring _ c.self.inside.time (ap (λ d. d.ring) c.self.view_is)
          (ap (λ r. r.capacity) c.clear.ensures) (ap (λ r. r.fresh_ms) c.clear.ensures) (ap (λ r. r.held) c.clear.ensures) fresh c.push_all.ensures;
      times = λ fresh.
          subst (λ (t : ℕ). All (λ x. x.stamp ≡ t) c.push_all.new.ring.held) (ap (λ d. d.time) c.self.view_is)
          (rebuilt_times c.args.self.now.ring c.self.inside.ring c.clear.new.self c.push_all.new.ring _ c.self.inside.time (ap (λ d. d.ring) c.self.view_is)
          (ap (λ r. r.capacity) c.clear.ensures) (ap (λ r. r.fresh_ms) c.clear.ensures) (ap (λ r. r.held) c.clear.ensures) fresh c.push_all.ensures);
    }
