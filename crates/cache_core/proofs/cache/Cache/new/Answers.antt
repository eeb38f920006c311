use Rattle.std.proofs.Common.{ap, sym, ◌∙◌, refl}
use Rattle.cache_core.proofs.HistoryLemmas.{groups_found, cache_found, replay_bounds}
use Rattle.cache_core.proofs.cache.Cache.new.Goals as goal

pub push_all-requires-clause-groups : goal.push_all-requires-clause-groups
push_all-requires-clause-groups c =
    groups_found c.requires.history.0 c.args.resource c.args.history c.in_ok-ring.ring.floor c.in_ok-tree.tree c.deref.result.now _ c.requires.history.1
    (ap (λ h. h.floor) (sym c.history.view_is) ∙ sym (ap (λ r. r.floor) c.in_ok-ring.ensures))
    (ap (λ h. h.rows) (sym c.history.view_is) ∙ sym c.in_ok-tree.ensures)
    (ap (λ h. h.revisions) (sym c.history.view_is) ∙ sym c.deref.ensures.value)
    c.in_ok-groups.ensures.events

pub returns-clause-stands : goal.returns-clause-stands
returns-clause-stands c = λ log of.
    cache_found log c.args.resource c.args.history c.history.inside.floor c.history.inside.upto 0 c.in_ok-tree.tree c.replay.new.tree c.deref.result.now _ c.in_ok-ring.ring c.push_all.new.ring of
    (ap (λ h. h.floor) (sym c.history.view_is)) (ap (λ h. h.upto) (sym c.history.view_is))
    (ap (λ h. h.rows) (sym c.history.view_is) ∙ sym c.in_ok-tree.ensures)
    (ap (λ h. h.revisions) (sym c.history.view_is) ∙ sym c.deref.ensures.value)
    c.in_ok-groups.ensures.rows c.in_ok-groups.ensures.events
    (ap (λ r. r.held) c.in_ok-ring.ensures) (ap (λ r. r.floor) c.in_ok-ring.ensures) c.push_all.ensures

pub returns-clause-built : goal.returns-clause-built
returns-clause-built c =
    let bounds = replay_bounds c.in_ok-ring.ring c.push_all.new.ring _ 0 c.push_all.ensures in
    record {
      resource_is = refl;
      base = ap (λ h. h.floor) c.history.view_is;
      end = ap (λ h. h.upto) c.history.view_is;
      time = refl;
      window = bounds.window ∙ ap (λ r. r.window) c.in_ok-ring.ensures;
      window_max = bounds.window_max ∙ ap (λ r. r.window_max) c.in_ok-ring.ensures;
      fresh_ms = bounds.fresh_ms ∙ ap (λ r. r.fresh_ms) c.in_ok-ring.ensures;
    }
