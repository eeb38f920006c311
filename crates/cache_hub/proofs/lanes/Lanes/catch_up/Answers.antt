use Rattle.std.proofs.Common.{subst, ◌++◌, option_map}
use Rattle.cache_hub.specs.OpenLanes.{LanesData, SetsLane, caught_up, open_at}
use Rattle.cache_hub.proofs.BothLemmas.{set_by}
use Rattle.cache_hub.proofs.lanes.Lanes.catch_up.Goals as goal

pub returns-clause-caught : goal.returns-clause-caught
returns-clause-caught g c =
    subst (λ (x : LanesData). SetsLane x.all (c.take_note.new.lanes.entries ++ c.take_note-2.new.lanes.entries) c.args.id (option_map (caught_up c.args.to c.args.end) (open_at x.all c.args.id))) c.self.view_is
    (set_by c.self.inside.placed.entries c.self.inside.alike.entries c.take_note.new.lanes.entries c.take_note-2.new.lanes.entries c.args.id (caught_up c.args.to c.args.end)
    c.take_note.ensures c.take_note-2.ensures)
