use Rattle.std.proofs.Common.{subst, sym, ◌∙◌}
use Rattle.std.specs.Prelude.{OnOk}
use Rattle.cache_hub.specs.Due.{AddsTo}
use Rattle.cache_hub.proofs.IndexLemmas.{due_of}
use Rattle.cache_hub.proofs.placed.note_for.Goals as goal

pub returns-in-Some-2 : goal.returns-in-Some-2
returns-in-Some-2 g c = subst (λ line. OnOk c.put_line.result (AddsTo c.args.id line c.args.waiting.now.entries c.put_line.new.waiting.entries))
    (sym (due_of c.args.lanes.now.entries c.args.id c.args.event.now c.in-Some.lane.now c.in-Some-2.line (sym c.in-Some.ensures.value) (sym c.in-Some-2.is ∙ c.in_ok-line.ensures)))
    c.put_line.ensures
