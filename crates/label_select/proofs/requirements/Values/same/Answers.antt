use Rattle.std.proofs.lemmas.Slice.Eq.{bytes_eq-Decides, slice_eq-Decides}
use Rattle.label_select.proofs.requirements.Values.same.Goals as goal

pub returns : goal.returns
returns c = rw (← c.self.view_is, ← c.other.view_is) (slice_eq-Decides bytes_eq-Decides c.self.inside.texts.items c.other.inside.texts.items c.eq.result c.eq.ensures)
