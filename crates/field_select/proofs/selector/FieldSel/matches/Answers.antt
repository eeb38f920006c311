use Rattle.std.proofs.lemmas.Bool.Decides.{same_from_decides}
use Rattle.field_select.specs.Meaning.{selects}
use Rattle.field_select.proofs.MeaningLaws.{selects-Decides}
use Rattle.field_select.proofs.selector.FieldSel.matches.Goals as goal

pub returns-clause-computed : goal.returns-clause-computed
returns-clause-computed c =
    rw (← c.self.view_is, ← c.deref.ensures.value) (same_from_decides c.all_hold.result (selects c.deref.result.now c.args.fields.now c.args.key.now) c.all_hold.ensures (selects-Decides c.args.fields.now c.args.key.now c.deref.result.now))
