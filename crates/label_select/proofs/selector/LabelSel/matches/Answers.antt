use Rattle.std.proofs.lemmas.Bool.Decides.{same_from_decides}
use Rattle.label_select.specs.Meaning.{selects}
use Rattle.label_select.proofs.MeaningLaws.{selects-Decides}
use Rattle.label_select.proofs.selector.LabelSel.matches.Goals as goal

pub returns-clause-computed : goal.returns-clause-computed
returns-clause-computed c =
    rw (← c.self.view_is, ← c.deref.ensures.value) (same_from_decides c.all_hold.result (selects c.deref.result.now c.args.labels.now) c.all_hold.ensures (selects-Decides c.args.labels.now c.deref.result.now))
