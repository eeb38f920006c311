use Rattle.std.proofs.Common.{Ok, Err, subst, sym}
use Rattle.select_all.specs.declared.selection.SelNo.{SelNo}
use Rattle.select_all.specs.Reading.{ReadsSelection}
use Rattle.select_all.proofs.SelectionLaws.{label_only, both_only}
use Rattle.select_all.proofs.selection.Selection.read.Goals as goal

pub returns-in-Err-clause-only : goal.returns-in-Err-clause-only
returns-in-Err-clause-only c s is =
    subst (λ (fault : SelNo). ReadsSelection (Err fault) (Ok s)) (sym c.label_refusal.ensures) (label_only c.in-Err.fault s.labels s (c.in-Err.ensures.only s.labels is.labels))

pub returns-clause-only : goal.returns-clause-only
returns-clause-only c s is = both_only c.args.resource c.args.ns c.args.label.now c.args.field.now c.in-Ok.labels c.in-Ok-read.fields s is (c.in-Ok.ensures.only s.labels is.labels) (c.in-Ok-read.ensures.only s.fields is.fields)
