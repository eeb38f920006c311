use Rattle.label_select.proofs.SetLaws.{has_more}
use Rattle.label_select.proofs.requirements.in_order.Goals as goal

pub loop-text-preserved : goal.loop-text-preserved
loop-text-preserved c = has_more c.args.texts.now c.loop-text.text-index c.loop-text.ordered c.add.new.ordered c.text-item.result c.loop-text-test.true c.text-item.is c.loop-text.invariant c.in_ok-add.ensures
