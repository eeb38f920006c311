use Rattle.std.proofs.Common.{sym, ◌∙◌}
use Rattle.field_select.proofs.WantedLaws.{wanted_later}
use Rattle.field_select.proofs.selector.FieldSel.wanted.Goals as goal

pub loop-term-preserved : goal.loop-term-preserved
loop-term-preserved c =
    wanted_later c.deref-term-items.result.now c.loop-term.term-index c.args.i c.term-item.result c.loop-term-test.true c.term-item.is (sym c.asks_for.ensures ∙ c.if-asks_for.false) ∙ c.loop-term.invariant
