use Rattle.std.proofs.Common.{sym, ◌∙◌}
use Rattle.field_select.proofs.WantedLaws.{named_later}
use Rattle.field_select.proofs.selector.FieldSel.wanted_name.Goals as goal

pub loop-term-preserved : goal.loop-term-preserved
loop-term-preserved c =
    named_later c.deref-term-items.result.now c.loop-term.term-index c.term-item.result c.loop-term-test.true c.term-item.is (sym c.asks_name.ensures ∙ c.if-asks_name.false) ∙ c.loop-term.invariant
