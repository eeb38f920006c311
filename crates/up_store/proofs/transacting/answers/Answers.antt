-- One more write is answered.
use Rattle.std.proofs.Common.{subst, sym, take, ◌+◌, arith}
use Rattle.rev_log.proofs.MapLemmas.{take_all}
use Rattle.up_store.specs.Transacting.{object_in, AreWritten}
use Rattle.up_store.specs.Writes.{new_object}
use Rattle.up_store.proofs.TransactLemmas.{mapped-at, written-more}
use Rattle.up_store.proofs.transacting.answers.Goals as goal

pub answer-requires-clause-object : goal.answer-requires-clause-object
answer-requires-clause-object c = mapped-at object_in new_object c.args.shared.now c.args.asks.now c.loop-i.i c.index-shared-i.result c.index-asks-i.result c.requires.objects (omega arith) c.index-shared-i.is c.index-asks-i.is

pub loop-i-preserved : goal.loop-i-preserved
loop-i-preserved c = λ log floor keeps end.
    subst (λ xs. AreWritten log (take (c.loop-i.i + 1) c.args.asks.now) xs) (sym c.in_ok-push.ensures.items)
    (written-more log c.args.asks.now c.loop-i.answers.items c.loop-i.i c.index-asks-i.result c.in_ok-answer.field-0 (omega arith) c.index-asks-i.is (c.loop-i.invariant log floor keeps end) (c.in_ok-answer.ensures log floor keeps end))

pub returns : goal.returns
returns c = λ log floor keeps end. subst (λ xs. AreWritten log xs c.loop-i.answers.items) (take_all c.args.asks.now c.loop-i.i (omega arith)) (c.loop-i.invariant log floor keeps end)
