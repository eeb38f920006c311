use Rattle.std.proofs.Common.{◌≡◌, ◌==◌, ◌≤◌, List, length, map, false, subst, sym, ◌∙◌, arith}
use Rattle.std.proofs.lemmas.Bool.{eqb-false}
use Rattle.up_store.specs.declared.writes.WriteAsk.{WriteAsk}
use Rattle.up_store.specs.Transactions.{target_of, AreDistinct, AreTransaction}
use Rattle.up_store.proofs.transactions.Transaction.new.Goals as goal

are_transaction : (items lent : List WriteAsk) → lent ≡ items → (length items == 0) ≡ false → length items ≤ 64 → AreDistinct (map target_of lent) →
    AreTransaction items
are_transaction items lent same some few distinct = record {
  some_item = omega (arith, eqb-false (length items) 0 some);
  few = few;
  distinct = subst (λ xs. AreDistinct (map target_of xs)) same distinct;
}

pub invariant_of-result : goal.invariant_of-result
invariant_of-result c =
    are_transaction c.args.items.items c.as_slice.result.now c.as_slice.ensures.value
    (rw (← c.args.items.ok.0) (sym c.is_empty.ensures ∙ c.if-is_empty.false)) (omega arith) c.in-None.ensures

pub returns-in-None-clause-form : goal.returns-in-None-clause-form
returns-in-None-clause-form c =
    are_transaction c.args.items.items c.as_slice.result.now c.as_slice.ensures.value
    (rw (← c.args.items.ok.0) (sym c.is_empty.ensures ∙ c.if-is_empty.false)) (omega arith) c.in-None.ensures
