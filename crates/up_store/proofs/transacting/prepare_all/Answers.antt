-- The refusals are the first that hold, and what isn't refused is one revision.
use Rattle.std.proofs.Common.{◌≡◌, ◌+◌, ◌∙◌, inr, All, sym, subst, arith}
use Rattle.rev_log.specs.Changes.{AreOfDistinctObjects, RevisionData}
use Rattle.up_store.specs.Transacting.{IsRevisionOf}
use Rattle.up_store.proofs.TransactLemmas.{tx-faulty, tx-last, tx-unrefused, tx-prepared, changes-distinct, changes-numbered}
use Rattle.up_store.proofs.transacting.prepare_all.Goals as goal

pub returns-in-Some-clause-refused : goal.returns-in-Some-clause-refused
returns-in-Some-clause-refused c = inr (λ log floor keeps end.
    tx-faulty log c.args.asks.now c.in-Some.no (sym c.in-Some.is ∙ c.refused_item.ensures log floor (c.in_ok-catch_up.ensures.keeps log floor keeps) end))

pub returns-then-at-ge-LAST-clause-refused : goal.returns-then-at-ge-LAST-clause-refused
returns-then-at-ge-LAST-clause-refused c = inr (λ log floor keeps end.
    tx-last log c.args.at c.args.asks.now (sym c.in_default.is ∙ c.refused_item.ensures log floor (c.in_ok-catch_up.ensures.keeps log floor keeps) end) end (omega (arith, end, keeps.ends, c.if-at-ge-LAST.true)))

pub sorted-revision-requires-clause-distinct : goal.sorted-revision-requires-clause-distinct
sorted-revision-requires-clause-distinct c = subst AreOfDistinctObjects (sym c.in_ok-changes.ensures) (changes-distinct (c.args.at + 1) c.args.asks.now c.requires.transaction)

pub sorted-revision-requires-clause-numbered : goal.sorted-revision-requires-clause-numbered
sorted-revision-requires-clause-numbered c = subst (λ xs. All (λ change. change.rev ≡ c.args.at + 1) xs) (sym c.in_ok-changes.ensures) (changes-numbered (c.args.at + 1) c.args.asks.now)

pub returns-clause-prepared : goal.returns-clause-prepared
returns-clause-prepared c = λ log floor keeps end.
    let after = c.in_ok-catch_up.ensures.keeps log floor keeps in
    record {
      unrefused = tx-unrefused log c.args.at c.args.asks.now (sym c.in_default.is ∙ c.refused_item.ensures log floor after end) end c.if-at-ge-LAST.false;
      written_are = c.in_ok-answers.ensures log floor after end;
      revision_is = subst (λ (r : RevisionData). IsRevisionOf log c.args.asks.now r) (sym c.in_ok-entry.ensures)
          (tx-prepared log c.args.at c.args.asks.now c.in_ok-changes.field-0.items c.sorted-revision.result c.in_ok-changes.ensures c.sorted-revision.ensures.rev c.sorted-revision.ensures.changes c.sorted-revision.ensures.form end);
    }
