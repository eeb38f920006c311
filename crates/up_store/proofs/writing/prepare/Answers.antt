-- The row that is found is the one of the log's end, and so are the refusals.
use Rattle.std.proofs.Common.{inl, inr, option_copied, refl, ap, ◌∙◌, arith}
use Rattle.std.proofs.lemmas.Result.{err_from_is_err_and}
use Rattle.up_store.specs.Writes.{written_object}
use Rattle.up_store.proofs.WriteLemmas.{refused-faulty, refused-last, unrefused, single-is}
use Rattle.up_store.proofs.writing.prepare.Goals as goal

pub returns-in_err-obj-clause-refused : goal.returns-in_err-obj-clause-refused
returns-in_err-obj-clause-refused c =
    let p = err_from_is_err_and c.from_residual-in_err-obj.result c.from_residual-in_err-obj.ensures.1 in
    rw (p.1, p.2) (elim c.in_err-obj.ensures.refused [
      | inl memory ↦ inl memory
      | inr faulty ↦ inr (λ log floor keeps end.
          refused-faulty log c.args.at c.args.ask.now (option_copied c.row_before-row.result) c.in_err-obj.field-0.0
          (c.row_before-row.ensures log floor (c.in_ok-catch_up.ensures.keeps log floor keeps)) end faulty)
    ])

pub returns-then-at-ge-LAST-clause-refused : goal.returns-then-at-ge-LAST-clause-refused
returns-then-at-ge-LAST-clause-refused c = inr (λ log floor keeps end.
    refused-last log c.args.at c.args.ask.now (option_copied c.row_before-row.result)
    (c.row_before-row.ensures log floor (c.in_ok-catch_up.ensures.keeps log floor keeps)) end c.in_ok-obj.ensures.unrefused
    (omega (arith, end, keeps.ends, c.if-at-ge-LAST.true)))

pub returns-clause-prepared : goal.returns-clause-prepared
returns-clause-prepared c = λ log floor keeps end.
    let found = c.row_before-row.ensures log floor (c.in_ok-catch_up.ensures.keeps log floor keeps) in
    record {
      unrefused = unrefused log c.args.at c.args.ask.now (option_copied c.row_before-row.result) found end c.in_ok-obj.ensures.unrefused c.if-at-ge-LAST.false;
      written_is = record { number = omega (arith, end); row_number = refl; object = c.in_ok-obj.ensures.object ∙ ap (written_object c.args.ask.now) found };
      revision_is = c.in_ok-entry.ensures ∙ single-is log c.args.at c.args.ask.now c.in_ok-change.field-0 c.in_ok-revision.revision c.in_ok-revision.ensures c.in_ok-change.ensures end;
    }
