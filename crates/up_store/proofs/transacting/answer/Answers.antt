use Rattle.std.proofs.Common.{◌∙◌, refl, ap, arith}
use Rattle.up_store.specs.Writes.{written_object}
use Rattle.up_store.proofs.transacting.answer.Goals as goal

pub returns-in-Ok : goal.returns-in-Ok
returns-in-Ok c = λ log floor keeps end.
    record {
      number = omega (arith, end);
      row_number = refl;
      object = c.in-Ok.ensures.object ∙ ap (written_object c.args.ask.now)
          (c.row_before.ensures log floor keeps);
    }
