use Rattle.std.proofs.Common.{◌≡◌, List, true, refl, sym, ◌∙◌, subst}
use Rattle.kube_meta.specs.Rows.{RowData}
use Rattle.mirror_link.specs.Reading.{is_above_last}
use Rattle.mirror_link.proofs.opening_lines.take_event.Goals as goal

pub returns-in-Ok : goal.returns-in-Ok
returns-in-Ok c = (
  record { obj = c.args.obj; rev = c.args.rev },
  rw c.in-Added.is refl,
  c.in-Ok.ensures,
  sym c.selects.ensures.computed ∙ c.if-not-selects.false,
  subst (λ (rows : List RowData). is_above_last rows c.args.obj.key ≡ true) c.deref.ensures.value (sym c.is_next.ensures ∙ c.if-not-is_next.false),
)
