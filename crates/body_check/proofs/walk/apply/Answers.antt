use Rattle.std.proofs.Common.{◌≡◌, ap, subst, OnOk, cond, Some, bytes_eq}
use Rattle.kube_meta.specs.Rows.{RowData, key_of}
use Rattle.rev_log.specs.Rows.{Follows}
use Rattle.rev_log.proofs.MapLemmas.{on_ok}
use Rattle.body_check.proofs.TellLemmas.{told_put, told_out}
use Rattle.body_check.proofs.walk.apply.Goals as goal

pub returns-in_ok-obj-in_default : goal.returns-in_ok-obj-in_default
returns-in_ok-obj-in_default c =
    on_ok c.put.result (told_put c.args.rows.now c.put.new.rows c.args.kind c.args.obj c.args.rev c.in_default.not-Deleted)
    (subst (λ obj. OnOk c.put.result (Follows c.args.rows.now c.put.new.rows (λ key old. cond (bytes_eq key obj.key) (Some (record { obj = obj; rev = c.args.rev })) old))) c.in_ok-obj-in_default.ensures.ok c.put.ensures)

pub returns-in-Deleted : goal.returns-in-Deleted
returns-in-Deleted c = told_out c.args.rows.now c.take_out.new.rows c.args.kind c.args.obj c.args.rev c.in-Deleted.is c.take_out.ensures
