-- Either the key is there, and its row stays, or this row is put.
use Rattle.std.proofs.Common.{◌≡◌, Some, cond, false, is_some, bytes_eq, ap, sym, ◌∙◌, subst, OnOk}
use Rattle.std.specs.BTreeMap.{get}
use Rattle.std.specs.Cmp.Lexicographic.{slice_cmp}
use Rattle.std.specs.Ordering.{nat_cmp}
use Rattle.kube_meta.specs.Rows.{RowData, key_of}
use Rattle.rev_log.specs.Rows.{Follows}
use Rattle.rev_log.proofs.MapLemmas.{Follows-put_first, on_ok}
use Rattle.body_check.proofs.walk.put_first.Goals as goal

pub returns : goal.returns
returns c =
    let key : c.deref.result.now.key ≡ key_of c.args.row.now = ap (λ obj. obj.key) c.deref.ensures ∙ ap key_of c.row.view_is in
    let missing : is_some (get (slice_cmp nat_cmp) c.args.rows.now (key_of c.args.row.now)) ≡ false = rw (← key) (sym c.if-contains_key.ensures) in
    on_ok c.put.result (Follows-put_first c.args.rows.now c.put.new.rows c.args.row.now missing)
    (subst (λ (row : RowData). OnOk c.put.result (Follows c.args.rows.now c.put.new.rows (λ key old. cond (bytes_eq key (key_of row)) (Some row) old))) c.in_ok-clone.ensures.cases c.put.ensures)
