-- The map's step is at the row's key.
use Rattle.std.proofs.Common.{◌≡◌, List, ℕ, Some, ap, ◌∙◌, subst}
use Rattle.std.specs.BTreeMap.{Updates}
use Rattle.std.specs.Cmp.Lexicographic.{slice_cmp}
use Rattle.std.specs.Ordering.{nat_cmp}
use Rattle.kube_meta.specs.Rows.{key_of}
use Rattle.rev_log.proofs.MapLemmas.{Follows-put}
use Rattle.body_check.proofs.walk.put.Goals as goal

pub returns-in-Ok : goal.returns-in-Ok
returns-in-Ok c =
    let key : c.in_ok-key.key ≡ key_of c.args.row = c.in_ok-key.ensures.cases ∙ ap (λ obj. obj.key) c.deref.ensures ∙ ap key_of c.row.view_is in
    Follows-put c.args.rows.now c.insert.new.self c.args.row c.in-Ok.ensures.ordered
    (subst (λ (k : List ℕ). Updates (slice_cmp nat_cmp) c.args.rows.now c.insert.new.self k (Some c.args.row)) key c.in-Ok.ensures.updates)
