use Rattle.std.proofs.Common.{ap, ◌∙◌}
use Rattle.kube_meta.specs.declared.objects.Obj.{Obj}
use Rattle.kube_meta.specs.Rows.{key_of}
use Rattle.mirror_log.proofs.KeyLemmas.{row_added}
use Rattle.mirror_log.proofs.keys.keys_of.Goals as goal

pub loop-row-preserved : goal.loop-row-preserved
loop-row-preserved c =
    row_added c.args.rows.now c.loop-row.row-index c.row-item.result c.loop-row.keys c.add.new.keys c.in_ok-key.key c.loop-row-test.true c.row-item.is
    (c.in_ok-key.ensures.cases ∙ ap (λ (o : Obj). o.key) c.deref.ensures ∙ ap key_of c.row.view_is) c.loop-row.invariant c.in_ok-add.ensures.added
