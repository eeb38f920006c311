use Rattle.std.proofs.Common.{ap, ◌∙◌}
use Rattle.kube_meta.specs.Rows.{RowData}
use Rattle.kube_meta.specs.Words.{fields_word}
use Rattle.obj_tree.proofs.WordLemmas.{pushed_beside}
use Rattle.obj_tree.proofs.column.fields_of.Goals as goal

pub loop-shown-preserved : goal.loop-shown-preserved
loop-shown-preserved c =
    pushed_beside (λ p. fields_word p.value.obj.fields) c.args.rows.now c.loop-shown.words.items c.push.new.self.items c.loop-shown.shown-index c.shown-item.result c.fields.result
    c.loop-shown.invariant c.loop-shown-test.true c.shown-item.is (c.fields.ensures ∙ ap (λ (r : RowData). fields_word r.obj.fields) c.deref.ensures) c.in_ok-push.ensures.items
