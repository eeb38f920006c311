use Rattle.std.proofs.Common.{List, true, false, refl, ap, sym, subst, ◌∙◌}
use Rattle.kube_meta.specs.Rows.{RowData, row_with}
use Rattle.rev_log.specs.Logs.{Log}
use Rattle.rev_log.specs.Rows.{Holds}
use Rattle.watch_record.specs.Between.{IsBetweenRead}
use Rattle.body_check.specs.declared.turns.Turn.TheVariants as turns
use Rattle.body_check.specs.Heard.{AreHeld, HavePassed}
use Rattle.body_check.proofs.ChainLemmas.{begin_moved, next_text, all_past}
use Rattle.body_check.proofs.ListLemmas.{none_begins, begins, step_on, step_bad, step_end, walked_all, turn_moved}
use Rattle.body_check.proofs.lists.check_lists.Goals as goal

pub returns-then-not-branch : goal.returns-then-not-branch
returns-then-not-branch c =
    let case = c.args.case.now in
    let read : IsBetweenRead case = subst IsBetweenRead c.case.view_is c.case.invariant in
    none_begins case read
    (begin_moved c.case.inside.ask.selection case.ask.selection c.case.inside.from case.from c.deref.result.now case.rows c.in_ok-may_begin.field-0 false
    (ap (λ b. b.ask.selection) c.case.view_is) (ap (λ b. b.from) c.case.view_is) (c.deref.ensures.value ∙ ap (λ b. b.rows) c.case.view_is) c.if-not-branch.true c.in_ok-may_begin.ensures)

pub loop-n-init : goal.loop-n-init
loop-n-init c =
    let case = c.args.case.now in
    let read : IsBetweenRead case = subst IsBetweenRead c.case.view_is c.case.invariant in
    let may = begin_moved c.case.inside.ask.selection case.ask.selection c.case.inside.from case.from c.deref.result.now case.rows c.in_ok-may_begin.field-0 true
    (ap (λ b. b.ask.selection) c.case.view_is) (ap (λ b. b.from) c.case.view_is) (c.deref.ensures.value ∙ ap (λ b. b.rows) c.case.view_is) c.if-not-branch.false c.in_ok-may_begin.ensures in
    begins case read c.in_ok-walk.walk may (c.in_ok-walk.ensures.to ∙ ap (λ b. b.from) c.case.view_is) c.in_ok-walk.ensures.last
    (subst (λ (rows : List RowData). Holds c.in_ok-walk.walk.rows (row_with rows)) (c.deref-2.ensures.value ∙ ap (λ b. b.rows) c.case.view_is) c.in_ok-walk.ensures.holds)
    (λ (m : Log) have. subst (AreHeld case case.from m) (sym c.in_ok-walk.ensures.held)
    (subst (HavePassed case case.from m) (sym (c.deref-3.ensures.value ∙ ap (λ b. b.later) c.case.view_is)) have))

pub loop-n-preserved : goal.loop-n-preserved
loop-n-preserved c =
    let case = c.args.case.now in
    let read : IsBetweenRead case = subst IsBetweenRead c.case.view_is c.case.invariant in
    let lines = c.deref-text-items.result.now in
    let next = next_text lines c.case.inside.lines.items (λ line. line.now) case.texts c.loop-n.n _ c.deref-text-items.ensures.value (ap (λ b. b.texts) c.case.view_is) c.loop-n-test.true in
    step_on c.texts_tell_one_line.ensures c.what_is_told_is_kept.ensures case read c.loop-n.n _ c.loop-n.walk c.hear.new.walk c.loop-n.invariant next.0 next.1
    (turn_moved c.case.inside.ask case.ask _ _ c.loop-n.walk c.hear.new.walk c.in_ok-hear.field-0 turns.On (ap (λ b. b.ask) c.case.view_is) refl c.in-On.is c.in_ok-hear.ensures)

pub returns-in-Bad : goal.returns-in-Bad
returns-in-Bad c =
    let case = c.args.case.now in
    let read : IsBetweenRead case = subst IsBetweenRead c.case.view_is c.case.invariant in
    let lines = c.deref-text-items.result.now in
    let next = next_text lines c.case.inside.lines.items (λ line. line.now) case.texts c.loop-n.n _ c.deref-text-items.ensures.value (ap (λ b. b.texts) c.case.view_is) c.loop-n-test.true in
    step_bad c.texts_tell_one_line.ensures c.what_is_told_is_kept.ensures case read c.loop-n.n _ c.loop-n.walk c.hear.new.walk c.loop-n.invariant next.0 next.1
    (turn_moved c.case.inside.ask case.ask _ _ c.loop-n.walk c.hear.new.walk c.in_ok-hear.field-0 turns.Bad (ap (λ b. b.ask) c.case.view_is) refl c.in-Bad.is c.in_ok-hear.ensures)

pub judge_loss-requires : goal.judge_loss-requires
judge_loss-requires c =
    let case = c.args.case.now in
    let read : IsBetweenRead case = subst IsBetweenRead c.case.view_is c.case.invariant in
    let lines = c.deref-text-items.result.now in
    let next = next_text lines c.case.inside.lines.items (λ line. line.now) case.texts c.loop-n.n _ c.deref-text-items.ensures.value (ap (λ b. b.texts) c.case.view_is) c.loop-n-test.true in
    step_end c.texts_tell_one_line.ensures c.what_is_told_is_kept.ensures case read c.loop-n.n _ c.loop-n.walk c.hear.new.walk c.loop-n.invariant next.0 next.1
    (turn_moved c.case.inside.ask case.ask _ _ c.loop-n.walk c.hear.new.walk c.in_ok-hear.field-0 turns.End (ap (λ b. b.ask) c.case.view_is) refl c.in-End.is c.in_ok-hear.ensures)

pub judge_lists-requires : goal.judge_lists-requires
judge_lists-requires c =
    let case = c.args.case.now in
    let read : IsBetweenRead case = subst IsBetweenRead c.case.view_is c.case.invariant in
    walked_all c.texts_tell_one_line.ensures c.what_is_told_is_kept.ensures case read c.loop-n.n c.loop-n.walk
    (all_past c.deref-text-items.result.now c.case.inside.lines.items (λ line. line.now) case.texts c.loop-n.n c.deref-text-items.ensures.value (ap (λ b. b.texts) c.case.view_is) c.loop-n-test.false) c.loop-n.invariant
