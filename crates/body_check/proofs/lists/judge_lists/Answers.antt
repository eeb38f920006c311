use Rattle.std.proofs.Common.{◌≡◌, ℕ, ◌+◌, ◌-◌, List, length, Some, None, ap, ◌∙◌, sym, subst, arith}
use Rattle.std.specs.BTreeMap.{values}
use Rattle.std.proofs.lemmas.List.{length-append}
use Rattle.kube_meta.specs.Rows.{RowData, AreRising}
use Rattle.rev_log.specs.States.{row_at}
use Rattle.rev_log.proofs.MapLemmas.{values_rise}
use Rattle.watch_record.specs.Between.{IsBetweenRead}
use Rattle.body_check.specs.Lists.{IsAllTold}
use Rattle.body_check.specs.Heard.{AreHeld}
use Rattle.body_check.proofs.ChainLemmas.{first_moved}
use Rattle.body_check.proofs.ListLemmas.{passed, bad_below, bad_above, onward_left, lawful}
use Rattle.body_check.proofs.lists.judge_lists.Goals as goal

pub returns-in-Bad : goal.returns-in-Bad
returns-in-Bad c =
    let case = c.args.case.now in
    let read : IsBetweenRead case = subst IsBetweenRead c.case.view_is c.case.invariant in
    bad_below case read c.args.walk c.pass.new.self c.requires c.pass.ensures.held c.in-Bad.list
    (subst (AreHeld case (c.args.walk.to + 1) c.requires.log) c.in-Bad.is (passed case read c.args.walk c.pass.new.self c.requires c.pass.ensures.held))

pub first_bad-requires-clause-onward : goal.first_bad-requires-clause-onward
first_bad-requires-clause-onward c =
    let case = c.args.case.now in
    let read : IsBetweenRead case = subst IsBetweenRead c.case.view_is c.case.invariant in
    onward_left case read c.args.walk c.pass.new.self c.requires c.pass.ensures.held c.in-Left.left.now
    (subst (AreHeld case (c.args.walk.to + 1) c.requires.log) c.in-Left.is (passed case read c.args.walk c.pass.new.self c.requires c.pass.ensures.held))

pub first_bad-requires-clause-rising : goal.first_bad-requires-clause-rising
first_bad-requires-clause-rising c =
    let same : c.deref.result.now ≡ values c.args.walk.rows = c.deref.ensures.value ∙ c.in_ok-rows.ensures ∙ ap values c.pass.ensures.rows in
    subst AreRising (sym same) (values_rise c.args.walk.rows (row_at c.requires.log c.args.case.now.ask.selection.resource c.args.walk.to) c.requires.rows)

pub returns-in-Some : goal.returns-in-Some
returns-in-Some c =
    let case = c.args.case.now in
    let read : IsBetweenRead case = subst IsBetweenRead c.case.view_is c.case.invariant in
    let have = subst (AreHeld case (c.args.walk.to + 1) c.requires.log) c.in-Left.is (passed case read c.args.walk c.pass.new.self c.requires c.pass.ensures.held) in
    let same : c.deref.result.now ≡ values c.args.walk.rows = c.deref.ensures.value ∙ c.in_ok-rows.ensures ∙ ap values c.pass.ensures.rows in
    bad_above case read c.args.walk c.pass.new.self c.requires c.pass.ensures.held c.in-Left.left.now have c.in-Some.list
    (first_moved c.case.inside.ask.selection case.ask.selection c.args.walk.to c.deref.result.now (values c.args.walk.rows) c.in-Left.left.now c.in_ok-list.field-0 (Some c.in-Some.list)
    (ap (λ b. b.ask.selection) c.case.view_is) same c.in-Some.is c.in_ok-list.ensures)

pub returns : goal.returns
returns c =
    let case = c.args.case.now in
    let read : IsBetweenRead case = subst IsBetweenRead c.case.view_is c.case.invariant in
    let have = subst (AreHeld case (c.args.walk.to + 1) c.requires.log) c.in-Left.is (passed case read c.args.walk c.pass.new.self c.requires c.pass.ensures.held) in
    let same : c.deref.result.now ≡ values c.args.walk.rows = c.deref.ensures.value ∙ c.in_ok-rows.ensures ∙ ap values c.pass.ensures.rows in
    let all : c.len-lists.result ≡ length case.later = omega (arith, c.len-lists.ensures, ap (λ b. length b.later) c.case.view_is, c.case.inside.later.ok.0) in
    subst (λ (n : ℕ). IsAllTold case n c.args.walk.to (c.len-lists.result - length c.in-Left.left.now)) (sym (ap (λ b. b.from) c.case.view_is))
    (lawful case read c.args.walk c.pass.new.self c.requires c.pass.ensures.held c.in-Left.left.now have (c.len-lists.result - length c.in-Left.left.now)
    (first_moved c.case.inside.ask.selection case.ask.selection c.args.walk.to c.deref.result.now (values c.args.walk.rows) c.in-Left.left.now c.in_ok-list.field-0 None
    (ap (λ b. b.ask.selection) c.case.view_is) same c.in-None.is c.in_ok-list.ensures)
    (omega (arith, all, ap length have.parted, length-append have.gone c.in-Left.left.now)))
