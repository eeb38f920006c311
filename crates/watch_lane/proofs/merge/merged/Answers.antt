use Rattle.std.proofs.Common.{rules, ◌≡◌, [], arith, ◌∙◌, subst, sym}
use Rattle.watch_lane.proofs.MergeLemmas.{AreMergedTo, merge_begins, left_goes, rest_goes, both_go, merge_ends}
use Rattle.watch_lane.proofs.merge.merged.Goals as goal
use Rattle.watch_lane.proofs.merge.merged.Goals.{then-loop-at-test+else-ids-at, else-loop-at-test, then-at-ids+then-ids-at-2, else-at-ids, else-at-ids-via-then-at-ids+else-ids-at-2, else-at-ids-via-else-at-ids}

pub loop-id-init : goal.loop-id-init
loop-id-init c =
    merge_begins c.args.ids.now c.args.more.now.keys c.in_ok-all.all.items c.into_iter-id-iterator.result
    c.in_ok-all.ensures.items (c.into_iter-id-iterator.ensures.into_iter_gives ∙ c.iter-id-items.ensures.rest) c.requires c.iter-id-items.ensures.ordered

pub loop-at-preserved : goal.loop-at-preserved
loop-at-preserved c =
    left_goes c.args.ids.now c.args.more.now.keys c.loop-at.all.items c.push.new.self.items c.loop-at.at c.in-Some.id.now c.next.new.self
    c.loop-at-test.true c.if-ids-at.true c.in_ok-push.ensures.items c.loop-at.invariant

pub loop-id-preserved : goal.loop-id-preserved
loop-id-preserved c = elim c.if-at-ids.branch [
  | then-at-ids+then-ids-at-2 w ↦ subst (λ at. AreMergedTo c.args.ids.now c.args.more.now.keys c.push-in-loop-id.new.self.items at c.next.new.self) (sym w.at-is)
      (both_go c.args.ids.now c.args.more.now.keys c.loop-at.all.items c.push-in-loop-id.new.self.items c.loop-at.at c.in-Some.id.now c.next.new.self
      w.if-at-ids.true w.if-ids-at-2.true c.in_ok-push-2.ensures.items c.loop-at.invariant)
  | else-at-ids w ↦ subst (λ at. AreMergedTo c.args.ids.now c.args.more.now.keys c.push-in-loop-id.new.self.items at c.next.new.self) (sym w.at-is)
      (rest_goes c.args.ids.now c.args.more.now.keys c.loop-at.all.items c.push-in-loop-id.new.self.items c.loop-at.at c.in-Some.id.now c.next.new.self
      (λ h. elim c.loop-at-test.branch [
        | then-loop-at-test+else-ids-at v ↦ elim w.else-at-ids.branch [ else-at-ids-via-then-at-ids+else-ids-at-2 u ↦ omega arith | else-at-ids-via-else-at-ids u ↦ omega arith ]
        | else-loop-at-test v ↦ omega arith
      ])
      c.in_ok-push-2.ensures.items c.loop-at.invariant)
]

pub returns-clause-rising : goal.returns-clause-rising
returns-clause-rising c =
    let over : c.loop-id.id-iterator ≡ [] = search rules in
    merge_ends c.args.ids.now c.args.more.now.keys c.loop-id.all.items c.extend_from_slice.new.self.items c.loop-id.at c.in_ok-extend_from_slice.ensures.items
    (subst (AreMergedTo c.args.ids.now c.args.more.now.keys c.loop-id.all.items c.loop-id.at) over c.loop-id.invariant)
