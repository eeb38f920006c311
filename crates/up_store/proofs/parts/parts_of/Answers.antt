-- One more revision adds its part, and at the end they are all.
use Rattle.std.proofs.Common.{◌≡◌, ◌∷◌, [], ◌++◌, Some, None, sym, ap, ◌∙◌, arith}
use Rattle.std.specs.List.{filter_map}
use Rattle.rev_log.proofs.MapLemmas.{take_all}
use Rattle.up_api.specs.Feeds.{part_of}
use Rattle.up_store.proofs.PollLemmas.{part-more, part-none}
use Rattle.up_store.proofs.parts.parts_of.Goals as goal
use Rattle.up_store.proofs.parts.parts_of.Goals.{in-Some+in_ok-push, in_default}

pub loop-revision-preserved : goal.loop-revision-preserved
loop-revision-preserved c = elim c.match-branch-2.branch [
  | in-Some+in_ok-push w ↦
      let found : Some w.in-Some.found ≡ part_of c.args.resource c.revision-item.result = sym w.in-Some.is ∙ c.in_ok-found.ensures ∙ ap (part_of c.args.resource) c.get.ensures in
      ap (λ v. v.items) w.parts-is ∙ w.in_ok-push.ensures.items ∙ ap (λ xs. xs ++ w.in-Some.found ∷ []) c.loop-revision.invariant
      ∙ part-more c.args.resource 0 c.loop-revision.revision-index c.args.revisions.now c.revision-item.result (Some w.in-Some.found) (omega arith) c.loop-revision-test.true c.revision-item.is found
  | in_default w ↦
      let found : None ≡ part_of c.args.resource c.revision-item.result = sym w.in_default.is ∙ c.in_ok-found.ensures ∙ ap (part_of c.args.resource) c.get.ensures in
      ap (λ v. v.items) w.parts-is ∙ c.loop-revision.invariant
      ∙ part-none c.args.resource 0 c.loop-revision.revision-index c.args.revisions.now c.revision-item.result (omega arith) c.loop-revision-test.true c.revision-item.is found
]

pub returns : goal.returns
returns c = c.loop-revision.invariant ∙ ap (filter_map (part_of c.args.resource)) (take_all c.args.revisions.now c.loop-revision.revision-index c.loop-revision-test.false)
