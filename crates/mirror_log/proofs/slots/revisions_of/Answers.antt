-- Each slot is that of its number, and its revision joins those before it.
use Rattle.std.proofs.Common.{◌≡◌, ℕ, List, [], ◌∷◌, ◌++◌, map, sym, ◌∙◌, subst, rules}
use Rattle.std.proofs.lemmas.Cmp.{nat_cmp_total}
use Rattle.std.proofs.lemmas.Map.Iter.{btree_map_turn, iter_end}
use Rattle.rev_log.specs.Changes.{ChangeData}
use Rattle.mirror_log.specs.Slots.{SlotsData, AreMadeOf}
use Rattle.mirror_log.proofs.SlotLemmas.{slot_distinct, slot_numbered, made_more, map_same}
use Rattle.mirror_log.proofs.slots.revisions_of.Goals as goal

pub revision-requires-clause-distinct : goal.revision-requires-clause-distinct
revision-requires-clause-distinct c =
    let t = btree_map_turn (λ (x : ℕ × List ChangeData). x) c.loop-rev.yielded c.into_iter-rev-iterator.result c.loop-rev.rev-iterator c.next.new.self c.next.result (c.in-Some.rev, c.in-Some.slot) c.loop-rev.yielded_by c.in-Some.is c.next.ensures.steps
    nat_cmp_total c.args.slots c.into_iter-rev-iterator.ensures.into_iter_gives.0 c.into_iter-rev-iterator.ensures.into_iter_gives.5 in
    slot_distinct c.args.slots.entries c.requires.0 c.in-Some.rev c.in-Some.slot c.requires.1 t.1 c.requires.2

pub revision-requires-clause-numbered : goal.revision-requires-clause-numbered
revision-requires-clause-numbered c =
    let t = btree_map_turn (λ (x : ℕ × List ChangeData). x) c.loop-rev.yielded c.into_iter-rev-iterator.result c.loop-rev.rev-iterator c.next.new.self c.next.result (c.in-Some.rev, c.in-Some.slot) c.loop-rev.yielded_by c.in-Some.is c.next.ensures.steps
    nat_cmp_total c.args.slots c.into_iter-rev-iterator.ensures.into_iter_gives.0 c.into_iter-rev-iterator.ensures.into_iter_gives.5 in
    slot_numbered c.args.slots.entries c.requires.0 c.in-Some.rev c.in-Some.slot c.requires.1 t.1

pub loop-rev-preserved : goal.loop-rev-preserved
loop-rev-preserved c =
    subst (AreMadeOf (c.loop-rev.yielded ++ (c.in-Some.rev, c.in-Some.slot) ∷ [])) (sym c.in_ok-push.ensures.items)
    (made_more c.loop-rev.yielded c.loop-rev.revisions.items (c.in-Some.rev, c.in-Some.slot) c.revision.result c.loop-rev.invariant
    (c.revision.ensures.rev, c.revision.ensures.form, c.revision.ensures.changes))

pub returns-clause-made : goal.returns-clause-made
returns-clause-made c =
    let e : map (λ (x : ℕ × List ChangeData). x) c.loop-rev.yielded ≡ c.args.slots.entries = search (rules, iter_end) in
    subst (λ (slots : SlotsData). AreMadeOf slots c.loop-rev.revisions.items) (sym (map_same c.loop-rev.yielded) ∙ e) c.loop-rev.invariant
