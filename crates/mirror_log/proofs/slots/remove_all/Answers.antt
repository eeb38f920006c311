-- The next row is removed at the first revision with room; where there is none, all between are full.
use Rattle.std.proofs.Common.{◌≡◌, ℕ, ◌<◌, ◌≤◌, List, length, ap, subst, inl, inr, arith}
use Rattle.std.proofs.lemmas.Bool.{cases_lt}
use Rattle.kube_meta.specs.Rows.{RowData}
use Rattle.rev_log.specs.Changes.{ChangeData}
use Rattle.mirror_log.specs.Slots.{SlotsData, Adds, Remove, removal_of, slot_at}
use Rattle.mirror_log.proofs.SlotLemmas.{one_removed, still_full, no_room, take_whole}
use Rattle.mirror_log.proofs.slots.remove_all.Goals as goal

-- the revisions before the one that was found have no room
full_before : (slots : SlotsData) (from at found : ℕ) → ((rev : ℕ) → from < rev → rev < at → 64 ≤ length (slot_at slots rev)) → ((rev : ℕ) → at ≤ rev → rev < found → 64 ≤ length (slot_at slots rev))
    → (rev : ℕ) → from < rev → rev < found → 64 ≤ length (slot_at slots rev)
full_before slots from at found before since rev above below = elim (cases_lt rev at) [
  | inl old ↦ before rev above old
  | inr new ↦ since rev new below
]

pub returns-then-at-to-clause-full : goal.returns-then-at-to-clause-full
returns-then-at-to-clause-full c = λ is changes hold.
    let full = full_before c.loop-row.slots.entries c.args.from c.loop-row.at c.with_room-at.result c.loop-row.invariant.full c.with_room-at.ensures.full in
    no_room c.args.from c.args.to changes c.args.rows.now c.loop-row.row-index c.loop-row.slots.entries c.requires.onward c.loop-row-test.true (c.loop-row.invariant.removed changes hold)
    (λ rev above within. full rev above (omega (arith, within, c.if-at-to.true)))

pub returns-in-Err-clause-full : goal.returns-in-Err-clause-full
returns-in-Err-clause-full c = λ is changes hold.
    absurd (omega (
      arith,
      c.in-Err.ensures.full is,
      ap (λ (x : ChangeData). length (slot_at c.loop-row.slots.entries x.rev)) c.in_ok-change.ensures,
      c.with_room-at.ensures.room (omega (arith, c.if-at-to.false)),
    ))

pub loop-row-preserved : goal.loop-row-preserved
loop-row-preserved c =
    let at : ℕ = c.with_room-at.result in
    let full = full_before c.loop-row.slots.entries c.args.from c.loop-row.at c.with_room-at.result c.loop-row.invariant.full c.with_room-at.ensures.full in
    let above : c.args.from < c.with_room-at.result = omega (arith, c.loop-row.invariant.after, c.with_room-at.ensures.onward) in
    let within : c.with_room-at.result ≤ c.args.to = omega (arith, c.if-at-to.false) in
    let place : c.in_ok-change.change.rev ≡ c.with_room-at.result = ap (λ (x : ChangeData). x.rev) c.in_ok-change.ensures in
    let adds : Adds c.loop-row.slots.entries (removal_of c.args.resource c.row-item.result c.with_room-at.result) c.add.new.slots.entries =
    subst (λ x. Adds c.loop-row.slots.entries x c.add.new.slots.entries) c.in_ok-change.ensures c.in-Ok.ensures.added in
    record {
      after = above;
      inside = omega (arith, within);
      full = still_full c.args.from c.with_room-at.result c.loop-row.slots.entries c.add.new.slots.entries c.in_ok-change.change c.in-Ok.ensures.added place full;
      removed = λ changes hold.
          one_removed c.args.from c.args.to changes c.args.rows.now c.loop-row.row-index c.row-item.result c.loop-row.slots.entries c.add.new.slots.entries c.with_room-at.result
          c.loop-row-test.true c.row-item.is (c.loop-row.invariant.removed changes hold) adds above within;
    }

pub returns-clause-removed : goal.returns-clause-removed
returns-clause-removed c = λ changes hold.
    subst (λ (rows : List RowData). Remove c.args.resource c.args.from c.args.to changes rows c.loop-row.slots.entries) (take_whole c.args.rows.now c.loop-row.row-index c.loop-row-test.false) (c.loop-row.invariant.removed changes hold)
