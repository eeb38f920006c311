-- The slots hold the changes that lead from the old rows to the new ones.
use Rattle.std.proofs.Common.{◌++◌, List, refl, ◌∙◌, subst}
use Rattle.kube_meta.specs.Rows.{RowData}
use Rattle.mirror_log.specs.Bridges.{AreKept, gone}
use Rattle.mirror_log.specs.Slots.{Remove, puts}
use Rattle.mirror_log.proofs.BridgeLemmas.{distinct_all, distinct_removed, removed_missing}
use Rattle.mirror_log.proofs.MadeLemmas.{bridges, one_log}
use Rattle.mirror_log.proofs.between.bridge.Goals as goal

pub revisions_of-requires : goal.revisions_of-requires
revisions_of-requires c =
    let from = c.args.from in
    let old = c.args.old.now in
    let rows = c.args.rows.now in
    let removes : Remove c.args.resource from c.args.to (puts c.args.resource from rows) (gone old rows) c.remove_all.new.slots.entries =
    subst (λ (l : List RowData). Remove c.args.resource from c.args.to (puts c.args.resource from rows) l c.remove_all.new.slots.entries) (c.deref.ensures.value ∙ c.in_ok-gone.ensures) (c.in_ok-remove_all.ensures.removed (puts c.args.resource from rows) c.in_ok-put_all.ensures.put) in (
      puts c.args.resource from rows ++ removes.removed,
      removes.hold,
      distinct_all c.args.resource from rows removes.removed c.requires.rising (distinct_removed old rows removes.removed c.requires.old_rising removes.keys) (removed_missing old rows removes.removed removes.keys),
    )

pub returns-clause-bridges : goal.returns-clause-bridges
returns-clause-bridges c =
    let from = c.args.from in
    let old = c.args.old.now in
    let rows = c.args.rows.now in
    let removes : Remove c.args.resource from c.args.to (puts c.args.resource from rows) (gone old rows) c.remove_all.new.slots.entries =
    subst (λ (l : List RowData). Remove c.args.resource from c.args.to (puts c.args.resource from rows) l c.remove_all.new.slots.entries) (c.deref.ensures.value ∙ c.in_ok-gone.ensures) (c.in_ok-remove_all.ensures.removed (puts c.args.resource from rows) c.in_ok-put_all.ensures.put) in
    let kept : AreKept from old rows = c.if-not-are_kept.ensures.0 refl in
    bridges from old c.args.to rows c.remove_all.new.slots.entries c.in_ok-revisions_of.field-0.items c.requires.onward c.requires.rising kept c.requires.within removes c.in_ok-revisions_of.ensures.ordered c.in_ok-revisions_of.ensures.made

pub returns-clause-one_log : goal.returns-clause-one_log
returns-clause-one_log c =
    let from = c.args.from in
    let old = c.args.old.now in
    let rows = c.args.rows.now in
    let removes : Remove c.args.resource from c.args.to (puts c.args.resource from rows) (gone old rows) c.remove_all.new.slots.entries =
    subst (λ (l : List RowData). Remove c.args.resource from c.args.to (puts c.args.resource from rows) l c.remove_all.new.slots.entries) (c.deref.ensures.value ∙ c.in_ok-gone.ensures) (c.in_ok-remove_all.ensures.removed (puts c.args.resource from rows) c.in_ok-put_all.ensures.put) in
    let kept : AreKept from old rows = c.if-not-are_kept.ensures.0 refl in
    one_log from old c.args.to rows c.remove_all.new.slots.entries c.in_ok-revisions_of.field-0.items c.requires.onward c.requires.rising kept c.requires.within removes c.in_ok-revisions_of.ensures.ordered c.in_ok-revisions_of.ensures.made
