use Rattle.std.proofs.Common.{◌≡◌, List, false, true, refl, ap, sym, ◌∙◌, subst}
use Rattle.kube_meta.specs.Rows.{RowData}
use Rattle.select_all.specs.Listings.{listing}
use Rattle.select_all.specs.Selecting.{selects}
use Rattle.cached_client.specs.Walks.{AreWithin}
use Rattle.cached_client.proofs.WalkLemmas.{next_chosen, next_left_out, next_within, next_fewer, none_next}
use Rattle.cached_client.proofs.walks.next_selected.Goals as goal

pub loop-shown-preserved : goal.loop-shown-preserved
loop-shown-preserved c =
    let s = c.args.selection.now in
    let row = c.in-Some.shown.now.value in
    let out : selects s row.obj ≡ false = sym c.is_selected.ensures ∙ c.if-is_selected.false in
    record {
      listing = c.loop-shown.invariant.listing ∙ next_left_out s c.args.mask c.loop-shown.rows c.next_with.new.self row c.requires c.in-Some.ensures out;
      within = λ are. next_within s c.args.mask c.loop-shown.rows c.next_with.new.self row c.requires c.in-Some.ensures (c.loop-shown.invariant.within are);
    }

pub loop-shown-smaller : goal.loop-shown-smaller
loop-shown-smaller c =
    next_fewer c.args.selection.now c.args.mask c.loop-shown.rows c.next_with.new.self c.in-Some.shown.now.value c.requires c.in-Some.ensures

pub returns-then-is_selected : goal.returns-then-is_selected
returns-then-is_selected c =
    let s = c.args.selection.now in
    let row = c.in-Some.shown.now.value in
    let chosen : selects s row.obj ≡ true = sym c.is_selected.ensures ∙ c.if-is_selected.true in
    record {
      next = c.loop-shown.invariant.listing ∙ next_chosen s c.args.mask c.loop-shown.rows c.next_with.new.self row c.requires c.in-Some.ensures chosen;
      within = λ are. next_within s c.args.mask c.loop-shown.rows c.next_with.new.self row c.requires c.in-Some.ensures (c.loop-shown.invariant.within are);
    }

-- none is left
pub returns : goal.returns
returns c =
    let s = c.args.selection.now in
    record {
      next = (c.loop-shown.invariant.listing ∙ none_next s c.args.mask c.loop-shown.rows c.requires c.in_default.ensures.0, ap (listing s) c.in_default.ensures.1);
      within = λ are. subst (λ (rows : List RowData). AreWithin s rows) (sym c.in_default.ensures.1) refl;
    }
