use Rattle.std.proofs.Common.{◌≡◌, ◌++◌, List, length, ap, sym, ◌∙◌, subst, arith, length-append}
use Rattle.kube_meta.specs.Rows.{RowData, AreRising}
use Rattle.obj_tree.specs.Pages.{values_of, joined, AreSized, AreFull}
use Rattle.obj_tree.proofs.node.Node.joined.Goals as goal

pub append-requires : goal.append-requires
append-requires c =
    let first : values_of c.in_ok-pages.pages.items ≡ values_of c.self.inside.pages.items = c.in_ok-pages.ensures ∙ ap values_of c.deref.ensures.value in
    let second : values_of c.deref-2.result.now ≡ values_of c.next.inside.pages.items = ap values_of c.deref-2.ensures.value in
    record {
      sized = subst (λ (p : List (List RowData)). AreSized p) (sym first) c.self.invariant.0.sized;
      full = subst (λ (p : List (List RowData)). AreFull p) (sym first) c.self.invariant.0.full;
      more_sized = subst (λ (p : List (List RowData)). AreSized p) (sym second) c.next.invariant.0.sized;
      more_full = subst (λ (p : List (List RowData)). AreFull p) (sym second) c.next.invariant.0.full;
    }

pub of-requires : goal.of-requires
of-requires c =
    let first : values_of c.in_ok-pages.pages.items ≡ values_of c.self.inside.pages.items = c.in_ok-pages.ensures ∙ ap values_of c.deref.ensures.value in
    let second : values_of c.deref-2.result.now ≡ values_of c.next.inside.pages.items = ap values_of c.deref-2.ensures.value in
    let rows : joined (values_of c.append.new.pages.items) ≡ c.args.self.now ++ c.args.next.now =
    c.in_ok-append.ensures.rows_are
    ∙ ap (λ (p : List (List RowData)). joined p ++ joined (values_of c.deref-2.result.now)) first
    ∙ ap (λ (p : List (List RowData)). joined (values_of c.self.inside.pages.items) ++ joined p) second
    ∙ ap (λ (r : List RowData). r ++ joined (values_of c.next.inside.pages.items)) c.self.view_is
    ∙ ap (λ (r : List RowData). c.args.self.now ++ r) c.next.view_is in
    record {
      paged = record { sized = c.in_ok-append.ensures.sized; full = c.in_ok-append.ensures.full; rising = subst (λ (r : List RowData). AreRising r) (sym rows) c.requires.rising };
      few = omega (arith, ap length rows, length-append c.args.self.now c.args.next.now, c.requires.few);
    }

pub returns : goal.returns
returns c =
    let first : values_of c.in_ok-pages.pages.items ≡ values_of c.self.inside.pages.items = c.in_ok-pages.ensures ∙ ap values_of c.deref.ensures.value in
    let second : values_of c.deref-2.result.now ≡ values_of c.next.inside.pages.items = ap values_of c.deref-2.ensures.value in
    c.of.ensures
    ∙ c.in_ok-append.ensures.rows_are
    ∙ ap (λ (p : List (List RowData)). joined p ++ joined (values_of c.deref-2.result.now)) first
    ∙ ap (λ (p : List (List RowData)). joined (values_of c.self.inside.pages.items) ++ joined p) second
    ∙ ap (λ (r : List RowData). r ++ joined (values_of c.next.inside.pages.items)) c.self.view_is
    ∙ ap (λ (r : List RowData). c.args.self.now ++ r) c.next.view_is
