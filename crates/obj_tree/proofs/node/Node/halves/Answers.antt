use Rattle.std.proofs.Common.{◌≡◌, ◌≤◌, ◌++◌, List, length, take, drop, ap, sym, ◌∙◌, subst, arith, length-append, length-take, length-drop}
use Rattle.std.proofs.lemmas.List.{length-map}
use Rattle.kube_meta.specs.Rows.{RowData}
use Rattle.obj_tree.specs.Pages.{values_of, joined, IsPaged}
use Rattle.obj_tree.proofs.PageLemmas.{map_drop}
use Rattle.obj_tree.proofs.SpanLemmas.{map_take}
use Rattle.obj_tree.proofs.NodeLemmas.{front_back, paged_take, paged_drop, large_pages}
use Rattle.obj_tree.proofs.node.Node.halves.Goals as goal

pub sharing-requires : goal.sharing-requires
sharing-requires c =
    let pages = values_of c.self.inside.pages.items in
    let front : values_of c.split_at.result.0.now ≡ take 32 pages = ap values_of c.split_at.ensures.front ∙ map_take (λ p. p.value) c.deref.result.now 32 ∙ ap (λ (xs : List _). take 32 (values_of xs)) c.deref.ensures.value in
    record {
      paged = subst (λ (p : List (List RowData)). IsPaged p) (sym front) (paged_take pages 32 c.self.invariant.0);
      few = omega (arith, ap (λ (p : List (List RowData)). length (joined p)) front, ap length (front_back pages 32), length-append (joined (take 32 pages)) (joined (drop 32 pages)), c.self.invariant);
    }

pub sharing-requires-2 : goal.sharing-requires-2
sharing-requires-2 c =
    let pages = values_of c.self.inside.pages.items in
    let back : values_of c.split_at.result.1.now ≡ drop 32 pages = ap values_of c.split_at.ensures.back ∙ map_drop (λ p. p.value) c.deref.result.now 32 ∙ ap (λ (xs : List _). drop 32 (values_of xs)) c.deref.ensures.value in
    record {
      paged = subst (λ (p : List (List RowData)). IsPaged p) (sym back) (paged_drop pages 32 c.self.invariant.0);
      few = omega (arith, ap (λ (p : List (List RowData)). length (joined p)) back, ap length (front_back pages 32), length-append (joined (take 32 pages)) (joined (drop 32 pages)), c.self.invariant);
    }

pub returns : goal.returns
returns c =
    let pages = values_of c.self.inside.pages.items in
    let front : c.in_ok-front.front ≡ joined (take 32 pages) = c.in_ok-front.ensures ∙ ap (λ (xs : List _). joined (values_of xs)) c.split_at.ensures.front ∙ ap joined (map_take (λ p. p.value) c.deref.result.now 32) ∙ ap (λ (xs : List _). joined (take 32 (values_of xs))) c.deref.ensures.value in
    let back : c.in_ok-back.back ≡ joined (drop 32 pages) = c.in_ok-back.ensures ∙ ap (λ (xs : List _). joined (values_of xs)) c.split_at.ensures.back ∙ ap joined (map_drop (λ p. p.value) c.deref.result.now 32) ∙ ap (λ (xs : List _). joined (drop 32 (values_of xs))) c.deref.ensures.value in
    let long : 64 ≤ length pages = omega (arith, length-map c.self.inside.pages.items (λ p. p.value)) in
    record {
      rows = ap (λ (r : List RowData). r ++ c.in_ok-back.back) front ∙ ap (λ (r : List RowData). joined (take 32 pages) ++ r) back ∙ front_back pages 32 ∙ c.self.view_is;
      front = omega (arith, ap length front, large_pages (take 32 pages) (paged_take pages 32 c.self.invariant.0) (omega (arith, long, length-take 32 pages)));
      back = omega (arith, ap length back, large_pages (drop 32 pages) (paged_drop pages 32 c.self.invariant.0) (omega (arith, long, length-drop 32 pages)));
    }
