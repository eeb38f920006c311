use Rattle.std.proofs.Common.{◌≡◌, ◌≤◌, ◌∷◌, ◌++◌, [], List, length, take, drop, ap, sym, ◌∙◌, subst, arith, length-append, length-take, length-drop}
use Rattle.std.proofs.lemmas.List.{length-map}
use Rattle.kube_meta.specs.Rows.{RowData}
use Rattle.obj_tree.specs.Pages.{values_of, joined, HoldEach, IsPaged, IsNoded}
use Rattle.obj_tree.proofs.PageLemmas.{hold-append, map_drop}
use Rattle.obj_tree.proofs.SpanLemmas.{map_take}
use Rattle.obj_tree.proofs.NodeLemmas.{front_back, paged_take, paged_drop, large_pages, one_node, last_node, noded_last, noded_all}
use Rattle.obj_tree.proofs.filled.noded.Goals as goal

pub add_node-requires : goal.add_node-requires
add_node-requires c =
    let nodes = values_of c.loop-rest.nodes.items in
    let rest = values_of c.loop-rest.rest.now in
    let front : values_of c.split_at.result.0.now ≡ take 32 rest = ap values_of c.split_at.ensures.front ∙ map_take (λ p. p.value) c.loop-rest.rest.now 32 in
    record {
      paged = subst (λ (p : List (List RowData)). IsPaged p) (sym front) (paged_take rest 32 c.loop-rest.invariant.paged);
      few = omega (arith, ap (λ (p : List (List RowData)). length (joined p)) front, ap length (front_back rest 32), length-append (joined (take 32 rest)) (joined (drop 32 rest)), ap length c.loop-rest.invariant.rows, length-append (joined nodes) (joined rest), c.requires.few);
    }

pub loop-rest-preserved : goal.loop-rest-preserved
loop-rest-preserved c =
    let nodes = values_of c.loop-rest.nodes.items in
    let rest = values_of c.loop-rest.rest.now in
    let front : values_of c.split_at.result.0.now ≡ take 32 rest = ap values_of c.split_at.ensures.front ∙ map_take (λ p. p.value) c.loop-rest.rest.now 32 in
    let back : values_of c.split_at.result.1.now ≡ drop 32 rest = ap values_of c.split_at.ensures.back ∙ map_drop (λ p. p.value) c.loop-rest.rest.now 32 in
    let long : 64 ≤ length rest = omega (arith, c.loop-rest-test.true, length-map c.loop-rest.rest.now (λ p. p.value)) in
    let more : values_of c.add_node.new.nodes.items ≡ nodes ++ (joined (take 32 rest) ∷ []) = c.in_ok-add_node.ensures ∙ ap (λ (p : List (List RowData)). nodes ++ (joined p ∷ [])) front in
    record {
      large = subst (λ (p : List (List RowData)). HoldEach 512 p) (sym more) (hold-append 512 nodes (joined (take 32 rest) ∷ []) c.loop-rest.invariant.large (large_pages (take 32 rest) (paged_take rest 32 c.loop-rest.invariant.paged) (omega (arith, long, length-take 32 rest)), tt));
      paged = subst (λ (p : List (List RowData)). IsPaged p) (sym back) (paged_drop rest 32 c.loop-rest.invariant.paged);
      many = λ some. omega (arith, long, ap length back, length-drop 32 rest, length-map c.split_at.result.1.now (λ p. p.value));
      rows = ap (λ (p : List (List RowData)). joined p ++ joined (values_of c.split_at.result.1.now)) more ∙ ap (λ (p : List (List RowData)). joined (nodes ++ (joined (take 32 rest) ∷ [])) ++ joined p) back ∙ one_node nodes rest 32 ∙ c.loop-rest.invariant.rows;
    }

pub returns-then-rest-eq0 : goal.returns-then-rest-eq0
returns-then-rest-eq0 c =
    let nodes = values_of c.loop-rest.nodes.items in
    let rest = values_of c.loop-rest.rest.now in
    let done = noded_all nodes rest (values_of c.args.pages.now) c.loop-rest.invariant.large (omega (arith, length-map c.loop-rest.rest.now (λ p. p.value))) c.loop-rest.invariant.rows c.requires.paged.rising in
    record { noded = done.0; rows = done.1 }

pub returns : goal.returns
returns c =
    let nodes = values_of c.loop-rest.nodes.items in
    let rest = values_of c.loop-rest.rest.now in
    let more : values_of c.add_node-2.new.nodes.items ≡ nodes ++ (joined rest ∷ []) = c.in_ok-add_node-2.ensures in
    let all = values_of c.args.pages.now in
    record {
      noded = subst (λ (p : List (List RowData)). IsNoded p) (sym more) (noded_last nodes rest all c.loop-rest.invariant.large c.loop-rest.invariant.paged (omega (arith, length-map c.loop-rest.rest.now (λ p. p.value))) (λ some. omega (arith, c.loop-rest.invariant.many (omega (arith, some, length-map c.loop-rest.nodes.items (λ p. p.value))), length-map c.loop-rest.rest.now (λ p. p.value))) c.loop-rest.invariant.rows c.requires.paged.rising);
      rows = ap joined more ∙ last_node nodes rest all c.loop-rest.invariant.rows;
    }
