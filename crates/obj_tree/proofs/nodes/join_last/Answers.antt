use Rattle.std.proofs.Common.{◌≡◌, ◌+◌, ◌-◌, ◌<◌, ◌∷◌, ◌++◌, [], List, length, ap, sym, ◌∙◌, subst, arith, length-append}
use Rattle.std.specs.Prelude.{OnOk}
use Rattle.std.proofs.lemmas.List.{length-map}
use Rattle.kube_meta.specs.Rows.{RowData, AreRising}
use Rattle.obj_tree.specs.Pages.{values_of, joined, page_at, replaced}
use Rattle.obj_tree.proofs.PageLemmas.{indexed, hold_at}
use Rattle.obj_tree.proofs.NodeLemmas.{last_rows, rising_part, few_part}
use Rattle.obj_tree.proofs.nodes.join_last.Goals as goal

pub joined-requires : goal.joined-requires
joined-requires c =
    let items = c.args.nodes.now.items in
    let nodes = values_of items in
    let at = c.args.at in
    let node = c.args.node in
    let inside : at < length nodes = omega (arith, c.requires.inside, length-map items (λ p. p.value)) in
    let read : page_at nodes (at - 1) ≡ c.deref.result.now = indexed (λ p. p.value) items (at - 1) c.index.result.now (omega (arith, c.requires.inside, c.requires.some)) c.index.ensures ∙ sym c.deref.ensures in
    let rows : joined (replaced nodes (at - 1) (at - 1 + 2) ((page_at nodes (at - 1) ++ node) ∷ [])) ≡ joined (replaced nodes at (at + 1) (node ∷ [])) = last_rows nodes at node c.requires.some inside in
    record {
      rising = subst (λ (p : List RowData). AreRising (p ++ node)) read (rising_part nodes (at - 1) (at - 1 + 2) (page_at nodes (at - 1) ++ node) (subst (λ (r : List RowData). AreRising r) (sym rows) c.requires.rising));
      few = omega (arith, few_part nodes (at - 1) (at - 1 + 2) (page_at nodes (at - 1) ++ node), length-append (page_at nodes (at - 1)) node, ap length read, ap length rows, c.requires.few);
    }

pub put_settled-requires-clause-large : goal.put_settled-requires-clause-large
put_settled-requires-clause-large c =
    let items = c.args.nodes.now.items in
    let nodes = values_of items in
    let at = c.args.at in
    let node = c.args.node in
    let inside : at < length nodes = omega (arith, c.requires.inside, length-map items (λ p. p.value)) in
    let read : page_at nodes (at - 1) ≡ c.deref.result.now = indexed (λ p. p.value) items (at - 1) c.index.result.now (omega (arith, c.requires.inside, c.requires.some)) c.index.ensures ∙ sym c.deref.ensures in
    let rows : joined (replaced nodes (at - 1) (at - 1 + 2) ((page_at nodes (at - 1) ++ node) ∷ [])) ≡ joined (replaced nodes at (at + 1) (node ∷ [])) = last_rows nodes at node c.requires.some inside in
    let same : c.in_ok-both.both ≡ page_at nodes (at - 1) ++ node = c.in_ok-both.ensures ∙ ap (λ (p : List RowData). p ++ node) (sym read) in
    omega (arith, ap length same, length-append (page_at nodes (at - 1)) node, hold_at 512 nodes (at - 1) (c.requires.noded.large (omega (arith, c.requires.many, length-map items (λ p. p.value)))) (omega (arith, inside)))

pub put_settled-requires-clause-rising : goal.put_settled-requires-clause-rising
put_settled-requires-clause-rising c =
    let items = c.args.nodes.now.items in
    let nodes = values_of items in
    let at = c.args.at in
    let node = c.args.node in
    let inside : at < length nodes = omega (arith, c.requires.inside, length-map items (λ p. p.value)) in
    let read : page_at nodes (at - 1) ≡ c.deref.result.now = indexed (λ p. p.value) items (at - 1) c.index.result.now (omega (arith, c.requires.inside, c.requires.some)) c.index.ensures ∙ sym c.deref.ensures in
    let rows : joined (replaced nodes (at - 1) (at - 1 + 2) ((page_at nodes (at - 1) ++ node) ∷ [])) ≡ joined (replaced nodes at (at + 1) (node ∷ [])) = last_rows nodes at node c.requires.some inside in
    let same : c.in_ok-both.both ≡ page_at nodes (at - 1) ++ node = c.in_ok-both.ensures ∙ ap (λ (p : List RowData). p ++ node) (sym read) in
    subst (λ (r : List RowData). AreRising r) (sym (ap (λ (p : List RowData). joined (replaced nodes (at - 1) (at - 1 + 2) (p ∷ []))) same ∙ rows)) c.requires.rising

pub returns-clause-ok : goal.returns-clause-ok
returns-clause-ok c =
    let items = c.args.nodes.now.items in
    let nodes = values_of items in
    let at = c.args.at in
    let node = c.args.node in
    let inside : at < length nodes = omega (arith, c.requires.inside, length-map items (λ p. p.value)) in
    let read : page_at nodes (at - 1) ≡ c.deref.result.now = indexed (λ p. p.value) items (at - 1) c.index.result.now (omega (arith, c.requires.inside, c.requires.some)) c.index.ensures ∙ sym c.deref.ensures in
    let rows : joined (replaced nodes (at - 1) (at - 1 + 2) ((page_at nodes (at - 1) ++ node) ∷ [])) ≡ joined (replaced nodes at (at + 1) (node ∷ [])) = last_rows nodes at node c.requires.some inside in
    let same : c.in_ok-both.both ≡ page_at nodes (at - 1) ++ node = c.in_ok-both.ensures ∙ ap (λ (p : List RowData). p ++ node) (sym read) in
    subst (λ (r : List RowData). OnOk c.put_settled.result (joined (values_of c.put_settled.new.nodes.items) ≡ r)) (ap (λ (p : List RowData). joined (replaced nodes (at - 1) (at - 1 + 2) (p ∷ []))) same ∙ rows) c.put_settled.ensures.ok
