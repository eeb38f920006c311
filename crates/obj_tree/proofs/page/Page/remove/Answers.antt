use Rattle.std.proofs.Common.{◌<◌, List, length, ap, sym, subst, arith, rules}
use Rattle.std.proofs.lemmas.List.{length-map}
use Rattle.kube_meta.specs.Rows.{RowData}
use Rattle.kube_meta.specs.Words.{labels_word, fields_word}
use Rattle.obj_tree.specs.Prefixes.{IsPrefix}
use Rattle.obj_tree.specs.Pages.{values_of}
use Rattle.obj_tree.proofs.PrefixLemmas.{prefix_gone}
use Rattle.obj_tree.proofs.PageLemmas.{set_none}
use Rattle.obj_tree.proofs.WordLemmas.{removed_beside}
use Rattle.obj_tree.proofs.page.Page.remove.Goals as goal

pub remove-requires : goal.remove-requires
remove-requires c =
    let items = c.self.inside.rows.items in
    omega (arith, c.requires, ap length c.self.view_is, length-map items (λ p. p.value), ap length c.self.invariant.1, length-map items (λ p. fields_word p.value.obj.fields))

pub remove-requires-2 : goal.remove-requires-2
remove-requires-2 c =
    let items = c.self.inside.rows.items in
    omega (arith, c.requires, ap length c.self.view_is, length-map items (λ p. p.value), ap length c.self.invariant.2, length-map items (λ p. labels_word p.value.obj.labels))

pub invariant_of-self-else-place-eq0 : goal.invariant_of-self-else-place-eq0
invariant_of-self-else-place-eq0 c =
    let items = c.self.inside.rows.items in
    let prefix = c.self.inside.prefix in
    let inside : c.args.place < length items = omega (arith, c.requires, ap length c.self.view_is, length-map items (λ p. p.value)) in
    let kept = prefix_gone prefix (values_of items) c.args.place (omega (arith, c.if-place-eq0.false)) (omega (arith, inside, length-map items (λ p. p.value))) c.self.invariant.0 in (
      rw c.remove-3.ensures.items (subst (λ (r : List RowData). IsPrefix prefix r) (sym (set_none (λ p. p.value) items c.args.place inside)) kept),
      removed_beside (λ p. fields_word p.value.obj.fields) items c.remove-3.new.self.items c.self.inside.fields c.remove.new.self c.args.place c.self.invariant.1 inside c.remove-3.ensures.items c.remove.ensures,
      removed_beside (λ p. labels_word p.value.obj.labels) items c.remove-3.new.self.items c.self.inside.labels c.remove-2.new.self c.args.place c.self.invariant.2 inside c.remove-3.ensures.items c.remove-2.ensures,
    )

pub returns-then-place-eq0 : goal.returns-then-place-eq0
returns-then-place-eq0 c =
    let items = c.self.inside.rows.items in
    let inside : c.args.place < length items = omega (arith, c.requires, ap length c.self.view_is, length-map items (λ p. p.value)) in
    rw (c.remove-3.ensures.items, ← c.self.view_is) (set_none (λ p. p.value) items c.args.place inside)

pub returns-else-place-eq0 : goal.returns-else-place-eq0
returns-else-place-eq0 c =
    let items = c.self.inside.rows.items in
    let inside : c.args.place < length items = omega (arith, c.requires, ap length c.self.view_is, length-map items (λ p. p.value)) in
    rw (c.remove-3.ensures.items, ← c.self.view_is) (set_none (λ p. p.value) items c.args.place inside)
