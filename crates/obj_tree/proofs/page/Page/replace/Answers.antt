use Rattle.std.proofs.Common.{◌≡◌, ◌<◌, ◌+◌, List, length, set, refl, ap, sym, ◌∙◌, subst, arith, rules}
use Rattle.std.proofs.lemmas.List.{length-map}
use Rattle.kube_meta.specs.Rows.{RowData}
use Rattle.kube_meta.specs.Words.{labels_word, fields_word}
use Rattle.obj_tree.specs.Prefixes.{IsPrefix}
use Rattle.obj_tree.specs.Pages.{values_of}
use Rattle.obj_tree.proofs.PrefixLemmas.{prefix_put}
use Rattle.obj_tree.proofs.PageLemmas.{set_page}
use Rattle.obj_tree.proofs.WordLemmas.{replaced_beside}
use Rattle.obj_tree.proofs.page.Page.replace.Goals as goal

pub replace-requires : goal.replace-requires
replace-requires c =
    let items = c.self.inside.rows.items in
    omega (arith, c.requires, ap length c.self.view_is, length-map items (λ p. p.value), ap length c.self.invariant.1, length-map items (λ p. fields_word p.value.obj.fields))

pub replace-requires-2 : goal.replace-requires-2
replace-requires-2 c =
    let items = c.self.inside.rows.items in
    omega (arith, c.requires, ap length c.self.view_is, length-map items (λ p. p.value), ap length c.self.invariant.2, length-map items (λ p. labels_word p.value.obj.labels))

pub invariant_of-self-else-place-eq0 : goal.invariant_of-self-else-place-eq0
invariant_of-self-else-place-eq0 c =
    let items = c.self.inside.rows.items in
    let prefix = c.self.inside.prefix in
    let inside : c.args.place < length items = omega (arith, c.requires, ap length c.self.view_is, length-map items (λ p. p.value)) in
    let fields : c.fields.result ≡ fields_word c.args.shown.value.obj.fields = c.fields.ensures ∙ ap (λ (r : RowData). fields_word r.obj.fields) c.deref.ensures in
    let labels : c.labels.result ≡ labels_word c.args.shown.value.obj.labels = c.labels.ensures ∙ ap (λ (r : RowData). labels_word r.obj.labels) c.deref-2.ensures in
    let kept = prefix_put prefix (values_of items) c.args.place (c.args.place + 1) c.args.shown.value (omega (arith, c.if-place-eq0.false)) (omega (arith, inside, length-map items (λ p. p.value))) c.self.invariant.0 in (
      subst (λ (r : List RowData). IsPrefix prefix r) (sym (set_page (λ p. p.value) items c.args.place c.args.shown c.args.shown.value inside refl)) kept,
      replaced_beside (λ p. fields_word p.value.obj.fields) items (set items c.args.place c.args.shown) c.self.inside.fields c.replace.new.self c.args.place c.self.invariant.1 c.args.shown c.fields.result fields inside refl c.replace.ensures,
      replaced_beside (λ p. labels_word p.value.obj.labels) items (set items c.args.place c.args.shown) c.self.inside.labels c.replace-2.new.self c.args.place c.self.invariant.2 c.args.shown c.labels.result labels inside refl c.replace-2.ensures,
    )

pub returns-then-place-eq0 : goal.returns-then-place-eq0
returns-then-place-eq0 c =
    let items = c.self.inside.rows.items in
    let inside : c.args.place < length items = omega (arith, c.requires, ap length c.self.view_is, length-map items (λ p. p.value)) in
    rw (← c.self.view_is) (set_page (λ p. p.value) items c.args.place c.args.shown c.args.shown.value inside refl)

pub returns-else-place-eq0 : goal.returns-else-place-eq0
returns-else-place-eq0 c =
    let items = c.self.inside.rows.items in
    let inside : c.args.place < length items = omega (arith, c.requires, ap length c.self.view_is, length-map items (λ p. p.value)) in
    rw (← c.self.view_is) (set_page (λ p. p.value) items c.args.place c.args.shown c.args.shown.value inside refl)
