use Rattle.std.proofs.Common.{◌≡◌, ◌≤◌, List, length, ap, sym, ◌∙◌, subst, arith, rules}
use Rattle.std.specs.List.{insert}
use Rattle.std.proofs.lemmas.List.{length-map}
use Rattle.kube_meta.specs.Rows.{RowData}
use Rattle.kube_meta.specs.Words.{labels_word, fields_word}
use Rattle.obj_tree.specs.Prefixes.{IsPrefix}
use Rattle.obj_tree.specs.Pages.{values_of}
use Rattle.obj_tree.specs.Words.{labels_of, fields_of}
use Rattle.obj_tree.proofs.PrefixLemmas.{prefix_put}
use Rattle.obj_tree.proofs.PageLemmas.{insert_row}
use Rattle.obj_tree.proofs.WordLemmas.{put_beside, with_room}
use Rattle.obj_tree.proofs.page.Page.insert.Goals as goal

pub put_words-requires-clause-fields : goal.put_words-requires-clause-fields
put_words-requires-clause-fields c =
    let items = c.self.inside.rows.items in
    omega (arith, c.requires, ap length c.self.view_is, length-map items (λ p. p.value), ap length c.self.invariant.1, length-map items (λ p. fields_word p.value.obj.fields))

pub put_words-requires-clause-labels : goal.put_words-requires-clause-labels
put_words-requires-clause-labels c =
    let items = c.self.inside.rows.items in
    omega (arith, c.requires, ap length c.self.view_is, length-map items (λ p. p.value), ap length c.self.invariant.2, length-map items (λ p. labels_word p.value.obj.labels))

pub invariant_of-self-then-place-eq0 : goal.invariant_of-self-then-place-eq0
invariant_of-self-then-place-eq0 c =
    let items = c.self.inside.rows.items in
    let within : c.args.place ≤ length items = omega (arith, c.requires, ap length c.self.view_is, length-map items (λ p. p.value)) in
    let put : c.insert.new.self.items ≡ insert items c.args.place c.args.shown =
    with_room c.insert.result c.insert.new.self.items (insert c.reserve.new.self.items c.args.place c.args.shown) c.reserve.new.self.items c.insert.ensures.items (c.insert.ensures.succeeds (omega (arith, c.in_ok-reserve.ensures.ok)))
    ∙ ap (λ (rows : List _). insert rows c.args.place c.args.shown) c.reserve.ensures.items in (
      search rules,
      put_beside (λ p. fields_word p.value.obj.fields) items c.insert.new.self.items c.self.inside.fields c.put_words.new.fields c.args.place c.self.invariant.1 c.args.shown (fields_word c.deref.result.now.obj.fields)
          (ap (λ (r : RowData). fields_word r.obj.fields) c.deref.ensures) within put c.in_ok-put_words.ensures.ok.0,
      put_beside (λ p. labels_word p.value.obj.labels) items c.insert.new.self.items c.self.inside.labels c.put_words.new.labels c.args.place c.self.invariant.2 c.args.shown (labels_word c.deref.result.now.obj.labels)
          (ap (λ (r : RowData). labels_word r.obj.labels) c.deref.ensures) within put c.in_ok-put_words.ensures.ok.1,
    )

pub invariant_of-self-else-place-eq0 : goal.invariant_of-self-else-place-eq0
invariant_of-self-else-place-eq0 c =
    let items = c.self.inside.rows.items in
    let prefix = c.self.inside.prefix in
    let within : c.args.place ≤ length items = omega (arith, c.requires, ap length c.self.view_is, length-map items (λ p. p.value)) in
    let put : c.insert.new.self.items ≡ insert items c.args.place c.args.shown =
    with_room c.insert.result c.insert.new.self.items (insert c.reserve.new.self.items c.args.place c.args.shown) c.reserve.new.self.items c.insert.ensures.items (c.insert.ensures.succeeds (omega (arith, c.in_ok-reserve.ensures.ok)))
    ∙ ap (λ (rows : List _). insert rows c.args.place c.args.shown) c.reserve.ensures.items in
    let kept = prefix_put prefix (values_of items) c.args.place c.args.place c.args.shown.value (omega (arith, c.if-place-eq0.false)) (omega (arith, within, length-map items (λ p. p.value))) c.self.invariant.0 in (
      rw put (subst (λ (r : List RowData). IsPrefix prefix r) (sym (insert_row (λ p. p.value) items c.args.place c.args.shown within)) kept),
      put_beside (λ p. fields_word p.value.obj.fields) items c.insert.new.self.items c.self.inside.fields c.put_words.new.fields c.args.place c.self.invariant.1 c.args.shown (fields_word c.deref.result.now.obj.fields)
          (ap (λ (r : RowData). fields_word r.obj.fields) c.deref.ensures) within put c.in_ok-put_words.ensures.ok.0,
      put_beside (λ p. labels_word p.value.obj.labels) items c.insert.new.self.items c.self.inside.labels c.put_words.new.labels c.args.place c.self.invariant.2 c.args.shown (labels_word c.deref.result.now.obj.labels)
          (ap (λ (r : RowData). labels_word r.obj.labels) c.deref.ensures) within put c.in_ok-put_words.ensures.ok.1,
    )

pub returns-then-place-eq0-clause-ok : goal.returns-then-place-eq0-clause-ok
returns-then-place-eq0-clause-ok c =
    let items = c.self.inside.rows.items in
    let within : c.args.place ≤ length items = omega (arith, c.requires, ap length c.self.view_is, length-map items (λ p. p.value)) in
    let put : c.insert.new.self.items ≡ insert items c.args.place c.args.shown =
    with_room c.insert.result c.insert.new.self.items (insert c.reserve.new.self.items c.args.place c.args.shown) c.reserve.new.self.items c.insert.ensures.items (c.insert.ensures.succeeds (omega (arith, c.in_ok-reserve.ensures.ok)))
    ∙ ap (λ (rows : List _). insert rows c.args.place c.args.shown) c.reserve.ensures.items in
    rw (put, ← c.self.view_is) (insert_row (λ p. p.value) items c.args.place c.args.shown within)

pub returns-else-place-eq0-clause-ok : goal.returns-else-place-eq0-clause-ok
returns-else-place-eq0-clause-ok c =
    let items = c.self.inside.rows.items in
    let within : c.args.place ≤ length items = omega (arith, c.requires, ap length c.self.view_is, length-map items (λ p. p.value)) in
    let put : c.insert.new.self.items ≡ insert items c.args.place c.args.shown =
    with_room c.insert.result c.insert.new.self.items (insert c.reserve.new.self.items c.args.place c.args.shown) c.reserve.new.self.items c.insert.ensures.items (c.insert.ensures.succeeds (omega (arith, c.in_ok-reserve.ensures.ok)))
    ∙ ap (λ (rows : List _). insert rows c.args.place c.args.shown) c.reserve.ensures.items in
    rw (put, ← c.self.view_is) (insert_row (λ p. p.value) items c.args.place c.args.shown within)
