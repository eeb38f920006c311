use Rattle.std.proofs.Common.{◌≡◌, List, take, drop, ap, sym, ◌∙◌, subst, arith}
use Rattle.std.proofs.lemmas.List.{take-map}
use Rattle.kube_meta.specs.Rows.{RowData}
use Rattle.kube_meta.specs.Words.{labels_word, fields_word}
use Rattle.obj_tree.specs.Prefixes.{IsPrefix}
use Rattle.obj_tree.specs.Pages.{values_of}
use Rattle.obj_tree.specs.Words.{labels_of, fields_of}
use Rattle.obj_tree.proofs.PageLemmas.{map_drop}
use Rattle.obj_tree.proofs.PrefixLemmas.{prefix_front}
use Rattle.obj_tree.proofs.WordLemmas.{cut_beside}
use Rattle.obj_tree.proofs.page.Page.cut_back.Goals as goal

-- the words are those of the rows that go
pub made-requires-clause-fields : goal.made-requires-clause-fields
made-requires-clause-fields c =
    c.in_ok-fields.ensures ∙ ap fields_of (c.split_at.ensures.back ∙ ap (drop 32) c.deref.ensures.value ∙ sym c.in_ok-rows.ensures.tail)

pub made-requires-clause-labels : goal.made-requires-clause-labels
made-requires-clause-labels c =
    c.in_ok-labels.ensures ∙ ap labels_of (c.split_at.ensures.back ∙ ap (drop 32) c.deref.ensures.value ∙ sym c.in_ok-rows.ensures.tail)

-- and what is left is the front of all
pub invariant_of-self-2 : goal.invariant_of-self-2
invariant_of-self-2 c =
    let items = c.self.inside.rows.items in
    let prefix = c.self.inside.prefix in
    let kept : c.shrink_to_fit.new.self.items ≡ take 32 items = c.shrink_to_fit.ensures.items ∙ c.in_ok-rows.ensures.items in (
      rw kept (subst (λ (r : List RowData). IsPrefix prefix r) (take-map (λ p. p.value) 32 items) (prefix_front prefix (values_of items) 32 (omega arith) c.self.invariant.0)),
      cut_beside (λ p. fields_word p.value.obj.fields) items c.shrink_to_fit.new.self.items c.self.inside.fields c.cut.new.self 32 c.self.invariant.1 kept c.cut.ensures,
      cut_beside (λ p. labels_word p.value.obj.labels) items c.shrink_to_fit.new.self.items c.self.inside.labels c.cut-2.new.self 32 c.self.invariant.2 kept c.cut-2.ensures,
    )

pub returns-clause-ok : goal.returns-clause-ok
returns-clause-ok c =
    let items = c.self.inside.rows.items in
    ap values_of (c.shrink_to_fit.ensures.items ∙ c.in_ok-rows.ensures.items) ∙ sym (take-map (λ p. p.value) 32 items) ∙ ap (take 32) c.self.view_is

pub returns-clause-back : goal.returns-clause-back
returns-clause-back c =
    let items = c.self.inside.rows.items in
    c.made.ensures ∙ ap values_of c.in_ok-rows.ensures.tail ∙ map_drop (λ p. p.value) items 32 ∙ ap (drop 32) c.self.view_is
