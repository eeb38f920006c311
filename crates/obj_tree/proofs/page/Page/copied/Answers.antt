use Rattle.std.proofs.Common.{◌≡◌, ◌++◌, List, ap, sym, ◌∙◌, subst}
use Rattle.kube_meta.specs.Rows.{RowData}
use Rattle.kube_meta.specs.Words.{labels_word, fields_word}
use Rattle.obj_tree.specs.Prefixes.{IsPrefix}
use Rattle.obj_tree.specs.Pages.{values_of}
use Rattle.obj_tree.proofs.MarkLemmas.{words_alike}
use Rattle.obj_tree.proofs.page.Page.copied.Goals as goal

pub invariant_of-result : goal.invariant_of-result
invariant_of-result c =
    let old = c.self.inside.rows.items in
    let new = c.share.new.rows.items in
    let same : values_of old ≡ values_of new =
    sym (c.in_ok-share.ensures ∙ ap (λ (rows : List _). values_of rows ++ values_of c.deref.result.now) c.in_ok-rows.ensures.items ∙ ap values_of c.deref.ensures.value) in (
      subst (λ (rows : List RowData). IsPrefix c.self.inside.prefix rows) same c.self.invariant.0,
      c.in_ok-fields.ensures ∙ c.self.invariant.1 ∙ words_alike (λ p. p.value) (λ row. fields_word row.obj.fields) old new same,
      c.in_ok-labels.ensures ∙ c.self.invariant.2 ∙ words_alike (λ p. p.value) (λ row. labels_word row.obj.labels) old new same,
    )
