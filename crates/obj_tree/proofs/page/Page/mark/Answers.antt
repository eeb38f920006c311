use Rattle.std.proofs.Common.{ℕ, List, sym, ◌∙◌, subst, arith}
use Rattle.std.proofs.lemmas.List.{length-map}
use Rattle.kube_meta.specs.Rows.{RowData}
use Rattle.kube_meta.specs.Words.{fields_word}
use Rattle.obj_tree.specs.Marks.{IsMark}
use Rattle.obj_tree.specs.Words.{HaveFours}
use Rattle.obj_tree.proofs.MarkLemmas.{words_told}
use Rattle.obj_tree.proofs.page.Page.mark.Goals as goal

pub returns : goal.returns
returns c =
    let items = c.self.inside.rows.items in
    subst (λ (rows : List RowData). IsMark (record { len = c.len.result; fours = c.fours.result.now }) rows) c.self.view_is
    (record {
      rows = omega (arith, c.len.ensures, length-map items (λ p. p.value));
      fields = subst (λ (w : List ℕ). HaveFours c.fours.result.now w) (c.self.invariant.1 ∙ sym (words_told (λ p. p.value) (λ row. fields_word row.obj.fields) items)) c.fours.ensures;
    })
