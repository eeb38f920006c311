use Rattle.std.proofs.Common.{◌≡◌, List, [], ◌∷◌, ◌++◌, map, sym, ◌∙◌, subst, arith}
use Rattle.std.proofs.lemmas.List.{length-map}
use Rattle.kube_meta.specs.Rows.{RowData}
use Rattle.obj_tree.specs.Pages.{values_of, joined, ArePagesOf}
use Rattle.obj_tree.proofs.FillLemmas.{all_filled, with_last, ok_follows}
use Rattle.obj_tree.proofs.filled.filled_pages.Goals as goal

pub returns-then-len-eq0 : goal.returns-then-len-eq0
returns-then-len-eq0 c =
    let parts = map (λ part. values_of part.items) c.cut.new.parts.items in
    let last = values_of c.in_ok-last.last.items in
    let rows = values_of c.args.rows.items in
    let all : joined parts ++ last ≡ rows = rw c.new-parts.ensures.items at c.in_ok-last.ensures.rows in
    let done = all_filled parts last rows c.in_ok-last.ensures.filled (omega (arith, length-map c.in_ok-last.last.items (λ p. p.value), c.len.ensures, c.if-len-eq0.true)) all in
    ok_follows c.paged.result _ _ (λ pages is. rw is done) c.paged.ensures

pub returns : goal.returns
returns c =
    let parts = map (λ part. values_of part.items) c.cut.new.parts.items in
    let last = values_of c.in_ok-last.last.items in
    let rows = values_of c.args.rows.items in
    let many = length-map c.in_ok-last.last.items (λ p. p.value) in
    let all : joined parts ++ last ≡ rows = rw c.new-parts.ensures.items at c.in_ok-last.ensures.rows in
    let done = with_last parts last rows c.in_ok-last.ensures.filled (omega (arith, many, c.len.ensures, c.if-len-eq0.false)) (omega (arith, many, c.in_ok-last.ensures.few)) all in
    let more : map (λ part. values_of part.items) c.add.new.parts.items ≡ parts ++ (last ∷ []) = c.in_ok-add.ensures in
    ok_follows c.paged-2.result _ _ (λ pages is. subst (λ (p : List (List RowData)). ArePagesOf p rows) (sym (is ∙ more)) done) c.paged-2.ensures
