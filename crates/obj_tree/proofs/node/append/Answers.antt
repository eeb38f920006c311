use Rattle.std.proofs.Common.{◌≡◌, ℕ, suc, ◌+◌, ◌-◌, ◌<◌, ◌≤◌, ◌∷◌, ◌++◌, [], List, length, ap, sym, ◌∙◌, subst, arith, length-append}
use Rattle.std.proofs.lemmas.Bool.{true≢false}
use Rattle.std.proofs.lemmas.List.{length-map}
use Rattle.kube_meta.specs.Rows.{RowData}
use Rattle.obj_tree.specs.Pages.{values_of, joined, page_at, replaced, ArePagesOf}
use Rattle.obj_tree.proofs.PageLemmas.{indexed}
use Rattle.obj_tree.proofs.NodeLemmas.{append_apart, append_joined, on_ok}
use Rattle.obj_tree.proofs.node.append.Goals as goal

pub returns-then-fit : goal.returns-then-fit
returns-then-fit c =
    let items = c.share.new.copies.items in
    let xs = values_of c.args.pages.now.items in
    let ys = values_of c.args.more.now in
    let all : values_of items ≡ xs ++ ys = c.in_ok-share.ensures in
    let at = c.len-at.result in
    let n = at - 1 in
    let on : at ≡ suc n = omega (arith, c.if-at-eq0.false) in
    let long : length xs ≡ suc n = omega (arith, c.len-at.ensures, length-map c.args.pages.now.items (λ p. p.value), c.if-at-eq0.false) in
    let many : length items ≡ length xs + length ys = omega (arith, ap length all, length-append xs ys, length-map items (λ p. p.value)) in
    let inside : at < length items = omega (arith, many, long, on, c.if-at-len.false, c.len.ensures) in
    let before : n < length items = omega (arith, inside) in
    let first : page_at (xs ++ ys) n ≡ c.deref.result.now = sym (ap (λ (p : List (List RowData)). page_at p n) all) ∙ indexed (λ p. p.value) items n c.index.result.now before c.index.ensures ∙ sym c.deref.ensures in
    let second : page_at (xs ++ ys) (suc n) ≡ c.deref-2.result.now = sym (ap (λ (k : ℕ). page_at (xs ++ ys) k) on) ∙ sym (ap (λ (p : List (List RowData)). page_at p at) all) ∙ indexed (λ p. p.value) items at c.index-2.result.now inside c.index-2.ensures ∙ sym c.deref-2.ensures in
    let third : page_at (xs ++ ys) n ≡ c.deref-then-fit.result.now = sym (ap (λ (p : List (List RowData)). page_at p n) all) ∙ indexed (λ p. p.value) items n c.index-then-fit.result.now before c.index-then-fit.ensures ∙ sym c.deref-then-fit.ensures in
    let fourth : page_at (xs ++ ys) (suc n) ≡ c.deref-then-fit-2.result.now = sym (ap (λ (k : ℕ). page_at (xs ++ ys) k) on) ∙ sym (ap (λ (p : List (List RowData)). page_at p at) all) ∙ indexed (λ p. p.value) items at c.index-then-fit-2.result.now inside c.index-then-fit-2.ensures ∙ sym c.deref-then-fit-2.ensures in
    let few : length (page_at (xs ++ ys) n) + length (page_at (xs ++ ys) (suc n)) ≤ 32 = omega (arith, ap length first, ap length second, c.len-2.ensures, c.fit.ensures.0 c.if-fit.true) in
    let both : c.in_ok-both.both ≡ page_at (xs ++ ys) n ++ page_at (xs ++ ys) (suc n) =
    c.in_ok-both.ensures ∙ ap (λ (p : List RowData). p ++ c.deref-then-fit-2.result.now) (sym third) ∙ ap (λ (p : List RowData). page_at (xs ++ ys) n ++ p) (sym fourth) in
    let two : n + 2 ≡ suc (suc n) = omega arith in
    let now : replaced (values_of items) n (n + 2) (c.in_ok-both.both ∷ []) ≡ replaced (xs ++ ys) n (suc (suc n)) ((page_at (xs ++ ys) n ++ page_at (xs ++ ys) (suc n)) ∷ []) =
    ap (λ (p : List (List RowData)). replaced p n (n + 2) (c.in_ok-both.both ∷ [])) all
    ∙ ap (λ (k : ℕ). replaced (xs ++ ys) n k (c.in_ok-both.both ∷ [])) two
    ∙ ap (λ (p : List RowData). replaced (xs ++ ys) n (suc (suc n)) (p ∷ [])) both in
    let done = append_joined xs ys n long c.requires.sized c.requires.full c.requires.more_sized c.requires.more_full (omega (arith, inside, many, long, on)) few in
    on_ok c.put_joined.result _ _ (λ is. subst (λ (p : List (List RowData)). ArePagesOf p (joined xs ++ joined ys)) (sym (is ∙ now)) done) c.put_joined.ensures.ok

pub returns : goal.returns
returns c =
    let items = c.share.new.copies.items in
    let xs = values_of c.args.pages.now.items in
    let ys = values_of c.args.more.now in
    let all : values_of items ≡ xs ++ ys = c.in_ok-share.ensures in
    let at = c.len-at.result in
    let n = at - 1 in
    let on : at ≡ suc n = omega (arith, c.if-at-eq0.false) in
    let long : length xs ≡ suc n = omega (arith, c.len-at.ensures, length-map c.args.pages.now.items (λ p. p.value), c.if-at-eq0.false) in
    let many : length items ≡ length xs + length ys = omega (arith, ap length all, length-append xs ys, length-map items (λ p. p.value)) in
    let inside : at < length items = omega (arith, many, long, on, c.if-at-len.false, c.len.ensures) in
    let before : n < length items = omega (arith, inside) in
    let first : page_at (xs ++ ys) n ≡ c.deref.result.now = sym (ap (λ (p : List (List RowData)). page_at p n) all) ∙ indexed (λ p. p.value) items n c.index.result.now before c.index.ensures ∙ sym c.deref.ensures in
    let second : page_at (xs ++ ys) (suc n) ≡ c.deref-2.result.now = sym (ap (λ (k : ℕ). page_at (xs ++ ys) k) on) ∙ sym (ap (λ (p : List (List RowData)). page_at p at) all) ∙ indexed (λ p. p.value) items at c.index-2.result.now inside c.index-2.ensures ∙ sym c.deref-2.ensures in
    let few_not : length c.deref.result.now + c.len-2.result ≤ 32 → ⊥ = λ few. true≢false (sym (c.fit.ensures.1 few) ∙ c.if-fit.false) in
    let apart : 32 < length (page_at (xs ++ ys) n) + length (page_at (xs ++ ys) (suc n)) = omega (arith, few_not, ap length first, ap length second, c.len-2.ensures) in
    subst (λ (p : List (List RowData)). ArePagesOf p (joined xs ++ joined ys)) (sym all) (append_apart xs ys n long c.requires.sized c.requires.full c.requires.more_sized c.requires.more_full apart)
