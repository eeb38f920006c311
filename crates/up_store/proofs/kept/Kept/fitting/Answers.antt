-- Each of those that don't fit is one less, until the others fit.
use Rattle.std.proofs.Common.{◌≡◌, ◌<◌, ◌+◌, ◌-◌, ◌∷◌, List, length, drop, max, min, sum_by, refl, sym, ap, ◌∙◌, arith}
use Rattle.std.proofs.lemmas.List.{drop_more, drop_all, length-drop}
use Rattle.std.proofs.lemmas.List.Sums.{sum_by-cons}
use Rattle.rev_log.specs.Changes.{RevisionData}
use Rattle.up_store.specs.Kept.{carried, fitting}
use Rattle.up_store.proofs.ByteLemmas.{fits-all, fits-next}
use Rattle.up_store.proofs.kept.Kept.fitting.Goals as goal

pub loop-i-init : goal.loop-i-init
loop-i-init c = λ whole. (whole, omega arith)

pub loop-i-preserved : goal.loop-i-preserved
loop-i-preserved c = λ whole.
    let items : List RevisionData = c.args.self.now.revisions.items in
    let was = c.loop-i.invariant whole in
    let inside : c.loop-i.i < length items = omega (arith, c.args.self.now.revisions.ok.0, c.len-count.ensures, c.loop-i-test.true) in
    let rest : List RevisionData = drop (c.loop-i.i + 1) items in
    let here : drop c.loop-i.i items ≡ c.index.result.now ∷ rest = drop_more items c.loop-i.i c.index.result.now inside ∙ ap (λ r. r ∷ rest) (sym c.index.ensures) in
    let one : c.carried.result ≡ carried c.index.result.now = c.carried.ensures ∙ ap carried c.get.ensures in
    let sum = ap (sum_by carried) here ∙ sum_by-cons carried c.index.result.now rest in
    let next = ap (fitting c.args.bytes) here ∙ fits-next c.args.bytes c.index.result.now rest (omega (arith, was.0, ap (sum_by carried) here, c.if-left-bytes.false)) in (
      omega (arith, was.0, sum, one, c.saturating_sub-left.ensures),
      omega (arith, was.1, next),
    )

pub returns-then-left-bytes : goal.returns-then-left-bytes
returns-then-left-bytes c = λ whole.
    let items : List RevisionData = c.args.self.now.revisions.items in
    let was = c.loop-i.invariant whole in
    omega (arith, was.1, fits-all c.args.bytes (drop c.loop-i.i items) (omega (arith, was.0, c.if-left-bytes.true)), length-drop c.loop-i.i items, c.args.self.now.revisions.ok.0, c.len-count.ensures, c.loop-i-test.true)

pub returns : goal.returns
returns c = λ whole.
    let items : List RevisionData = c.args.self.now.revisions.items in
    let none = ap (fitting c.args.bytes) (drop_all c.loop-i.i items (omega (arith, c.args.self.now.revisions.ok.0, c.len-count.ensures, c.loop-i-test.false))) in
    omega (arith, (c.loop-i.invariant whole).1, none, c.loop-i-test.false, c.loop-i.auto.i-end, c.min.ensures)
