-- One more revision, and at the end they are all.
use Rattle.std.proofs.Common.{◌<◌, ◌∷◌, [], ◌++◌, length, take, drop, ap, ◌∙◌, arith}
use Rattle.up_store.proofs.PollLemmas.{taken-more}
use Rattle.up_store.proofs.kept.Kept.copied.Goals as goal

pub loop-i-preserved : goal.loop-i-preserved
loop-i-preserved c =
    let inside : c.loop-i.i < length c.args.self.now.revisions.items = omega (arith, c.args.self.now.revisions.ok.0, c.loop-i-test.true, c.requires.inside) in
    c.in_ok-push.ensures.items ∙ ap (λ xs. xs ++ c.in_ok-again.field-0 ∷ []) c.loop-i.invariant
    ∙ ap (λ r. drop c.args.start (take c.loop-i.i c.args.self.now.revisions.items) ++ r ∷ []) c.in_ok-again.ensures
    ∙ taken-more c.args.start c.loop-i.i c.args.self.now.revisions.items c.index.result.now (omega arith) inside c.index.ensures

pub returns : goal.returns
returns c = c.loop-i.invariant
    ∙ ap (λ n. drop c.args.start (take n c.args.self.now.revisions.items)) {x = c.loop-i.i} {y = c.args.end} (omega (arith, c.loop-i-test.false, c.loop-i.auto.i-end, c.requires.order))
