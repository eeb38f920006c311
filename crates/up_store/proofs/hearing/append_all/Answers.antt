-- The revisions are added as they are, each behind a shared pointer.
use Rattle.std.proofs.Common.{◌≡◌, ◌-◌, refl, List, ◌++◌, sym, ap, ◌∙◌, arith, subst}
use Rattle.rev_front.specs.Passes.{credited, revision}
use Rattle.rev_log.specs.Changes.{RevisionData}
use Rattle.up_store.specs.Hearing.{AreAscending, filled}
use Rattle.up_store.proofs.hearing.append_all.Goals as goal

pub put_all-requires-clause-rising : goal.put_all-requires-clause-rising
put_all-requires-clause-rising g c =
    let end : c.args.from ≡ revision c.args.pen.now = omega (arith, c.revision-at.ensures.answer, c.if-from-at.false) in
    subst (λ xs. AreAscending (revision c.args.pen.now) xs c.args.to) (sym c.in_ok-entries.ensures) (subst (λ n. AreAscending n c.args.revisions.items c.args.to) end c.requires.rising)

pub returns-clause-answer : goal.returns-clause-answer
returns-clause-answer g c =
    let end : c.args.from ≡ revision c.args.pen.now = omega (arith, c.revision-at.ensures.answer, c.if-from-at.false) in (
      end,
      refl,
      c.put_all.ensures.log ∙ ap (λ (xs : List RevisionData). record c.args.pen.now { log = c.args.pen.now.log ++ filled (revision c.args.pen.now) xs c.args.to }) c.in_ok-entries.ensures
          ∙ ap (λ n. record c.args.pen.now { log = c.args.pen.now.log ++ filled n c.args.revisions.items c.args.to }) (sym end),
    )

pub returns-clause-author : goal.returns-clause-author
returns-clause-author g c =
    let end : c.args.from ≡ revision c.args.pen.now = omega (arith, c.revision-at.ensures.answer, c.if-from-at.false) in
    c.put_all.ensures.author ∙ ap (λ n. credited c.args.author.now (c.args.to - n)) (sym end)
