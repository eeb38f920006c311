-- Quiet revisions are passed over, one more revision is added, and what is left may follow it.
use Rattle.std.proofs.Common.{◌≡◌, ◌+◌, ◌-◌, ◌∷◌, ◌++◌, ◌∙◌, refl, ap, sym, subst, arith, length}
use Rattle.rev_front.specs.Passes.{credited, quiets, revision}
use Rattle.rev_log.specs.Logs.{quiet_at}
use Rattle.up_store.specs.Hearing.{AreAscending, filled}
use Rattle.up_store.proofs.HearLemmas.{ascending-end, credited-thrice, reached-quiet, reached-more, log-more}
use Rattle.up_store.proofs.committing.put_all.Goals as goal

pub loop-revision-init : goal.loop-revision-init
loop-revision-init g c =
    let same : c.into_iter-revision-iterator.result.rest.items ≡ c.args.revisions.items = c.into_iter-revision-iterator.ensures.into_iter_gives.0 in
    record {
      rising = subst (λ xs. AreAscending (revision c.args.pen.now) xs c.args.to) (sym same) c.requires.rising;
      room = omega (arith, c.requires.room, ap length same);
      log = ap (λ xs. record c.args.pen.now { log = c.args.pen.now.log ++ filled (revision c.args.pen.now) xs c.args.to }) same;
      author = refl;
      keeps = c.requires.keeps;
    }

pub pass_over-requires-clause-last : goal.pass_over-requires-clause-last
pass_over-requires-clause-last g c =
    let rising = subst (λ xs. AreAscending (revision c.loop-revision.pen) xs c.args.to) c.in-Some.ensures.steps.0 c.loop-revision.invariant.rising in
    let number : c.behind-revision.inside.rev ≡ c.in-Some.revision.rev = ap (λ r. r.rev) (c.behind-revision.view_is ∙ c.get.ensures) in
    omega (arith, number, ascending-end c.in-Some.revision.rev c.next.new.self.rest.items c.args.to rising.2, c.requires.last)

pub put-requires-clause-last : goal.put-requires-clause-last
put-requires-clause-last g c =
    let rising = subst (λ xs. AreAscending (revision c.loop-revision.pen) xs c.args.to) c.in-Some.ensures.steps.0 c.loop-revision.invariant.rising in
    let number : c.behind-revision.inside.rev ≡ c.in-Some.revision.rev = ap (λ r. r.rev) (c.behind-revision.view_is ∙ c.get.ensures) in
    let reached = reached-quiet c.loop-revision.pen c.pass_over.new.pen (c.behind-revision.inside.rev - 1) c.pass_over.ensures.log (omega (arith, number, rising.0)) in
    omega (arith, reached, number, rising.0, ascending-end c.in-Some.revision.rev c.next.new.self.rest.items c.args.to rising.2, c.requires.last)

pub put-requires-clause-fits : goal.put-requires-clause-fits
put-requires-clause-fits g c =
    let rising = subst (λ xs. AreAscending (revision c.loop-revision.pen) xs c.args.to) c.in-Some.ensures.steps.0 c.loop-revision.invariant.rising in
    let number : c.behind-revision.inside.rev ≡ c.in-Some.revision.rev = ap (λ r. r.rev) (c.behind-revision.view_is ∙ c.get.ensures) in
    let reached = reached-quiet c.loop-revision.pen c.pass_over.new.pen (c.behind-revision.inside.rev - 1) c.pass_over.ensures.log (omega (arith, number, rising.0)) in
    (omega (arith, reached, number, rising.0), rising.1)

pub put-requires-clause-room : goal.put-requires-clause-room
put-requires-clause-room g c = c.pass_over.ensures.room 1 (omega (arith, c.loop-revision.invariant.room, ap length c.in-Some.ensures.steps.0))

pub loop-revision-preserved : goal.loop-revision-preserved
loop-revision-preserved g c =
    let first : c.loop-revision.revision-iterator.rest.items ≡ c.in-Some.revision ∷ c.next.new.self.rest.items = c.in-Some.ensures.steps.0 in
    let rising = subst (λ xs. AreAscending (revision c.loop-revision.pen) xs c.args.to) first c.loop-revision.invariant.rising in
    let number : c.behind-revision.inside.rev ≡ c.in-Some.revision.rev = ap (λ r. r.rev) (c.behind-revision.view_is ∙ c.get.ensures) in
    let reached = reached-quiet c.loop-revision.pen c.pass_over.new.pen (c.behind-revision.inside.rev - 1) c.pass_over.ensures.log (omega (arith, number, rising.0)) in
    let next : revision c.put.new.pen ≡ c.in-Some.revision.rev = omega (arith, reached-more c.pass_over.new.pen c.put.new.pen c.in-Some.revision c.put.ensures.log, reached, number, rising.0) in
    let passed = subst (λ n. c.pass_over.new.pen ≡ record c.loop-revision.pen { log = c.loop-revision.pen.log ++ quiets quiet_at (revision c.loop-revision.pen) (n - 1 - revision c.loop-revision.pen) }) number c.pass_over.ensures.log in
    record {
      rising = subst (λ n. AreAscending n c.next.new.self.rest.items c.args.to) (sym next) rising.2;
      room = c.put.ensures.room (length c.next.new.self.rest.items) (c.pass_over.ensures.room (length c.next.new.self.rest.items + 1) (omega (arith, c.loop-revision.invariant.room, ap length first)));
      log = log-more c.loop-revision.pen c.pass_over.new.pen c.put.new.pen (record c.args.pen.now { log = c.args.pen.now.log ++ filled (revision c.args.pen.now) c.args.revisions.items c.args.to })
          c.in-Some.revision c.next.new.self.rest.items c.loop-revision.revision-iterator.rest.items c.args.to passed c.put.ensures.log next first c.loop-revision.invariant.log;
      author = ap (λ a. credited a (c.args.to - revision c.put.new.pen)) (c.put.ensures.author ∙ ap (λ a. credited a 1) c.pass_over.ensures.author)
          ∙ credited-thrice c.loop-revision.author (c.behind-revision.inside.rev - 1 - revision c.loop-revision.pen) 1 (c.args.to - revision c.put.new.pen) (c.args.to - revision c.loop-revision.pen)
          (omega (arith, next, number, rising.0, ascending-end c.in-Some.revision.rev c.next.new.self.rest.items c.args.to rising.2))
          ∙ c.loop-revision.invariant.author;
      keeps = c.put.ensures.keeps;
    }
