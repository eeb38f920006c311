-- All of them are added, or none is.
use Rattle.std.proofs.Common.{ℕ, ◌≡◌, ◌+◌, List, [], ◌∷◌, Err, subst}
use Rattle.std.proofs.lemmas.Result.{err_from_is_err_and}
use Rattle.rev_log.specs.Changes.{RevisionData}
use Rattle.up_api.specs.Sections.{log_upto}
use Rattle.up_store.specs.Hearing.{AreHeard, IsFollowReply}
use Rattle.mirror_log.proofs.CommitLemmas.{refused, holds_past, moves_past, end_past}
use Rattle.mirror_log.proofs.log.MirrorLog.commit_past.Goals as goal

pub returns-in_err-follow-clause-commits : goal.returns-in_err-follow-clause-commits
returns-in_err-follow-clause-commits g c =
    let e = err_from_is_err_and c.from_residual-in_err-follow.result c.from_residual-in_err-follow.ensures.1 in
    let reply : IsFollowReply g.N.LogFacts.base c.self.inside.told c.self.inside.intake.to (c.in_ok-revision.field-0 ∷ []) c.args.upto (Err c.in_err-follow.field-0.0) c.follow.new.told =
    subst (λ (l : List RevisionData). IsFollowReply g.N.LogFacts.base c.self.inside.told c.self.inside.intake.to l c.args.upto (Err c.in_err-follow.field-0.0) c.follow.new.told) c.in_ok-revisions.ensures
    (subst (λ (n : ℕ). IsFollowReply g.N.LogFacts.base c.self.inside.told n c.in_ok-revisions.revisions.items c.args.upto (Err c.in_err-follow.field-0.0) c.follow.new.told) c.to-to.ensures.answer c.in_err-follow.ensures.reply) in
    rw (e.1, e.2)
    (refused g.N.LogFacts.base g.N.LogFacts.mirror c.self.inside.told c.follow.new.told c.self.inside.intake c.shown.ensures.lawful c.in_err-follow.ensures.learns.extends
    c.self.invariant c.args.self.now c.self.view_is c.args.upto c.requires.above c.in_ok-revision.field-0 c.in_ok-revision.ensures
    c.in_err-follow.field-0.0 reply)

pub invariant_of-self-2 : goal.invariant_of-self-2
invariant_of-self-2 g c =
    let heard : AreHeard g.N.LogFacts.base c.self.inside.told c.self.inside.intake.to (c.in_ok-revision.field-0 ∷ []) c.args.upto c.follow.new.told =
    subst (λ (l : List RevisionData). AreHeard g.N.LogFacts.base c.self.inside.told c.self.inside.intake.to l c.args.upto c.follow.new.told) c.in_ok-revisions.ensures
    (subst (λ (n : ℕ). AreHeard g.N.LogFacts.base c.self.inside.told n c.in_ok-revisions.revisions.items c.args.upto c.follow.new.told) c.to-to.ensures.answer c.in_ok-follow.ensures.reply.1) in
    holds_past g.N.LogFacts.base g.N.LogFacts.mirror c.self.inside.told c.follow.new.told c.self.inside.intake c.shown.ensures.lawful c.in_ok-follow.ensures.learns.extends
    c.self.invariant c.args.self.now c.self.view_is c.args.upto c.requires.above c.in_ok-revision.field-0 c.in_ok-revision.ensures
    c.commit.new.self heard c.commit.ensures.moves c.requires.last
    (c.commit.ensures.at (log_upto g.N.LogFacts.base c.self.inside.told c.self.inside.intake.to) c.in_ok-revision.field-0 c.self.invariant.at c.in_ok-revision.ensures)

pub returns-clause-commits : goal.returns-clause-commits
returns-clause-commits g c =
    let heard : AreHeard g.N.LogFacts.base c.self.inside.told c.self.inside.intake.to (c.in_ok-revision.field-0 ∷ []) c.args.upto c.follow.new.told =
    subst (λ (l : List RevisionData). AreHeard g.N.LogFacts.base c.self.inside.told c.self.inside.intake.to l c.args.upto c.follow.new.told) c.in_ok-revisions.ensures
    (subst (λ (n : ℕ). AreHeard g.N.LogFacts.base c.self.inside.told n c.in_ok-revisions.revisions.items c.args.upto c.follow.new.told) c.to-to.ensures.answer c.in_ok-follow.ensures.reply.1) in (
      moves_past g.N.LogFacts.base g.N.LogFacts.mirror c.self.inside.told c.follow.new.told c.self.inside.intake c.shown.ensures.lawful c.in_ok-follow.ensures.learns.extends
          c.self.invariant c.args.self.now c.self.view_is c.args.upto c.requires.above c.in_ok-revision.field-0 c.in_ok-revision.ensures
          c.commit.new.self heard c.commit.ensures.moves,
      end_past g.N.LogFacts.base g.N.LogFacts.mirror c.self.inside.told c.follow.new.told c.self.inside.intake c.shown.ensures.lawful c.in_ok-follow.ensures.learns.extends
          c.self.invariant c.args.self.now c.self.view_is c.args.upto c.requires.above c.in_ok-revision.field-0 c.in_ok-revision.ensures
          c.commit.new.self heard c.commit.ensures.moves,
    )
