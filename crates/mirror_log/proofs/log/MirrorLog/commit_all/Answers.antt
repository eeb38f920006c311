use Rattle.std.proofs.Common.{◌≡◌, ℕ, ap, sym, ◌∙◌, subst}
use Rattle.rev_log.specs.Logs.{end_of, grown}
use Rattle.up_store.specs.Hearing.{AreAscending, AreHeard, filled}
use Rattle.mirror_log.specs.Intakes.{IsClear}
use Rattle.mirror_log.specs.MirrorLogs.{MirrorLogData}
use Rattle.mirror_log.proofs.RebaseLemmas.{added_end, holds_added, has_added}
use Rattle.mirror_log.proofs.log.MirrorLog.commit_all.Goals as goal

pub begin_anew-requires-clause-rising : goal.begin_anew-requires-clause-rising
begin_anew-requires-clause-rising g c =
    let end : c.to-to.result ≡ end_of c.args.self.now.log = c.to-to.ensures.answer ∙ c.self.invariant.at.end ∙ ap (λ (m : MirrorLogData). end_of m.log) c.self.view_is in
    subst (λ (n : ℕ). AreAscending n c.args.revisions.items c.args.base) (sym end) c.requires.rise

pub invariant_of-self-2 : goal.invariant_of-self-2
invariant_of-self-2 g c =
    let heard = subst (λ (n : ℕ). AreHeard g.N.LogFacts.base c.self.inside.told n c.args.revisions.items c.args.base c.begin_anew.new.told) c.to-to.ensures.answer c.in_ok-end.ensures.reply.1 in
    let cleared = subst (λ (n : ℕ). IsClear c.self.inside.intake n c.begin_anew-2.new.self) c.in_ok-end.ensures.reply.0 c.begin_anew-2.ensures.clears in
    let end = added_end g.N.LogFacts.base g.N.LogFacts.mirror c.self.inside.told c.begin_anew.new.told c.self.inside.intake c.shown.ensures.lawful c.in_ok-end.ensures.learns.extends c.self.invariant c.args.self.now c.self.view_is
    c.args.revisions.items c.args.base c.begin_anew-2.new.self heard c.in_ok-end.ensures.reply.2 c.requires.rise cleared in
    holds_added g.N.LogFacts.base g.N.LogFacts.mirror c.self.inside.told c.begin_anew.new.told c.self.inside.intake c.shown.ensures.lawful c.in_ok-end.ensures.learns.extends c.self.invariant c.args.self.now c.self.view_is
    c.args.revisions.items c.args.base c.begin_anew-2.new.self heard c.in_ok-end.ensures.reply.2 c.requires.rise cleared
    c.requires.last
    (c.begin_anew-2.ensures.at c.args.self.now.selection.resource (grown c.args.self.now.log (filled (end_of c.args.self.now.log) c.args.revisions.items c.args.base)) (c.in_ok-end.ensures.reply.0 ∙ end) c.requires.keys)

pub returns-clause-commits : goal.returns-clause-commits
returns-clause-commits g c =
    let heard = subst (λ (n : ℕ). AreHeard g.N.LogFacts.base c.self.inside.told n c.args.revisions.items c.args.base c.begin_anew.new.told) c.to-to.ensures.answer c.in_ok-end.ensures.reply.1 in
    let cleared = subst (λ (n : ℕ). IsClear c.self.inside.intake n c.begin_anew-2.new.self) c.in_ok-end.ensures.reply.0 c.begin_anew-2.ensures.clears in (
      has_added g.N.LogFacts.base g.N.LogFacts.mirror c.self.inside.told c.begin_anew.new.told c.self.inside.intake c.shown.ensures.lawful c.in_ok-end.ensures.learns.extends c.self.invariant c.args.self.now c.self.view_is
          c.args.revisions.items c.args.base c.begin_anew-2.new.self heard c.in_ok-end.ensures.reply.2 c.requires.rise cleared,
      c.in_ok-end.ensures.reply.0,
    )
