use Rattle.std.proofs.Common.{◌∙◌, sym, arith}
use Rattle.select_all.specs.Streams.{TransitionData}
use Rattle.up_api.specs.Sections.{log_upto}
use Rattle.mirror_log.proofs.LineLemmas.{next_of, event_good, number, few, new_key, holds_kept, takes}
use Rattle.mirror_log.proofs.log.MirrorLog.hear_event.Goals as goal

pub overflow_sub-rev : goal.overflow_sub-rev
overflow_sub-rev g c =
    let t : TransitionData = record { kind = c.args.kind; obj = c.args.obj; rev = c.args.rev } in
    let fine = event_good g.N.LogFacts.base g.N.LogFacts.mirror c.self.inside.told c.self.inside.intake c.args.self.now t c.self.invariant c.self.view_is (sym (c.event_fault.ensures (log_upto g.N.LogFacts.base c.self.inside.told c.self.inside.intake.to) c.self.invariant.at) ∙ c.in-None.is) in
    omega (arith, fine.1.above)

pub keep-requires-clause-next : goal.keep-requires-clause-next
keep-requires-clause-next g c =
    let t : TransitionData = record { kind = c.args.kind; obj = c.args.obj; rev = c.args.rev } in
    let fine = event_good g.N.LogFacts.base g.N.LogFacts.mirror c.self.inside.told c.self.inside.intake c.args.self.now t c.self.invariant c.self.view_is (sym (c.event_fault.ensures (log_upto g.N.LogFacts.base c.self.inside.told c.self.inside.intake.to) c.self.invariant.at) ∙ c.in-None.is) in
    number g.N.LogFacts.base g.N.LogFacts.mirror c.self-2.inside.told c.args.self.now c.commit_upto.new.self c.self-2.inside.intake t (next_of g.N.LogFacts.base g.N.LogFacts.mirror c.self.inside.told c.self.inside.intake c.args.self.now c.self.invariant c.self.view_is) fine.1 c.in_ok-commit_upto.ensures.commits.0 c.in_ok-commit_upto.ensures.commits.1 c.self-2.invariant c.self-2.view_is

pub keep-requires-clause-few : goal.keep-requires-clause-few
keep-requires-clause-few g c =
    let t : TransitionData = record { kind = c.args.kind; obj = c.args.obj; rev = c.args.rev } in
    let fine = event_good g.N.LogFacts.base g.N.LogFacts.mirror c.self.inside.told c.self.inside.intake c.args.self.now t c.self.invariant c.self.view_is (sym (c.event_fault.ensures (log_upto g.N.LogFacts.base c.self.inside.told c.self.inside.intake.to) c.self.invariant.at) ∙ c.in-None.is) in
    few g.N.LogFacts.base g.N.LogFacts.mirror c.self-2.inside.told c.args.self.now c.commit_upto.new.self c.self-2.inside.intake t (next_of g.N.LogFacts.base g.N.LogFacts.mirror c.self.inside.told c.self.inside.intake c.args.self.now c.self.invariant c.self.view_is) fine.1 c.in_ok-commit_upto.ensures.commits.0 c.in_ok-commit_upto.ensures.commits.1 c.self-2.invariant c.self-2.view_is

pub keep-requires-clause-new_key : goal.keep-requires-clause-new_key
keep-requires-clause-new_key g c =
    let t : TransitionData = record { kind = c.args.kind; obj = c.args.obj; rev = c.args.rev } in
    let fine = event_good g.N.LogFacts.base g.N.LogFacts.mirror c.self.inside.told c.self.inside.intake c.args.self.now t c.self.invariant c.self.view_is (sym (c.event_fault.ensures (log_upto g.N.LogFacts.base c.self.inside.told c.self.inside.intake.to) c.self.invariant.at) ∙ c.in-None.is) in
    new_key g.N.LogFacts.base g.N.LogFacts.mirror c.self-2.inside.told c.args.self.now c.commit_upto.new.self c.self-2.inside.intake t (next_of g.N.LogFacts.base g.N.LogFacts.mirror c.self.inside.told c.self.inside.intake c.args.self.now c.self.invariant c.self.view_is) fine.1 c.in_ok-commit_upto.ensures.commits.0 c.in_ok-commit_upto.ensures.commits.1 c.self-2.invariant c.self-2.view_is

pub invariant_of-self-2 : goal.invariant_of-self-2
invariant_of-self-2 g c =
    let t : TransitionData = record { kind = c.args.kind; obj = c.args.obj; rev = c.args.rev } in
    let fine = event_good g.N.LogFacts.base g.N.LogFacts.mirror c.self.inside.told c.self.inside.intake c.args.self.now t c.self.invariant c.self.view_is (sym (c.event_fault.ensures (log_upto g.N.LogFacts.base c.self.inside.told c.self.inside.intake.to) c.self.invariant.at) ∙ c.in-None.is) in
    holds_kept g.N.LogFacts.base g.N.LogFacts.mirror c.self-2.inside.told c.args.self.now c.commit_upto.new.self c.self-2.inside.intake t (next_of g.N.LogFacts.base g.N.LogFacts.mirror c.self.inside.told c.self.inside.intake c.args.self.now c.self.invariant c.self.view_is) fine.1 c.in_ok-commit_upto.ensures.commits.0 c.in_ok-commit_upto.ensures.commits.1 c.self-2.invariant c.self-2.view_is c.keep.new.self c.in_ok-keep.ensures.kept c.in_ok-keep.ensures.at

pub returns-clause-hears : goal.returns-clause-hears
returns-clause-hears g c =
    let t : TransitionData = record { kind = c.args.kind; obj = c.args.obj; rev = c.args.rev } in
    let fine = event_good g.N.LogFacts.base g.N.LogFacts.mirror c.self.inside.told c.self.inside.intake c.args.self.now t c.self.invariant c.self.view_is (sym (c.event_fault.ensures (log_upto g.N.LogFacts.base c.self.inside.told c.self.inside.intake.to) c.self.invariant.at) ∙ c.in-None.is) in
    let kept = holds_kept g.N.LogFacts.base g.N.LogFacts.mirror c.self-2.inside.told c.args.self.now c.commit_upto.new.self c.self-2.inside.intake t (next_of g.N.LogFacts.base g.N.LogFacts.mirror c.self.inside.told c.self.inside.intake c.args.self.now c.self.invariant c.self.view_is) fine.1 c.in_ok-commit_upto.ensures.commits.0 c.in_ok-commit_upto.ensures.commits.1 c.self-2.invariant c.self-2.view_is c.keep.new.self c.in_ok-keep.ensures.kept c.in_ok-keep.ensures.at in
    (fine.0, takes g.N.LogFacts.base g.N.LogFacts.mirror c.self-2.inside.told c.args.self.now c.commit_upto.new.self c.self-2.inside.intake t (next_of g.N.LogFacts.base g.N.LogFacts.mirror c.self.inside.told c.self.inside.intake c.args.self.now c.self.invariant c.self.view_is) fine.1 c.in_ok-commit_upto.ensures.commits.0 c.in_ok-commit_upto.ensures.commits.1 c.self-2.invariant c.self-2.view_is c.keep.new.self c.in_ok-keep.ensures.kept, c.to.ensures.answer ∙ kept.at.end)
