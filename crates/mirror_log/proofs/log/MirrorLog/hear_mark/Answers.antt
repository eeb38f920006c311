use Rattle.std.proofs.Common.{◌∙◌, sym}
use Rattle.mirror_log.proofs.LineLemmas.{next_of, mark_good, mark_above}
use Rattle.mirror_log.proofs.log.MirrorLog.hear_mark.Goals as goal

pub commit_upto-requires-clause-onward : goal.commit_upto-requires-clause-onward
commit_upto-requires-clause-onward g c =
    let fine = mark_good g.N.LogFacts.base g.N.LogFacts.mirror c.self.inside.told c.self.inside.intake c.args.self.now c.args.at c.args.closing c.self.invariant c.self.view_is (sym c.mark_fault.ensures ∙ c.in-None.is) in
    mark_above c.args.self.now c.args.at (next_of g.N.LogFacts.base g.N.LogFacts.mirror c.self.inside.told c.self.inside.intake c.args.self.now c.self.invariant c.self.view_is) fine.1
