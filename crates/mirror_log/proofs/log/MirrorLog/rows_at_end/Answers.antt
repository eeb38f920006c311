use Rattle.std.proofs.Common.{ℕ, sym, ap, ◌∙◌, subst}
use Rattle.kube_meta.specs.declared.resources.Resource.{Resource}
use Rattle.rev_log.specs.States.{IsStateAt}
use Rattle.up_api.specs.Sections.{log_of}
use Rattle.mirror_log.specs.MirrorLogs.{MirrorLogData}
use Rattle.mirror_log.proofs.RebaseLemmas.{state_at_end}
use Rattle.mirror_log.proofs.log.MirrorLog.rows_at_end.Goals as goal

pub returns-clause-rows : goal.returns-clause-rows
returns-clause-rows g c =
    state_at_end g.N.LogFacts.base g.N.LogFacts.mirror c.self.inside.told c.list_at.new.told c.self.inside.intake c.shown.ensures.lawful c.in_ok-rows.ensures.learns.extends c.self.invariant c.args.self.now c.self.view_is
    c.in_ok-rows.rows.items (subst (λ (n : ℕ). IsStateAt (log_of g.N.LogFacts.base c.list_at.new.told) c.self.inside.intake.selection.resource n c.in_ok-rows.rows.items) c.to-to.ensures.answer
    (subst (λ (r : Resource). IsStateAt (log_of g.N.LogFacts.base c.list_at.new.told) r c.to-to.result c.in_ok-rows.rows.items)
    (c.resource-of.ensures ∙ ap (λ (m : MirrorLogData). m.selection.resource) (sym c.self.view_is)) c.in_ok-rows.ensures.rows))
