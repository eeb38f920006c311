use Rattle.std.proofs.Common.{ap, ◌∙◌}
use Rattle.kube_meta.specs.Rows.{row_with}
use Rattle.rev_log.specs.Logs.{end_of}
use Rattle.rev_log.specs.States.{row_at}
use Rattle.up_store.specs.Transactions.{target_of}
use Rattle.up_store.proofs.KeptLemmas.{row-kept}
use Rattle.up_store.proofs.kept.Kept.row_before.Goals as goal

pub returns : goal.returns
returns c = λ log floor keeps.
    c.row_in.ensures ∙ ap (λ rows. row_with rows c.key_of.result.now) c.of.ensures ∙ row-kept log floor c.args.self.now c.resource_of.result
    c.key_of.result.now c.requires keeps
    ∙ ap (λ r. row_at log r (end_of log) c.key_of.result.now) c.resource_of.ensures ∙ ap (row_at log (target_of c.args.ask.now).0 (end_of log)) c.key_of.ensures
