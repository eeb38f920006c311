use Rattle.std.proofs.Common.{ap, Some}
use Rattle.api_errors.specs.Failures.{bad_upgrade}
use Rattle.sess_reply.proofs.SendLemmas.{told-sends}
use Rattle.sess_reply.proofs.refusals.send_bad_upgrade.Goals as goal

pub returns : goal.returns
returns g c =
    λ ask. told-sends c.send_told.result _ c.args.close (Some c.in_ok-told.told) (Some bad_upgrade) (ap Some c.in_ok-told.ensures) c.send_told.ensures
