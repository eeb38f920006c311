use Rattle.std.proofs.Common.{ap, Some}
use Rattle.api_errors.specs.Failures.{read_only}
use Rattle.sess_reply.proofs.SendLemmas.{told-sends}
use Rattle.sess_reply.proofs.writes.send_unoperated.Goals as goal

pub returns : goal.returns
returns g c =
    told-sends c.send_told.result _ c.args.close (Some c.in_ok-told.told) (Some read_only) (ap Some c.in_ok-told.ensures) c.send_told.ensures
