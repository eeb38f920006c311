-- At the log's end the last rows are what stands there, and elsewhere the floor's are gone on from.
use Rattle.std.proofs.Common.{arith}
use Rattle.rev_log.proofs.StateLemmas.{if_ok}
use Rattle.up_store.proofs.kept.Kept.old_state.Goals as goal

pub returns : goal.returns
returns c = if_ok c.state_after.result (λ old states log floor keeps later within.
    states log floor c.args.at keeps later within (c.place_of-count.ensures.place log floor keeps (omega (arith, keeps.within, later)) within)) c.state_after.ensures
