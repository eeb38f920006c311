use Rattle.select_all.specs.Streams.{TransitionData}
use Rattle.mirror_log.proofs.AloneLemmas.{heard_first, heard_both}
use Rattle.mirror_log.proofs.log.MirrorLog.hear_alone.Goals as goal

pub returns-in-Ok-clause-hears : goal.returns-in-Ok-clause-hears
returns-in-Ok-clause-hears g c =
    let t : TransitionData = record { kind = c.args.kind; obj = c.args.obj; rev = c.args.rev } in
    heard_both c.args.self.now t c.hear_event.new.self c.hear_mark.new.self c.hear_mark.result c.in-Ok.ensures.hears.0 c.in-Ok.ensures.hears.1 c.hear_mark.ensures.hears

pub returns-in-Err-clause-hears : goal.returns-in-Err-clause-hears
returns-in-Err-clause-hears g c =
    let t : TransitionData = record { kind = c.args.kind; obj = c.args.obj; rev = c.args.rev } in
    heard_first c.args.self.now t c.hear_event.new.self c.in-Err.why c.in-Err.ensures.hears
