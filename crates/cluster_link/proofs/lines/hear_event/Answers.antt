use Rattle.std.proofs.Common.{Some, Ok, Err, refl, subst}
use Rattle.mirror_log.specs.Faults.{event_fault}
use Rattle.rev_log.specs.Logs.{end_of}
use Rattle.select_all.specs.Streams.{TransitionData}
use Rattle.watch_lines.specs.declared.peer_line.PeerLine.TheVariants as peer
use Rattle.cluster_link.specs.Telling.{HearsTold}
use Rattle.cluster_link.specs.declared.refusal.ClusterNo.{ClusterNo}
use Rattle.cluster_link.proofs.LineLemmas.{event_heard, refused_as}
use Rattle.cluster_link.proofs.lines.hear_event.Goals as goal

pub returns-in-Ok-clause-hears : goal.returns-in-Ok-clause-hears
returns-in-Ok-clause-hears g c =
    let t : TransitionData = record { kind = c.args.kind; obj = c.args.obj; rev = c.args.rev } in
    let old = c.args.log.now in
    event_heard old c.hear_alone.new.self t (event_fault old.selection old.most_gap old.log old.kept t) (Ok c.in-Ok.to) refl c.in-Ok.ensures.hears

pub returns-in-Err-clause-hears : goal.returns-in-Err-clause-hears
returns-in-Err-clause-hears g c =
    let t : TransitionData = record { kind = c.args.kind; obj = c.args.obj; rev = c.args.rev } in
    let old = c.args.log.now in
    let new = c.hear_alone.new.self in
    subst (λ (why : ClusterNo). HearsTold old (Some (peer.Told c.args.kind c.args.obj c.args.rev)) (Err why) new) (refused_as c.log_refusal.result c.in-Err.why c.to.result (end_of new.log) c.log_refusal.ensures c.to.ensures.answer)
    (event_heard old new t (event_fault old.selection old.most_gap old.log old.kept t) (Err c.in-Err.why) refl c.in-Err.ensures.hears)
