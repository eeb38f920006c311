use Rattle.std.proofs.Common.{Some, Ok, Err, subst}
use Rattle.rev_log.specs.Logs.{end_of}
use Rattle.watch_lines.specs.declared.peer_line.PeerLine.TheVariants as peer
use Rattle.cluster_link.specs.Telling.{HearsTold}
use Rattle.cluster_link.specs.declared.refusal.ClusterNo.{ClusterNo}
use Rattle.cluster_link.proofs.LineLemmas.{mark_heard, refused_as}
use Rattle.cluster_link.proofs.lines.hear_mark.Goals as goal

pub returns-in-Ok-clause-hears : goal.returns-in-Ok-clause-hears
returns-in-Ok-clause-hears g c = mark_heard c.args.log.now c.hear_mark.new.self c.args.at c.args.closing (Ok c.in-Ok.to) c.in-Ok.ensures.hears

pub returns-in-Err-clause-hears : goal.returns-in-Err-clause-hears
returns-in-Err-clause-hears g c =
    let old = c.args.log.now in
    let new = c.hear_mark.new.self in
    subst (λ (why : ClusterNo). HearsTold old (Some (peer.Bookmark c.args.at c.args.closing)) (Err why) new) (refused_as c.log_refusal.result c.in-Err.why c.to.result (end_of new.log) c.log_refusal.ensures c.to.ensures.answer)
    (mark_heard old new c.args.at c.args.closing (Err c.in-Err.why) c.in-Err.ensures.hears)
