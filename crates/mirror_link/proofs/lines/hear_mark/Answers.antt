use Rattle.std.proofs.Common.{Some, Ok, Err, refl, subst}
use Rattle.mirror_log.specs.Faults.{mark_fault}
use Rattle.mirror_link.specs.Lines.{HearsRead}
use Rattle.mirror_link.proofs.LineLemmas.{as_view, heard_as, open_mark}
use Rattle.mirror_link.specs.declared.link_refusal.LinkNo.{LinkNo}
use Rattle.rev_log.specs.Logs.{end_of}
use Rattle.watch_lines.specs.declared.peer_line.PeerLine.TheVariants as peer
use Rattle.watch_rules.specs.Bodies.{Bookmark}
use Rattle.mirror_link.proofs.lines.hear_mark.Goals as goal

pub returns-in-Ok-clause-hears : goal.returns-in-Ok-clause-hears
returns-in-Ok-clause-hears g c =
    let old = c.args.log.now in
    heard_as old c.hear_mark.new.self (Bookmark c.args.at) (Some (peer.Bookmark c.args.at c.args.closing)) (mark_fault old.most_gap (end_of old.log) old.kept c.args.at c.args.closing) (Ok c.in-Ok.to) refl
    (open_mark old.most_gap (end_of old.log) old.kept c.args.at c.args.closing) c.in-Ok.ensures.hears

pub returns-in-Err-clause-hears : goal.returns-in-Err-clause-hears
returns-in-Err-clause-hears g c =
    let old = c.args.log.now in
    let new = c.hear_mark.new.self in
    subst (λ (why : LinkNo). HearsRead old (Some (peer.Bookmark c.args.at c.args.closing)) (Err why) new) (as_view c.hearing_refusal.result c.in-Err.why c.to.result (end_of c.hear_mark.new.self.log) c.hearing_refusal.ensures c.to.ensures.answer)
    (heard_as old new (Bookmark c.args.at) (Some (peer.Bookmark c.args.at c.args.closing)) (mark_fault old.most_gap (end_of old.log) old.kept c.args.at c.args.closing) (Err c.in-Err.why) refl
    (open_mark old.most_gap (end_of old.log) old.kept c.args.at c.args.closing) c.in-Err.ensures.hears)
