use Rattle.std.proofs.Common.{Some, Ok, Err, refl, subst}
use Rattle.mirror_log.specs.Faults.{event_fault}
use Rattle.mirror_link.specs.Lines.{HearsRead}
use Rattle.mirror_link.proofs.LineLemmas.{as_view, heard_as}
use Rattle.mirror_link.specs.declared.link_refusal.LinkNo.{LinkNo}
use Rattle.rev_log.specs.Logs.{end_of}
use Rattle.select_all.specs.Streams.{TransitionData}
use Rattle.watch_lines.specs.declared.peer_line.PeerLine.TheVariants as peer
use Rattle.watch_rules.specs.Bodies.{Told}
use Rattle.mirror_link.proofs.lines.hear_event.Goals as goal

pub returns-in-Ok-clause-hears : goal.returns-in-Ok-clause-hears
returns-in-Ok-clause-hears g c =
    let t : TransitionData = record { kind = c.args.kind; obj = c.args.obj; rev = c.args.rev } in
    let old = c.args.log.now in
    heard_as old c.hear_event.new.self (Told t) (Some (peer.Told c.args.kind c.args.obj c.args.rev)) (event_fault old.selection old.most_gap old.log old.kept t) (Ok c.in-Ok.to) refl (λ none. refl) c.in-Ok.ensures.hears

pub returns-in-Err-clause-hears : goal.returns-in-Err-clause-hears
returns-in-Err-clause-hears g c =
    let t : TransitionData = record { kind = c.args.kind; obj = c.args.obj; rev = c.args.rev } in
    let old = c.args.log.now in
    let new = c.hear_event.new.self in
    subst (λ (why : LinkNo). HearsRead old (Some (peer.Told c.args.kind c.args.obj c.args.rev)) (Err why) new) (as_view c.hearing_refusal.result c.in-Err.why c.to.result (end_of c.hear_event.new.self.log) c.hearing_refusal.ensures c.to.ensures.answer)
    (heard_as old new (Told t) (Some (peer.Told c.args.kind c.args.obj c.args.rev)) (event_fault old.selection old.most_gap old.log old.kept t) (Err c.in-Err.why) refl (λ none. refl) c.in-Err.ensures.hears)
