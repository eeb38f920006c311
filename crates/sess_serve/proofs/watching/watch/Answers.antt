use Rattle.std.proofs.Common.{◌∙◌, refl, ap, inl}
use Rattle.client_api.specs.declared.answers.ListNo.TheVariants as list_no
use Rattle.sess_reply.specs.Replies.{unwatched}
use Rattle.sess_reply.proofs.SendLemmas.{sends-as}
use Rattle.sess_turns.specs.Streams.{gone_text}
use Rattle.sess_serve.proofs.Session.{terms-same}
use Rattle.sess_serve.proofs.Replying.{did_of, sends, lacks, answers-by-loss, answers-by-stream, stream-kept, unless-memory, facts-unwatched, facts-watched}
use Rattle.sess_serve.proofs.WatchLemmas.{turns-onward, stream-under}
use Rattle.sess_serve.proofs.watching.watch.Goals as goal

pub returns-in-Ok-clause-answered : goal.returns-in-Ok-clause-answered
returns-in-Ok-clause-answered g c =
    let e = c.in-Ok.ensures in
    let str = stream-under _ _ c.args.view.now c.args.ask.now _ _ (g.C.Client.whole c.args.client.now) _ _ c.serve_stream.result _
    (terms-same g.C.Client.base g.C.Client.mirror c.args.settings.now (g.C.Client.facts c.args.client.now) _ _ _ e.facts) (λ w. e.kept w tt)
    c.serve_stream.ensures.streamed in
    answers-by-stream _ _ _ _ _ _ _ c.args.ask.now _ c.args.view.now c.serve_stream.result c.by_stream.result c.by_stream.ensures c.requires.view c.requires.route c.requires.plain
    e.answer e.onward (turns-onward _ _ _ _ _ str.turns) e.sole (ap did_of c.serve_stream.ensures.facts ∙ ap did_of e.facts) str

pub returns-in-Ok-clause-facts : goal.returns-in-Ok-clause-facts
returns-in-Ok-clause-facts g c = facts-watched (g.C.Client.facts c.args.client.now) _ _ _ c.requires.idle c.in-Ok.ensures.facts c.serve_stream.ensures.facts

pub returns-in-Ok-clause-kept : goal.returns-in-Ok-clause-kept
returns-in-Ok-clause-kept g c = λ whole.
    stream-kept c.serve_stream.result c.by_stream.result c.by_stream.ensures (λ told. c.serve_stream.ensures.kept (c.in-Ok.ensures.kept whole tt) told)

pub returns-in-Err-Expired-clause-answered : goal.returns-in-Err-Expired-clause-answered
returns-in-Err-Expired-clause-answered g c =
    let is = c.in-Err-Expired.field-0-is in
    let e = c.in-Err-Expired.ensures in
    answers-by-loss _ _ _ _ _ _ _ c.args.ask.now c.in-Err-Expired.asked c.in-Err-Expired.floor c.serve_gone.result c.by_loss.result c.by_loss.ensures
    c.requires.route c.requires.plain
    (rw is at e.answer) e.onward (λ w. rw is at (e.sole w)) (ap did_of e.facts)
    (sends-as c.serve_gone.result _ _ _ (ap (λ v. gone_text v.framing c.in-Err-Expired.asked c.in-Err-Expired.floor) c.requires.view) c.serve_gone.ensures)

pub returns-in-Err-Expired-clause-facts : goal.returns-in-Err-Expired-clause-facts
returns-in-Err-Expired-clause-facts g c = facts-unwatched _ _ c.requires.idle c.in-Err-Expired.ensures.facts

pub returns-in-Err-Expired-clause-kept : goal.returns-in-Err-Expired-clause-kept
returns-in-Err-Expired-clause-kept g c = λ whole.
    let kept = rw c.in-Err-Expired.field-0-is at c.in-Err-Expired.ensures.kept in
    unless-memory c.by_loss.result (kept whole tt)

pub returns-in-Err-TooLarge-clause-answered : goal.returns-in-Err-TooLarge-clause-answered
returns-in-Err-TooLarge-clause-answered g c =
    let is = c.in-Err-TooLarge.field-0-is in
    let e = c.in-Err-TooLarge.ensures in
    sends _ _ _ _ _ _ c.by_reply.result c.send_unwatched.result c.by_reply.ensures
    (unwatched c.args.ask.now (list_no.TooLarge c.in-Err-TooLarge.asked c.in-Err-TooLarge.current)) (c.requires.route, c.requires.plain)
    (rw is at e.answer) e.onward (λ w. rw is at (e.sole w)) (ap did_of e.facts) c.send_unwatched.ensures _

pub returns-in-Err-TooLarge-clause-facts : goal.returns-in-Err-TooLarge-clause-facts
returns-in-Err-TooLarge-clause-facts g c = facts-unwatched _ _ c.requires.idle c.in-Err-TooLarge.ensures.facts

pub returns-in-Err-TooLarge-clause-kept : goal.returns-in-Err-TooLarge-clause-kept
returns-in-Err-TooLarge-clause-kept g c = λ whole.
    let kept = rw c.in-Err-TooLarge.field-0-is at c.in-Err-TooLarge.ensures.kept in
    unless-memory c.by_reply.result (kept whole tt)

pub returns-in-Err-Absent-clause-answered : goal.returns-in-Err-Absent-clause-answered
returns-in-Err-Absent-clause-answered g c = absurd (rw c.in-Err-Absent.field-0-is at c.in-Err-Absent.ensures.answer)

pub returns-in-Err-Absent-clause-facts : goal.returns-in-Err-Absent-clause-facts
returns-in-Err-Absent-clause-facts g c = facts-unwatched _ _ c.requires.idle c.in-Err-Absent.ensures.facts

pub returns-in-Err-Memory-clause-answered : goal.returns-in-Err-Memory-clause-answered
returns-in-Err-Memory-clause-answered g c =
    let is = c.in-Err-Memory.field-0-is in
    let e = c.in-Err-Memory.ensures in
    lacks _ _ _ _ _ _ refl refl e.onward (λ w. inl (rw is at (e.sole w))) (ap did_of e.facts) _

pub returns-in-Err-Memory-clause-facts : goal.returns-in-Err-Memory-clause-facts
returns-in-Err-Memory-clause-facts g c = facts-unwatched _ _ c.requires.idle c.in-Err-Memory.ensures.facts
