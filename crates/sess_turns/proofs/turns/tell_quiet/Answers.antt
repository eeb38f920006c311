use Rattle.std.proofs.Common.{[]}
use Rattle.std.specs.Prelude.{⊤}
use Rattle.sess_reply.proofs.SendLemmas.{sends-as, sends-error, sends-behind, emits-first}
use Rattle.sess_turns.proofs.LineLemmas.{due-frames}
use Rattle.sess_turns.proofs.turns.tell_quiet.Goals as goal

pub returns-in_err-bookmark : goal.returns-in_err-bookmark
returns-in_err-bookmark g c =
    let due = due-frames c.args.view.now c.args.resource c.args.upto c.args.due c.if-not-due.false in
    sends-as c.from_residual.result _ _ _ due
    (sends-error ⊤ c.from_residual.result c.in_err-bookmark.field-0.0 _ _ c.from_residual.ensures.1 (emits-first ⊤ c.in_err-bookmark.field-0.0 _ [] _ c.in_err-bookmark.ensures))

pub returns : goal.returns
returns g c =
    let due = due-frames c.args.view.now c.args.resource c.args.upto c.args.due c.if-not-due.false in
    sends-as c.send_on.result _ _ _ due (sends-behind c.send_on.result _ _ _ _ _ _ _ _ _ _ [] c.in_ok-bookmark.ensures c.send_on.ensures)
