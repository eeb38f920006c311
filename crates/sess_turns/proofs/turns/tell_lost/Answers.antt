use Rattle.std.specs.Prelude.{⊤}
use Rattle.meta_view.specs.Lines.{expired_line}
use Rattle.sess_reply.proofs.SendLemmas.{sends-error, sends-behind, emits-first}
use Rattle.sess_turns.specs.Streams.{framed, end_text}
use Rattle.sess_turns.proofs.turns.tell_lost.Goals as goal

pub returns-in_err-lost-clause-sends : goal.returns-in_err-lost-clause-sends
returns-in_err-lost-clause-sends g c =
    let framing = c.args.view.now.framing in
    sends-error ⊤ c.from_residual.result c.in_err-lost.field-0.0 _ _ c.from_residual.ensures.1 (emits-first ⊤ c.in_err-lost.field-0.0 (framed framing (expired_line c.args.at c.args.floor)) (end_text framing) _ c.in_err-lost.ensures)

pub returns-clause-sends : goal.returns-clause-sends
returns-clause-sends g c =
    let framing = c.args.view.now.framing in
    sends-behind c.close.result _ _ _ _ _ _ _ _ _ (framed framing (expired_line c.args.at c.args.floor)) (end_text framing) c.in_ok-lost.ensures c.close.ensures.sends
