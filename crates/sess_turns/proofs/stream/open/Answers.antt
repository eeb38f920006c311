use Rattle.std.proofs.Common.{Err}
use Rattle.std.specs.Prelude.{⊤}
use Rattle.edge_io.proofs.SentLemmas.{broken-first, written-behind}
use Rattle.watch_rules.specs.Bodies.{opening_lines}
use Rattle.sess_reply.proofs.SendLemmas.{sends-broken, sends-error, sends-on, emits-behind}
use Rattle.sess_turns.specs.Streams.{head_text, frames_of}
use Rattle.sess_turns.proofs.stream.open.Goals as goal

pub returns-in_err-begin : goal.returns-in_err-begin
returns-in_err-begin g c =
    sends-broken c.from_residual.result _ _ c.from_residual.ensures.1 (broken-first _ _ _ _ (head_text c.args.view.now.framing) _ c.in_err-begin.ensures)

pub returns-in_err-opening : goal.returns-in_err-opening
returns-in_err-opening g c =
    let why = c.in_err-opening.field-0.0 in
    sends-error ⊤ c.from_residual-in_err-opening.result why _ _ c.from_residual-in_err-opening.ensures.1
    (emits-behind {A = ⊤} (Err why) _ _ _ _ _ _ _ _ _ (head_text c.args.view.now.framing) _ c.in_ok-begin.ensures c.in_err-opening.ensures)

pub returns : goal.returns
returns g c =
    sends-on c.send_on.result _ _ _ _ _ _ _ _ _ _
    (written-behind _ _ _ _ _ _ (head_text c.args.view.now.framing)
    (frames_of c.args.view.now c.args.ask.now.selection.resource (opening_lines c.args.ask.now c.args.begun.at c.args.begun.rows))
    c.in_ok-begin.ensures c.in_ok-opening.ensures)
    c.send_on.ensures
