use Rattle.std.proofs.Common.{◌++◌, Err}
use Rattle.std.specs.Prelude.{⊤}
use Rattle.edge_io.proofs.SentLemmas.{broken-first}
use Rattle.meta_view.specs.Lines.{expired_line}
use Rattle.sess_reply.proofs.SendLemmas.{sends-broken, sends-error, sends-behind, emits-first, emits-behind}
use Rattle.sess_turns.specs.Streams.{head_text, framed, end_text}
use Rattle.sess_turns.proofs.stream.serve_gone.Goals as goal

pub returns-in_err-begin : goal.returns-in_err-begin
returns-in_err-begin g c =
    let framing = c.args.view.now.framing in
    sends-broken c.from_residual.result _ _ c.from_residual.ensures.1
    (broken-first _ _ _ _ (head_text framing) (framed framing (expired_line c.args.asked c.args.floor) ++ end_text framing) c.in_err-begin.ensures)

pub returns-in_err-lost : goal.returns-in_err-lost
returns-in_err-lost g c =
    let framing = c.args.view.now.framing in
    let line = framed framing (expired_line c.args.asked c.args.floor) in
    let why = c.in_err-lost.field-0.0 in
    sends-error ⊤ c.from_residual-in_err-lost.result why _ _ c.from_residual-in_err-lost.ensures.1
    (emits-behind {A = ⊤} (Err why) _ _ _ _ _ _ _ _ _ (head_text framing) (line ++ end_text framing) c.in_ok-begin.ensures (emits-first ⊤ why line (end_text framing) _ c.in_err-lost.ensures))

pub returns : goal.returns
returns g c =
    let framing = c.args.view.now.framing in
    let line = framed framing (expired_line c.args.asked c.args.floor) in
    sends-behind c.end.result _ _ _ _ _ _ _ _ _ (head_text framing) (line ++ end_text framing) c.in_ok-begin.ensures
    (sends-behind c.end.result _ _ _ (Unit {0}) _ _ _ _ _ line (end_text framing) c.in_ok-lost.ensures c.end.ensures)
