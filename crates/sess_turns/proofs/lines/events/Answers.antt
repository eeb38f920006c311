use Rattle.std.proofs.Common.{◌≡◌, List, Err, get_or, ap, ◌∙◌, arith}
use Rattle.std.specs.Prelude.{⊤}
use Rattle.kube_meta.specs.Rows.{RowData}
use Rattle.select_all.specs.Streams.{TransitionData}
use Rattle.watch_rules.specs.Bodies.{Told}
use Rattle.sess_reply.proofs.SendLemmas.{emits-as}
use Rattle.sess_turns.specs.Streams.{frame_of}
use Rattle.sess_turns.proofs.WritingLemmas.{written-as}
use Rattle.sess_turns.proofs.LineLemmas.{lines-broken, lines-next, lines-sent, told-frames}
use Rattle.sess_turns.proofs.lines.events.Goals as goal

pub returns-in_err-object : goal.returns-in_err-object
returns-in_err-object g c =
    let view = c.args.view.now in
    let resource = c.args.resource in
    let lines : List TransitionData = c.args.lines.now in
    let of_row : RowData → TransitionData = λ row. record { kind = c.line.inside.kind; obj = row.obj; rev = row.rev } in
    let item : TransitionData = c.line-item.result in
    let same : of_row c.deref.result.now ≡ get_or lines c.loop-line.line-index item = ap of_row c.deref.ensures ∙ c.line.view_is ∙ c.line-item.is in
    let why = c.in_err-object.field-0.0 in
    lines-broken (λ line. frame_of view resource (Told line)) lines _ (told-frames view resource lines) _ _ _ _ c.loop-line.line-index c.loop-line.invariant
    ⊤ c.from_residual.result why _ _ _ _ _ item c.loop-line-test.true c.from_residual.ensures.1
    (emits-as {A = ⊤} (Err why) _ _ _ (ap (λ (line : TransitionData). frame_of view resource (Told line)) same) c.in_err-object.ensures)

pub loop-line-preserved : goal.loop-line-preserved
loop-line-preserved g c =
    let view = c.args.view.now in
    let resource = c.args.resource in
    let lines : List TransitionData = c.args.lines.now in
    let of_row : RowData → TransitionData = λ row. record { kind = c.line.inside.kind; obj = row.obj; rev = row.rev } in
    let item : TransitionData = c.line-item.result in
    let same : of_row c.deref.result.now ≡ get_or lines c.loop-line.line-index item = ap of_row c.deref.ensures ∙ c.line.view_is ∙ c.line-item.is in
    lines-next (λ line. frame_of view resource (Told line)) lines _ (told-frames view resource lines) _ _ _ _ c.loop-line.line-index c.loop-line.invariant
    _ _ item _ (omega arith) c.loop-line-test.true
    (written-as _ _ _ _ _ _ (ap (λ (line : TransitionData). frame_of view resource (Told line)) same) c.in_ok-object.ensures)

pub returns : goal.returns
returns g c =
    let view = c.args.view.now in
    let resource = c.args.resource in
    lines-sent (λ line. frame_of view resource (Told line)) c.args.lines.now _ (told-frames view resource c.args.lines.now) _ _ _ _ c.loop-line.line-index
    c.loop-line.invariant c.loop-line-test.false
