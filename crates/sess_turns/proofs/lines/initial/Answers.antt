use Rattle.std.proofs.Common.{Err, ap, ◌∙◌, arith}
use Rattle.std.specs.Prelude.{⊤}
use Rattle.kube_meta.specs.Rows.{RowData}
use Rattle.watch_rules.specs.Bodies.{Told, initial}
use Rattle.sess_reply.proofs.SendLemmas.{emits-as}
use Rattle.sess_turns.specs.Streams.{frame_of}
use Rattle.sess_turns.proofs.WritingLemmas.{written-as}
use Rattle.sess_turns.proofs.LineLemmas.{lines-broken, lines-next, lines-sent, initial-frames}
use Rattle.sess_turns.proofs.lines.initial.Goals as goal

pub returns-in_err-object : goal.returns-in_err-object
returns-in_err-object g c =
    let view = c.args.view.now in
    let resource = c.args.resource in
    let same = c.deref.ensures ∙ ap (λ shown. shown.value) c.shown-item.is in
    let why = c.in_err-object.field-0.0 in
    lines-broken (λ shown. frame_of view resource (Told (initial shown.value))) c.args.objects.now _ (initial-frames (λ shown. shown.value) view resource c.args.objects.now) _ _ _ _
    c.loop-shown.shown-index c.loop-shown.invariant ⊤ c.from_residual.result why _ _ _ _ _ c.shown-item.result c.loop-shown-test.true c.from_residual.ensures.1
    (emits-as {A = ⊤} (Err why) _ _ _ (ap (λ (row : RowData). frame_of view resource (Told (initial row))) same) c.in_err-object.ensures)

pub loop-shown-preserved : goal.loop-shown-preserved
loop-shown-preserved g c =
    let view = c.args.view.now in
    let resource = c.args.resource in
    let same = c.deref.ensures ∙ ap (λ shown. shown.value) c.shown-item.is in
    lines-next (λ shown. frame_of view resource (Told (initial shown.value))) c.args.objects.now _ (initial-frames (λ shown. shown.value) view resource c.args.objects.now) _ _ _ _
    c.loop-shown.shown-index c.loop-shown.invariant _ _ c.shown-item.result _ (omega arith) c.loop-shown-test.true
    (written-as _ _ _ _ _ _ (ap (λ (row : RowData). frame_of view resource (Told (initial row))) same) c.in_ok-object.ensures)

pub returns : goal.returns
returns g c =
    let view = c.args.view.now in
    let resource = c.args.resource in
    lines-sent (λ shown. frame_of view resource (Told (initial shown.value))) c.args.objects.now _ (initial-frames (λ shown. shown.value) view resource c.args.objects.now) _ _ _ _
    c.loop-shown.shown-index c.loop-shown.invariant c.loop-shown-test.false
