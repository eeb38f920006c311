use Rattle.std.proofs.Common.{map, Err, ap, ◌∙◌}
use Rattle.std.specs.Prelude.{⊤}
use Rattle.edge_io.proofs.SentLemmas.{written-behind}
use Rattle.watch_rules.specs.Bodies.{Closing}
use Rattle.sess_reply.proofs.SendLemmas.{emits-error, emits-first, emits-behind, emits-as}
use Rattle.sess_turns.specs.Streams.{frame_of}
use Rattle.sess_turns.proofs.WritingLemmas.{written-as}
use Rattle.sess_turns.proofs.LineLemmas.{opening-frames, asked-is}
use Rattle.sess_turns.proofs.lines.opening.Goals as goal

pub returns-in_err-initial : goal.returns-in_err-initial
returns-in_err-initial g c =
    let at = c.begun.inside.at in
    let is = ap (λ items. record { at = at; rows = map (λ shown. shown.value) items }) c.deref.ensures.value ∙ c.begun.view_is in
    emits-as c.from_residual.result _ _ _ (opening-frames c.args.view.now c.args.ask.now c.args.begun.now at _ is)
    (emits-error ⊤ c.from_residual.result c.in_err-initial.field-0.0 _ _ c.from_residual.ensures.1 (emits-first ⊤ c.in_err-initial.field-0.0 _ _ _ c.in_err-initial.ensures))

pub returns-in_err-bookmark : goal.returns-in_err-bookmark
returns-in_err-bookmark g c =
    let at = c.begun.inside.at in
    let e = c.from_residual-in_err-bookmark in
    let why = c.in_err-bookmark.field-0.0 in
    let is = ap (λ items. record { at = at; rows = map (λ shown. shown.value) items }) c.deref.ensures.value ∙ c.begun.view_is in
    let closing = frame_of c.args.view.now c.args.ask.now.selection.resource (Closing at) in
    emits-as e.result _ _ _ (opening-frames c.args.view.now c.args.ask.now c.args.begun.now at _ is)
    (emits-error ⊤ e.result why _ _ e.ensures.1
    (emits-behind {A = ⊤} (Err why) _ _ _ _ _ _ _ _ _ _ _ c.in_ok-initial.ensures (emits-as {A = ⊤} (Err why) _ _ _ (asked-is closing c.args.ask.now.closing c.if-ask.true) c.in_err-bookmark.ensures)))

pub returns-in_ok-bookmark : goal.returns-in_ok-bookmark
returns-in_ok-bookmark g c =
    let at = c.begun.inside.at in
    let is = ap (λ items. record { at = at; rows = map (λ shown. shown.value) items }) c.deref.ensures.value ∙ c.begun.view_is in
    let closing = frame_of c.args.view.now c.args.ask.now.selection.resource (Closing at) in
    written-as _ _ _ _ _ _ (opening-frames c.args.view.now c.args.ask.now c.args.begun.now at _ is)
    (written-behind _ _ _ _ _ _ _ _ c.in_ok-initial.ensures (written-as _ _ _ _ _ _ (asked-is closing c.args.ask.now.closing c.if-ask.true) c.in_ok-bookmark.ensures))
