use Rattle.std.proofs.Common.{◌++◌}
use Rattle.std.specs.List.{flat_map}
use Rattle.edge_io.proofs.SentLemmas.{broken-first, broken-behind, writes-broken, writes-behind}
use Rattle.json_obj.specs.Replies.{event_front, event_back}
use Rattle.sess_turns.proofs.frames.line.Goals as goal

pub returns-in_err-part : goal.returns-in_err-part
returns-in_err-part g c =
    let object = flat_map (λ piece. piece.now) c.args.object.now in
    let front = rw c.front.ensures at c.in_err-part.ensures in
    writes-broken c.from_residual.result _ _ c.from_residual.ensures.0 (broken-first _ _ _ _ (event_front c.args.type_) (object ++ event_back) front)

pub returns-in_err-parts : goal.returns-in_err-parts
returns-in_err-parts g c =
    let object = flat_map (λ piece. piece.now) c.args.object.now in
    let front = rw c.front.ensures at c.in_ok-part.ensures in
    writes-broken c.from_residual-in_err-parts.result _ _ c.from_residual-in_err-parts.ensures.0
    (broken-behind _ _ _ _ _ _ (event_front c.args.type_) (object ++ event_back) front (broken-first _ _ _ _ object event_back c.in_err-parts.ensures))

pub returns : goal.returns
returns g c =
    let object = flat_map (λ piece. piece.now) c.args.object.now in
    let front = rw c.front.ensures at c.in_ok-part.ensures in
    let back = rw c.back.ensures at c.part-2.ensures in
    writes-behind c.part-2.result _ _ _ _ _ _ _ _ _ (event_front c.args.type_) (object ++ event_back) front
    (writes-behind c.part-2.result _ _ _ (Unit {0}) _ _ _ _ _ object event_back c.in_ok-parts.ensures back)
