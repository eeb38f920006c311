use Rattle.std.proofs.Common.{ap, ◌∙◌}
use Rattle.json_obj.specs.Replies.{event_text}
use Rattle.json_obj.specs.declared.pieces.EventType.TheVariants.{Error}
use Rattle.sess_reply.proofs.SendLemmas.{emits-as}
use Rattle.sess_turns.specs.Streams.{framed}
use Rattle.sess_turns.proofs.lines.lost.Goals as goal

pub returns : goal.returns
returns g c =
    emits-as c.event.result _ _ _ (ap (λ object. framed c.args.framing.now (event_text Error object)) (c.expired_pieces-object.ensures c.args.at c.args.floor
    (c.as_bytes-asked_digits.ensures.value ∙ c.format.ensures.text) (c.as_bytes-floor_digits.ensures.value ∙ c.format-2.ensures.text)))
    c.event.ensures
