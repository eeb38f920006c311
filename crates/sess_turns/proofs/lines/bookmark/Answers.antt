use Rattle.std.proofs.Common.{ap, ◌∙◌}
use Rattle.json_obj.specs.Replies.{event_text}
use Rattle.json_obj.specs.declared.pieces.EventType.TheVariants.{Bookmark}
use Rattle.sess_reply.proofs.SendLemmas.{emits-as}
use Rattle.sess_turns.specs.Streams.{framed}
use Rattle.sess_turns.proofs.lines.bookmark.Goals as goal

pub returns : goal.returns
returns g c =
    let digits = c.as_bytes-digits.ensures.value ∙ c.format.ensures.text in
    emits-as c.event.result _ _ _ (ap (λ object. framed c.args.view.now.framing (event_text Bookmark object)) (c.shown_bookmark-object.ensures c.args.at digits))
    c.event.ensures
