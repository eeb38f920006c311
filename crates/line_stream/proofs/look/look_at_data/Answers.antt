use Rattle.line_stream.proofs.LookLemmas.{is-data, is-overlong}
use Rattle.line_stream.proofs.look.look_at_data.Goals as goal

pub returns-then-is_too_long : goal.returns-then-is_too_long
returns-then-is_too_long c = (
  c.requires.room,
  is-overlong c.args.kept.now c.args.part.now c.data_in-at_hand.result.now c.args.size c.line_length-len.result c.args.room c.args.most c.data_in-at_hand.ensures.front
      c.data_in-at_hand.ensures.fits c.data_in-at_hand.ensures.room c.line_length-len.ensures.within c.line_length-len.ensures.line
      c.if-is_too_long.ensures,
)

pub returns : goal.returns
returns c =
    is-data c.args.kept.now c.args.part.now c.data_in-at_hand.result.now c.args.size c.line_length-len.result c.args.room c.args.most c.data_in-at_hand.ensures.front
    c.data_in-at_hand.ensures.fits c.data_in-at_hand.ensures.room c.line_length-len.ensures.within c.line_length-len.ensures.line
    c.data_in-at_hand.ensures.within c.if-is_too_long.ensures c.if-len-eq0.false
