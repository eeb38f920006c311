use Rattle.json_obj.proofs.PieceTexts.{list_front_text}
use Rattle.json_obj.proofs.pieces.list_front_pieces.Goals as goal

pub returns : goal.returns
returns c = list_front_text c.args.version.now c.requires
