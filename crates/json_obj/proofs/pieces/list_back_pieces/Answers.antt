use Rattle.json_obj.proofs.PieceTexts.{list_back_text}
use Rattle.json_obj.proofs.pieces.list_back_pieces.Goals as goal

pub returns : goal.returns
returns c = λ revision is. rw is (list_back_text c.args.kind.now revision c.requires)
