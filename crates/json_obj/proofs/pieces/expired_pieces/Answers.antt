use Rattle.json_obj.proofs.PieceTexts.{expired_pieces_text}
use Rattle.json_obj.proofs.pieces.expired_pieces.Goals as goal

pub returns : goal.returns
returns c = λ n m asked floor. rw (asked, floor) (expired_pieces_text n m)
