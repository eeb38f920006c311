use Rattle.json_obj.specs.Replies.{annotations_text}
use Rattle.json_obj.proofs.PieceTexts.{bookmark_pieces_text}
use Rattle.json_obj.proofs.pieces.bookmark_pieces.Goals as goal

pub returns : goal.returns
returns c = λ revision is. rw (is, c.annotation-annotation.ensures) (bookmark_pieces_text c.args.version.now c.args.kind.now revision (annotations_text c.args.closing) c.requires.version c.requires.kind)
