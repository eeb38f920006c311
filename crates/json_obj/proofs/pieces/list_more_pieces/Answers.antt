use Rattle.std.proofs.Common.{decimal}
use Rattle.json.specs.Print.{quoted}
use Rattle.json_obj.specs.Replies.{left_text}
use Rattle.json_obj.proofs.PieceTexts.{list_more_text}
use Rattle.json_obj.proofs.pieces.list_more_pieces.Goals as goal

pub returns : goal.returns
returns c = λ revision more is token left.
    let pieces = c.left_pieces.result in
    rw (is, token) (list_more_text c.args.kind.now (quoted more.token) pieces.0.now pieces.1.now pieces.2.now (left_text more.left) (decimal revision) c.requires (c.left_pieces.ensures more.left left))
