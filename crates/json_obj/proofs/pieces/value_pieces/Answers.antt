use Rattle.std.proofs.Common.{refl}
use Rattle.json_obj.proofs.pieces.value_pieces.Goals as goal

pub returns : goal.returns
returns c = λ value is. rw is refl
