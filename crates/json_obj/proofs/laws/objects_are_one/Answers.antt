use Rattle.json_obj.proofs.One.{one_object}
use Rattle.json_obj.proofs.laws.objects_are_one.Goals as goal

pub returns : goal.returns
returns c = one_object
