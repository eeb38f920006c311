use Rattle.json_obj.proofs.Orderly.{read-orderly, get-orderly, at-orderly}
use Rattle.json_obj.proofs.laws.values_are_orderly.Goals as goal

pub returns : goal.returns
returns c = record {
  whole = λ bytes d is. read-orderly bytes d is.1;
  member = get-orderly;
  item = at-orderly;
}
