use Rattle.encode_once.proofs.PrefixLemmas.{in_order}
use Rattle.encode_once.proofs.prefix.prefixes_are_in_order.Goals as goal

pub returns : goal.returns
returns c = in_order
