use Rattle.std.proofs.Common.{◌∙◌, arith}
use Rattle.up_store.specs.Transacting.{object_in}
use Rattle.up_store.specs.Writes.{new_object}
use Rattle.up_store.proofs.TransactLemmas.{mapped-at}
use Rattle.up_store.proofs.transacting.changes.Goals as goal

pub change-requires : goal.change-requires
change-requires c = c.in_ok-again.ensures ∙ mapped-at object_in new_object c.args.shared.now c.args.asks.now c.loop-i.i c.index-shared-i.result c.index-asks-i.result c.requires (omega arith) c.index-shared-i.is c.index-asks-i.is
