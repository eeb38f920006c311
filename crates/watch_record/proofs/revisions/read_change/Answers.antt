use Rattle.std.proofs.Common.{arith, sym}
use Rattle.std.specs.Prelude.{codes}
use Rattle.serde_json.specs.View.{view}
use Rattle.watch_record.proofs.DepthLemmas.{depth-get}
use Rattle.watch_record.proofs.revisions.read_change.Goals as goal

pub change_at-requires : goal.change_at-requires
change_at-requires c =
    omega (arith, depth-get (codes "object") (view c.args.value.now) (view c.in-Some-get.object.now) (sym c.in-Some-get.ensures), c.requires)
