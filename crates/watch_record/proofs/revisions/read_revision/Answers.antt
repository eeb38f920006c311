use Rattle.std.proofs.Common.{◌≤◌, arith, sym}
use Rattle.serde_json.specs.Data.{depth, items_depth}
use Rattle.serde_json.specs.Read.{max_depth}
use Rattle.serde_json.specs.View.{view, items_view}
use Rattle.watch_record.proofs.DepthLemmas.{depth-changes}
use Rattle.watch_record.proofs.revisions.read_revision.Goals as goal

pub revision_of-requires : goal.revision_of-requires
revision_of-requires c =
    let d = view c.in-Some.value in
    let items = items_view c.in-Some-items_in.items.now.items in
    let whole : depth d ≤ max_depth = rw c.in-Some.is at c.in_ok-value.ensures.nests in
    let part : items_depth items ≤ depth d = depth-changes d items (sym c.in-Some-items_in.ensures) in
    omega arith
