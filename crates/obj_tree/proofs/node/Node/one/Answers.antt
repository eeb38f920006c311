use Rattle.obj_tree.specs.Pages.{values_of}
use Rattle.obj_tree.proofs.MapEdits.{sole_page}
use Rattle.obj_tree.proofs.node.Node.one.Goals as goal

pub of-requires-clause-paged : goal.of-requires-clause-paged
of-requires-clause-paged c = sole_page (values_of c.put_first.new.pages.items) c.args.shown.value c.in_ok-put_first.ensures.ok
