use Rattle.std.proofs.Common.{List, ap, sym, ◌∙◌, subst}
use Rattle.kube_meta.specs.Rows.{key_of}
use Rattle.obj_tree.specs.Pages.{values_of, AreParts, IsNoded}
use Rattle.obj_tree.proofs.NodeLemmas.{parts_of_nodes, place_same, sole_noded}
use Rattle.obj_tree.proofs.nodes.put.Goals as goal

pub part_for-requires : goal.part_for-requires
part_for-requires c = subst (λ (xs : List _). AreParts (values_of xs)) (sym c.slice_of.ensures) (parts_of_nodes (values_of c.args.nodes.now.value.items) c.requires.noded)

pub put_owned-requires-clause-place : goal.put_owned-requires-clause-place
put_owned-requires-clause-place c = place_same _ (values_of c.args.nodes.now.value.items) _ (key_of c.args.shown.value) c.in-Some.at (ap values_of c.slice_of.ensures) (c.sought.ensures ∙ ap key_of c.deref.ensures) c.in-Some.ensures

pub returns-in_default-clause-noded : goal.returns-in_default-clause-noded
returns-in_default-clause-noded c = subst (λ (p : List (List _)). IsNoded p) (sym c.in_ok-put_first.ensures.ok) (sole_noded c.args.shown.value)
