use Rattle.serde_json.specs.View.{view}
use Rattle.watch_lines.proofs.ObjectLemmas.{Rests, none-valued, none-placed, all-read}
use Rattle.watch_lines.proofs.objects.only_object.Goals as goal

pub returns-in_default : goal.returns-in_default
returns-in_default c =
    let laws : Rests = record { orderly = c.values_are_orderly.ensures; objects = c.objects_read_back.ensures; revisions = c.revisions_are_read_back.ensures } in
    none-valued laws c.args.resource c.args.text.now (rw c.in_default.is at c.in_ok-value.ensures)

pub returns-in_default-2 : goal.returns-in_default-2
returns-in_default-2 c =
    let laws : Rests = record { orderly = c.values_are_orderly.ensures; objects = c.objects_read_back.ensures; revisions = c.revisions_are_read_back.ensures } in
    none-placed laws c.args.resource c.args.text.now (view c.in-Some.value) (rw c.in-Some.is at c.in_ok-value.ensures) (rw c.in_default-2.is at c.in_ok-ns.ensures)

pub returns : goal.returns
returns c =
    let laws : Rests = record { orderly = c.values_are_orderly.ensures; objects = c.objects_read_back.ensures; revisions = c.revisions_are_read_back.ensures } in
    all-read laws c.args.resource c.args.text.now c.in-Some-2.ns c.in-Some-2.name (view c.in-Some.value) (rw c.in-Some.is at c.in_ok-value.ensures) (rw c.in-Some-2.is at c.in_ok-ns.ensures)
    c.kept_in.result c.kept_in.ensures
