use Rattle.std.proofs.Common.{◌≡◌, ℕ, List, ◌++◌, option_and_then}
use Rattle.kube_meta.specs.Labels.{value_at}
use Rattle.serde_json.specs.Find.{as_str, get_member}
use Rattle.serde_json.specs.View.{members_view}
use Rattle.serde_json.proofs.Views.{Entry}
use Rattle.json_obj.proofs.metadata.labels_of.Given as goal

-- the labels are those of the members so far
abbrev pub invariant-loop-name : goal.invariant-loop-name
invariant-loop-name l =
    (done : List Entry) × (l.members.entries ≡ done ++ l.name-iterator)
    × ((name : List ℕ) → value_at l.labels name ≡ option_and_then as_str (get_member name (members_view done)))
