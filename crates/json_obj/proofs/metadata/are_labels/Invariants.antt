use Rattle.std.proofs.Common.{◌≡◌}
use Rattle.serde_json.specs.View.{members_view}
use Rattle.json_obj.specs.Objects.{are_labels}
use Rattle.json_obj.proofs.metadata.are_labels.Given as goal

-- those that are left decide
abbrev pub invariant-loop-name : goal.invariant-loop-name
invariant-loop-name l = are_labels (members_view l.members.entries) ≡ are_labels (members_view l.name-iterator)
