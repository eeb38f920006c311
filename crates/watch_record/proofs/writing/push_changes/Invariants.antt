use Rattle.std.proofs.Common.{◌≡◌, ◌++◌, map, take}
use Rattle.std.specs.Prelude.{nat_lt}
use Rattle.json_obj.specs.Replies.{items_text}
use Rattle.watch_record.specs.Revisions.{text_of_change}
use Rattle.watch_record.proofs.writing.push_changes.Given as goal

abbrev pub invariant-loop-change : goal.invariant-loop-change
invariant-loop-change l = record {
  writes : l.out.items ≡ l.initial.out.items ++ items_text (map text_of_change (take l.change-index l.changes));
  later : l.later ≡ nat_lt 0 l.change-index;
}
