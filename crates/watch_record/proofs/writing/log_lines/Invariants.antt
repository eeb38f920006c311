use Rattle.std.proofs.Common.{◌≡◌, take}
use Rattle.std.specs.List.{flat_map}
use Rattle.watch_record.specs.Revisions.{revision_line}
use Rattle.watch_record.proofs.writing.log_lines.Given as goal

abbrev pub invariant-loop-revision : goal.invariant-loop-revision
invariant-loop-revision l = l.out.items ≡ flat_map revision_line (take l.revision-index l.log)
