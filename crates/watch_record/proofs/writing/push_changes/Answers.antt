use Rattle.watch_record.proofs.WriteLemmas.{changes-more, later-true}
use Rattle.watch_record.proofs.writing.push_changes.Goals as goal

pub loop-change-preserved : goal.loop-change-preserved
loop-change-preserved c = record {
  writes = changes-more c.args.out.now.items c.loop-change.out.items c.push_change.new.out.items c.args.changes.now c.loop-change.change-index c.change-item.result c.loop-change.later
      c.loop-change-test.true c.change-item.is c.loop-change.invariant.writes c.loop-change.invariant.later c.in_ok-push_change.ensures;
  later = later-true c.loop-change.change-index;
}
