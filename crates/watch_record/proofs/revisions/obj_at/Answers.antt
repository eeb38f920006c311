use Rattle.std.proofs.Common.{Err, ap}
use Rattle.watch_record.proofs.ObjectLemmas.{keeps-none}
use Rattle.watch_record.proofs.revisions.obj_at.Goals as goal

pub returns-in_ok-unless_memory-in-Err : goal.returns-in_ok-unless_memory-in-Err
returns-in_ok-unless_memory-in-Err c =
    keeps-none c.args.resource c.args.ns.now c.args.name.now c.args.text.now c.in-Err.fault (λ e. c.in-Err.ensures.not_json (ap Err e)) c.in-Err.ensures.refused
    c.in_ok-unless_memory-in-Err.ensures
