use Rattle.std.proofs.Common.{Err, ap}
use Rattle.watch_lines.proofs.ObjectLemmas.{no-value}
use Rattle.watch_lines.proofs.objects.value_of.Goals as goal

pub returns-in_ok-unless_memory-in-Err : goal.returns-in_ok-unless_memory-in-Err
returns-in_ok-unless_memory-in-Err c =
    no-value c.args.text.now c.in-Err.fault (λ e. c.in-Err.ensures.not_json (ap Err e)) c.in-Err.ensures.refused c.in_ok-unless_memory-in-Err.ensures
