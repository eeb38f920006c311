use Rattle.std.specs.Prelude.{codes}
use Rattle.std.proofs.lemmas.Result.{IfOk-weaker}
use Rattle.watchcache.proofs.OptionLemmas.{more}
use Rattle.watchcache.proofs.reading.with_doors.Goals as goal

pub returns : goal.returns
returns c =
    let one = c.in_ok-command.ensures in
    let two = more (codes "workers") _ _ _ c.in_ok-command-2.ensures one in
    let three = more (codes "open") _ _ _ c.in_ok-command-3.ensures two in
    IfOk-weaker c.with_option-4.result _ _ (λ command h. more (codes "connections") _ _ _ h three) c.with_option-4.ensures
