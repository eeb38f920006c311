use Rattle.std.specs.Prelude.{codes}
use Rattle.std.proofs.lemmas.Result.{IfOk-weaker}
use Rattle.watchcache.proofs.OptionLemmas.{more}
use Rattle.watchcache.proofs.reading.with_origin.Goals as goal

pub returns : goal.returns
returns c =
    let one = c.in_ok-command.ensures in
    let two = more (codes "cluster") _ _ _ c.in_ok-command-2.ensures one in
    let three = more (codes "resources") _ _ _ c.in_ok-command-3.ensures two in
    let four = more (codes "namespace") _ _ _ c.in_ok-command-4.ensures three in
    let five = more (codes "first-revision") _ _ _ c.in_ok-command-5.ensures four in
    IfOk-weaker c.with_option-6.result _ _ (λ command h. more (codes "history-mib") _ _ _ h five) c.with_option-6.ensures
