use Rattle.std.specs.Prelude.{codes}
use Rattle.std.proofs.lemmas.Result.{IfOk-weaker}
use Rattle.watchcache.proofs.OptionLemmas.{more}
use Rattle.watchcache.proofs.settings.with_settings.Goals as goal

pub returns : goal.returns
returns c =
    let one = c.in_ok-command.ensures in
    let two = more (codes "window-max") _ _ _ c.in_ok-command-2.ensures one in
    let three = more (codes "fresh-ms") _ _ _ c.in_ok-command-3.ensures two in
    let four = more (codes "lane") _ _ _ c.in_ok-command-4.ensures three in
    let five = more (codes "batch") _ _ _ c.in_ok-command-5.ensures four in
    let six = more (codes "history") _ _ _ c.in_ok-command-6.ensures five in
    let seven = more (codes "bookmark-ms") _ _ _ c.in_ok-command-7.ensures six in
    IfOk-weaker c.with_option-8.result _ _ (λ command h. more (codes "timeout-s") _ _ _ h seven) c.with_option-8.ensures
