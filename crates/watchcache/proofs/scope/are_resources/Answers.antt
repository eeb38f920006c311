use Rattle.std.proofs.Common.{rules}
use Rattle.std.proofs.lemmas.Iterator.Search.{all_from_yields_List}
use Rattle.std.proofs.lemmas.Iterator.Splits.{YieldsList-from_slice_split}
use borrow.Author.Tests.{tests}
use Rattle.watchcache.specs.Options.{is_list_comma, is_resource}
use Rattle.watchcache.proofs.scope.are_resources.Goals as goal

pub returns : goal.returns
returns c =
    all_from_yields_List is_resource _ _ c.all.result c.all.ensures.ran
    (YieldsList-from_slice_split _ is_list_comma c.args.text.now c.split.ensures.rest c.split.ensures.done c.split.ensures.closure (λ x b q k. search (rules, tests)))
    (λ x b q k. search (rules, tests))
