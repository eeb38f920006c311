use Rattle.std.proofs.Common.{rules}
use Rattle.std.proofs.lemmas.Iterator.Search.{any_from_yields_List}
use Rattle.std.proofs.lemmas.Iterator.Splits.{YieldsList-from_slice_split}
use borrow.Author.Tests.{tests}
use Rattle.meta_view.specs.Accept.{is_semicolon, is_as}
use Rattle.meta_view.proofs.accept.has_as.Goals as goal

pub returns : goal.returns
returns c =
    any_from_yields_List (is_as) _ _ c.any.result c.any.ensures.ran
    (YieldsList-from_slice_split _ is_semicolon c.args.element.now c.split.ensures.rest c.split.ensures.done c.split.ensures.closure (λ x b q k. search (rules, tests)))
    (λ x b q k. search (rules, tests))
