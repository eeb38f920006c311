use Rattle.std.proofs.Common.{◌≡◌, option_map, refl, rules}
use Rattle.std.specs.Prelude.{find}
use Rattle.std.proofs.lemmas.Iterator.Search.{find_from_yields_List}
use Rattle.std.proofs.lemmas.Iterator.Splits.{YieldsList-from_slice_split}
use borrow.Author.Tests.{tests}
use Rattle.meta_view.specs.Accept.{is_comma, decides, elements}
use Rattle.meta_view.proofs.accept.wants_metadata.Goals as goal

pub returns-in-Some : goal.returns-in-Some
returns-in-Some c =
    let found : option_map (λ element. element.now) c.find.result ≡ find decides (elements c.args.accept.now) =
    find_from_yields_List decides _ _ c.find.result c.find.ensures.ran
    (YieldsList-from_slice_split _ is_comma c.args.accept.now c.split.ensures.rest c.split.ensures.done c.split.ensures.closure (λ x b q k. search (rules, tests)))
    (λ x b q k. search (rules, tests)) in
    rw (← found, c.in-Some.is) c.asks_metadata.ensures

pub returns-in-None : goal.returns-in-None
returns-in-None c =
    let found : option_map (λ element. element.now) c.find.result ≡ find decides (elements c.args.accept.now) =
    find_from_yields_List decides _ _ c.find.result c.find.ensures.ran
    (YieldsList-from_slice_split _ is_comma c.args.accept.now c.split.ensures.rest c.split.ensures.done c.split.ensures.closure (λ x b q k. search (rules, tests)))
    (λ x b q k. search (rules, tests)) in
    rw (← found, c.in-None.is) refl
