-- The chain tests each part between two dots.
use Rattle.std.proofs.Common.{◌≡◌, rules}
use Rattle.std.specs.List.{list_all, slice_split}
use Rattle.std.proofs.lemmas.Iterator.Search.{all_from_yields_List}
use Rattle.std.proofs.lemmas.Iterator.Splits.{YieldsList-from_slice_split}
use borrow.Author.Tests.{tests}
use Rattle.kube_meta.specs.Names.{is_dns_part, is_dot}
use Rattle.kube_meta.proofs.names.is_dns_subdomain.Goals as goal

pub returns-then-text-le253 : goal.returns-then-text-le253
returns-then-text-le253 c =
    let each_part : c.all.result ≡ list_all is_dns_part (slice_split is_dot c.args.text.now) =
    all_from_yields_List is_dns_part _ _ c.all.result c.all.ensures.ran
    (YieldsList-from_slice_split _ _ c.args.text.now c.split.ensures.rest c.split.ensures.done c.split.ensures.closure (λ x b q k. search (rules, tests)))
    (λ x b q k. search (rules, tests)) in
    search (rules, each_part)
