-- What feeds give, one poll after the other.
use Rattle.std.proofs.Common.{ap, sym, ◌∙◌, ◌++◌}
use Rattle.std.specs.List.{filter_map}
use Rattle.std.proofs.lemmas.List.Elements.{filter_map-append}
use Rattle.rev_log.proofs.GrowthLemmas.{between-joined}
use Rattle.rev_log.specs.Logs.{between}
use Rattle.up_api.specs.Feeds.{PollsJoin, part_of, parts_between}

pub joined : PollsJoin
joined log resource a m n first second one two =
    ap (λ parts. parts ++ second.revisions) one.parts
    ∙ ap (λ parts. parts_between log resource a first.upto ++ parts) two.parts
    ∙ sym (filter_map-append (part_of resource) (between log a first.upto) (between log first.upto second.upto))
    ∙ ap (filter_map (part_of resource)) (between-joined log a first.upto second.upto one.onward two.onward)
