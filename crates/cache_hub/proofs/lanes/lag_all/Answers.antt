use Rattle.std.proofs.Common.{rules}
use Rattle.cache_hub.specs.OpenLanes.{left_behind}
use Rattle.cache_hub.proofs.IndexLemmas.{changed_by_map, mapped_pairs}
use Rattle.cache_hub.proofs.lanes.lag_all.Goals as goal

pub returns : goal.returns
returns g c =
    changed_by_map left_behind c.args.lanes.now.entries c.retain.new.self.entries
    (mapped_pairs _ left_behind (λ _. Unit {0}) (λ f k v b w f' holds t. (search rules, search rules, tt)) _ _ _ tt c.retain.ensures.filtered)
