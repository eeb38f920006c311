use Rattle.std.proofs.Common.{◌≡◌, refl, rules}
use Rattle.cache_hub.specs.Due.{missed}
use Rattle.cache_hub.proofs.IndexLemmas.{changed_by_map, mapped_pairs}
use Rattle.cache_hub.proofs.placed.miss_all.Goals as goal

pub returns : goal.returns
returns g c =
    changed_by_map (missed c.args.events.now) c.args.lanes.now.entries c.retain.new.self.entries
    (mapped_pairs _ (missed c.args.events.now) (λ f. f.0.now ≡ c.args.events.now) (λ f k v b w f' holds t. (search rules, search (rules, holds), search (rules, holds))) _ _ _ refl c.retain.ensures.filtered)
