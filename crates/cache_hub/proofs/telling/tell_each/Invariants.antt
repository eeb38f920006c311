use Rattle.std.specs.Prelude.{◌≡◌, drop, option_map}
use Rattle.up_api.specs.Sections.{log_of}
use Rattle.cache_hub.specs.Due.{IsPieceIn}
use Rattle.cache_hub.proofs.TellLemmas.{AreTelling}
use Rattle.cache_hub.proofs.telling.tell_each.Given as goal

abbrev pub invariant-loop-id : goal.invariant-loop-id
invariant-loop-id g l =
    (l.told ≡ l.fn.told)
    × AreTelling (log_of g.N.LogFacts.base l.fn.told) l.end l.fn.lanes.entries l.lanes.entries (drop l.id-index l.ids)
    × IsPieceIn (log_of g.N.LogFacts.base l.fn.told) l.end (option_map (λ p. p.value) l.last)
