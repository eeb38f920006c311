use Rattle.std.specs.Prelude.{◌≡◌, length, option_map}
use Rattle.std.specs.List.{AllByRecursion}
use Rattle.up_api.specs.Sections.{log_of}
use Rattle.cache_hub.specs.Due.{IsPieceOf}
use Rattle.cache_hub.proofs.TellLemmas.{AreWalked}
use Rattle.cache_hub.proofs.telling.tell_every.Given as goal

abbrev pub invariant-loop-place : goal.invariant-loop-place
invariant-loop-place g l =
    (l.told ≡ l.fn.told)
    × AreWalked (log_of g.N.LogFacts.base l.fn.told) l.end l.place l.fn.lanes.entries l.lanes.entries
    × (length l.lanes.entries ≡ length l.fn.lanes.entries)
    × AllByRecursion (λ e. IsPieceOf (log_of g.N.LogFacts.base l.fn.told) l.end e.1.lane.selection (option_map (λ p. p.value) l.last)) l.fn.lanes.entries
