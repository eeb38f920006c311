-- Texts, each of which tells a line.
use Rattle.std.specs.Prelude.{◌≡◌, ℕ, List, [], ◌∷◌, ◌++◌}
use Rattle.kube_meta.specs.declared.resources.Resource.{Resource}
use Rattle.rev_log.specs.Logs.{Log}
use Rattle.watch_rules.specs.declared.ask.WatchAsk.{WatchAsk}
use Rattle.watch_rules.specs.declared.starts.Start.TheVariants.{FromRevision}
use Rattle.watch_rules.specs.Bodies.{Line, Lost, TellsBody, AreOpen}
use Rattle.body_check.specs.Lists.{TellEach}

-- texts tell one list of lines at most, but for what a loss says
abbrev pub TextsTellOneBody : Type 0
TextsTellOneBody =
    (resource : Resource) (texts : List (List ℕ)) (lines others : List Line) → TellEach resource texts lines → TellEach resource texts others → AreOpen lines → lines ≡ others

-- a loss is the last line of a body from a revision
abbrev pub LossesAreLast : Type 0
LossesAreLast =
    (log : Log) (log_floor low from : ℕ) (ask : WatchAsk) (lines : List Line) (position floor : ℕ) (line : Line) (more : List Line) (p : ℕ) →
    ask.start ≡ FromRevision from → ¬ TellsBody log log_floor low ask from (lines ++ Lost position floor ∷ line ∷ more) p
