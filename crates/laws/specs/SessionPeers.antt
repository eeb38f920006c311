-- A log that sessions know is one that a mirror may follow.
use Rattle.std.specs.Prelude.{◌≡◌, List, [], All}
use Rattle.client_api.specs.Starts.{IsWatchStart}
use Rattle.kube_meta.specs.Rows.{RowData}
use Rattle.mirror_link.specs.Peers.{IsPeer}
use Rattle.rev_front.specs.Passes.{Pass, IsPass}
use Rattle.rev_log.specs.Changes.{RevisionData}
use Rattle.rev_log.specs.Logs.{Fits}
use Rattle.select_all.specs.declared.selection.Selection.{Selection}
use Rattle.select_all.specs.Streams.{TransitionData}
use Rattle.sess_turns.specs.Terms.{Terms}
use Rattle.sess_turns.specs.Turns.{Turns, IsWatchTurns, watch_lines}
use Rattle.up_api.specs.Sections.{log_of}
use Rattle.watch_lines.specs.Stored.{IsStored}
use Rattle.watch_rules.specs.declared.ask.WatchAsk.{WatchAsk}
use Rattle.watch_rules.specs.Bodies.{told_in}
use Rattle.laws.specs.Storable.{HoldsStored}

-- what is known of a log that began with nothing, and whose objects may be stored, is a peer's, for each selection
abbrev pub LogsArePeers : Type 0
LogsArePeers =
    (base : List RowData) (p : Pass RevisionData) (s : Selection) →
    base ≡ [] → IsPass Fits p → HoldsStored (log_of base p) → IsPeer (log_of base p) s

-- and each object that the lines of a watch over it tell may be stored
abbrev pub ToldObjectsAreStored : Type 0
ToldObjectsAreStored =
    (terms : Terms) (p opened q : Pass RevisionData) (ask : WatchAsk) (watch : Turns) →
    IsWatchStart terms.base p ask watch.begun opened → IsWatchTurns terms ask opened watch q → HoldsStored (log_of terms.base q) →
    All (λ (t : TransitionData). IsStored ask.selection.resource t.obj) (told_in (watch_lines terms ask opened watch))
