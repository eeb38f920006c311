-- Laws of mirrors of clusters over the bytes of their cluster.
use Rattle.std.specs.Prelude.{◌≡◌, ℕ, List, [], ◌∷◌, ◌++◌, Option, None}
use Rattle.rev_log.specs.Logs.{Log}
use Rattle.watch_rules.specs.declared.ask.WatchAsk.{WatchAsk}
use Rattle.watch_rules.specs.Bodies.{Line, Told, Bookmark, Closing, Lost, BeginsBody}
use Rattle.watch_lines.specs.Laws.{as_read}
use Rattle.watch_lines.specs.Values.{TellsByValue, ReadsByValue}
use Rattle.watch_lines.specs.declared.peer_line.PeerLine.{PeerLine}
use Rattle.mirror_law.specs.Clusters.{IsCluster, AsksChanges}
use Rattle.cluster_link.specs.Mirroring.{ClusterData, FollowsCluster, IsClusterMirror, mirror_log}
use Rattle.cluster_link.specs.Telling.{told_fault}
use Rattle.cluster_link.specs.declared.refusal.ClusterNo.{ClusterNo}

-- nothing is wrong with a line; of a loss nothing is said
abbrev pub IsFaultless : Line → Option ClusterNo → Type 0
IsFaultless (Told t) fault = fault ≡ None
IsFaultless (Bookmark at) fault = fault ≡ None
IsFaultless (Closing at) fault = fault ≡ None
IsFaultless (Lost at floor) fault = Unit {0}

-- whatever is read of a text that tells the next line of a lawful body that a mirror follows, it is heard
abbrev pub ClusterLinesAreHeard : Type 0
ClusterLinesAreHeard =
    (peer : Log) (ask : WatchAsk) (log_floor low b from : ℕ) (lines : List Line) (line : Line) (m : ClusterData) (text : List ℕ) (found : Option PeerLine) →
    IsClusterMirror m → TellsByValue m.selection.resource text (as_read line) → ReadsByValue m.selection.resource text found → IsCluster peer m.selection.resource → AsksChanges m.selection ask from →
    FollowsCluster peer b from lines m → BeginsBody peer log_floor low ask from (lines ++ line ∷ []) → IsFaultless line (told_fault (mirror_log m) found)
