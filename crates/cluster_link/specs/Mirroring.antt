-- Mirrors of a resource of a cluster, as contracts see them.
use Rattle.std.specs.Prelude.{◌≡◌, ℕ, ◌^◌, ◌≤◌, List, [], Option, None, Some, Result, Ok}
use Rattle.line_stream.specs.Readers.{ReaderData}
use Rattle.line_stream.specs.declared.place.Place.TheVariants.{AtSize}
use Rattle.rev_front.specs.Passes.{Pass}
use Rattle.rev_log.specs.Changes.{RevisionData}
use Rattle.rev_log.specs.Logs.{Log, end_of}
use Rattle.select_all.specs.declared.selection.Selection.{Selection}
use Rattle.select_all.specs.Listings.{IsListing}
use Rattle.select_all.specs.Streams.{TransitionData}
use Rattle.watch_rules.specs.Bodies.{Line}
use Rattle.mirror_law.specs.Clusters.{IsCluster, with_marks}
use Rattle.mirror_law.specs.Following.{Follows}
use Rattle.mirror_law.specs.Mirrors.{IsMirrorOf}
use Rattle.mirror_log.specs.MirrorLogs.{MirrorLogData}
use Rattle.cluster_link.specs.Lists.{ListData, IsOfAll}
use Rattle.cluster_link.specs.declared.heard.Heard.{Heard}
use Rattle.cluster_link.specs.declared.refusal.ClusterNo.{ClusterNo}

-- whose it is, how many revisions without a line may lie before one, what its pass knows of its store, its log, the
-- lines of the revision behind the log's end, where the reading of the connection is, and the answer that it gives
-- again, if it has one
pub record ClusterData : Type 0 where
  pub selection : Selection
  pub most_gap : ℕ
  pub told : Pass RevisionData
  pub log : Log
  pub kept : List TransitionData
  pub reading : ReaderData
  pub answer : Option (Result Heard ClusterNo)

-- the most bytes of a line
abbrev pub most_told : ℕ
most_told = 16777216

-- the reading of a connection from which nothing was read
abbrev pub unread : ReaderData
unread = record { kept = []; place = AtSize; part = []; room = None; most = most_told }

-- what holds of each: it is of all objects, or of those of a namespace; any number of revisions may lie before a line;
-- and its reading has no bound
pub record IsClusterMirror (m : ClusterData) : Type 0 where
  pub all : IsOfAll m.selection
  pub any_gap : m.most_gap ≡ 2 ^ 62
  pub unbound : m.reading.room ≡ None

-- its log, apart from the connection
abbrev pub mirror_log : ClusterData → MirrorLogData
mirror_log m = record { selection = m.selection; most_gap = m.most_gap; told = m.told; log = m.log; kept = m.kept }

-- It follows these lines of a cluster. They come behind each event as if a bookmark at its revision stood there, since
-- no revision has more than one.
abbrev pub FollowsCluster : Log → ℕ → ℕ → List Line → ClusterData → Type 0
FollowsCluster peer b from lines m = Follows peer m.selection b from (with_marks lines) m.log m.kept

-- whatever the cluster's log: if the list's rows are its listing at a revision that it has reached, then the log is a
-- mirror of it from there
abbrev pub MirrorsList : ListData → Log → Type 0
MirrorsList list m =
    (peer : Log) → IsCluster peer list.selection.resource → IsListing peer list.selection list.at list.rows → list.at ≤ end_of peer →
    IsMirrorOf peer list.selection list.at m
