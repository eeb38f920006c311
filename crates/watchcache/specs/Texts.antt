-- The texts that the program writes for its words.
use Rattle.std.specs.Prelude.{ℕ, List, [], ◌∷◌, ◌++◌, Result, Ok, Err, codes, decimal}
use Rattle.std.specs.List.{concat}
use Rattle.body_check.specs.declared.judging.Checked.{Checked}
use Rattle.body_check.specs.declared.judging.Checked.TheVariants.{Lawful, Unlawful}
use Rattle.kube_meta.specs.Resources.{plural_of}
use Rattle.kube_meta.specs.declared.resources.Resource.{Resource}
use Rattle.cluster_link.specs.Refusals.{cluster_refusal_name}
use Rattle.cluster_link.specs.declared.refusal.ClusterNo.{ClusterNo}
use Rattle.mirror_link.specs.OpeningRefusals.{refusal_name as link_name}
use Rattle.mirror_link.specs.declared.link_refusal.LinkNo.{LinkNo}
use Rattle.body_check.specs.declared.verdict.Verdict.{Verdict}
use Rattle.body_check.specs.declared.verdict.Verdict.TheVariants as some
use Rattle.watch_record.specs.declared.between_refusal.BetweenNo.{BetweenNo}
use Rattle.watch_record.specs.declared.between_refusal.BetweenNo.TheVariants as between
use Rattle.watchcache.specs.declared.unknown.Judged.{Judged}
use Rattle.watch_record.specs.declared.refusals.RecordNo.{RecordNo}
use Rattle.watch_record.specs.declared.refusals.RecordNo.TheVariants.{TooLong, BadHeader, NoBody, BadLog, BadFloor, BadAsk, Memory}

-- how the program is used: its commands, their options with range and default, and its exit statuses
abbrev pub help : List ℕ
help =
    concat (codes "watchcache: the watch cache of a Kubernetes API server\n"
    ∷ codes "\n"
    ∷ codes "usage:\n"
    ∷ codes "  watchcache session [OPTION]..   serve one connection: requests on standard input, replies on standard output\n"
    ∷ codes "  watchcache serve [OPTION]..     serve connections to a port of 127.0.0.1, until it is told to end\n"
    ∷ codes "  watchcache load [OPTION]..      serve a session of drawn requests in memory, and write five lines of what came of it\n"
    ∷ codes "  watchcache check                judge the record of a log and of a watch's body on standard input\n"
    ∷ codes "  watchcache --help, -h           write this text\n"
    ∷ codes "  watchcache --version            write the version\n"
    ∷ codes "\n"
    ∷ codes "options, each at most once, as --window 50 or --window=50; those of session and serve:\n"
    ∷ codes "  --window N        changes of one resource that a watch reaches back at least: 1 to 102400, default 100\n"
    ∷ codes "  --window-max N    changes of one resource that are kept while fresh: the window to 102400, default the window\n"
    ∷ codes "  --fresh-ms N      milliseconds for which a change is fresh: 1 to 86400000, default 75000\n"
    ∷ codes "  --lane N          batches that wait for one watcher: 1 to 1024, default 16\n"
    ∷ codes "  --batch N         events that a watch is told in one turn: 1 to 10000, default 100\n"
    ∷ codes "  --history N       revisions whose states are kept: 1 to 1000000, default 10000\n"
    ∷ codes "  --bookmark-ms N   milliseconds between the bookmarks of a watch: 1 to 86400000, default 60000\n"
    ∷ codes "  --timeout-s N     seconds that a watch lasts whose request doesn't say: 1 to 1000000, default 1800\n"
    ∷ codes "\n"
    ∷ codes "and of serve:\n"
    ∷ codes "  --port N          the port: 0 to 65535, default 8001; 0 is any that is free\n"
    ∷ codes "  --workers N       threads that serve connections from the start on: 1 to 64, default 4\n"
    ∷ codes "  --open N          connections that are served side by side, by threads that come as they are wanted: 1 to 65536, default 16384\n"
    ∷ codes "  --connections N   connections that are accepted before it ends: 0 to 4611686018427387904, default 0, which is all\n"
    ∷ codes "  --peer N          the port of a server whose pods it mirrors: 1 to 65535, default none\n"
    ∷ codes "  --cluster N       the port of `kubectl proxy` to a cluster that it mirrors: 1 to 65535, default none\n"
    ∷ codes "  --resources LIST  what it mirrors of the cluster: some of pods,configmaps,deployments, default all\n"
    ∷ codes "  --namespace NAME  the one namespace that it mirrors of the cluster, default all\n"
    ∷ codes "  --first-revision N  the revision of its empty log, unless it is a mirror: 1 to 4611686018427387904, default 1\n"
    ∷ codes "  --history-mib N   MiB of text in the changes of its log that are kept: 1 to 1048576, default 256\n"
    ∷ codes "\n"
    ∷ codes "those of load:\n"
    ∷ codes "  --from N          what the requests are drawn from: 0 to 4611686018427387904, default 1\n"
    ∷ codes "  --requests N      requests before the last list: 0 to 100000, default 1000\n"
    ∷ codes "\n"
    ∷ codes "exit status:\n"
    ∷ codes "  0   all input was answered, a request asked for the end, or a watch ended; a load or a text was written\n"
    ∷ codes "  2   the command line is bad\n"
    ∷ codes "  3   reading failed\n"
    ∷ codes "  4   writing failed\n"
    ∷ codes "  5   the input ended inside a request\n"
    ∷ codes "  6   the input went on with what is no request, as its reply says\n"
    ∷ codes "  7   1000000 requests were answered\n"
    ∷ codes "  8   memory ran out\n"
    ∷ codes "  9   dialling the peer or the cluster, its opening or list, listening or accepting failed\n"
    ∷ codes "  11  the body of a record is unlawful\n"
    ∷ codes "  12  what was to be checked is no record\n"
    ∷ codes "  13  what the peer sent is no streaming list, or what the cluster sent is no list\n"
    ∷ [])

-- how many sessions a server served
abbrev pub sessions : ℕ → List ℕ
sessions accepted = codes "sessions " ++ decimal accepted ++ codes "\n"

-- why a peer has no opening
abbrev pub peer_line : LinkNo → List ℕ
peer_line why = codes "peer: " ++ link_name why ++ codes "\n"

-- why a resource of a cluster has no list, or no mirror
abbrev pub cluster_line : Resource → ClusterNo → List ℕ
cluster_line resource why = codes "cluster: " ++ cluster_refusal_name why ++ codes " " ++ plural_of resource ++ codes "\n"

-- what is written for `--version`: the program's name and its version
abbrev pub version_text : List ℕ
version_text = codes "watchcache 0.1.0\n"

-- what is written where the words ask for nothing that there is
abbrev pub bad_line : List ℕ
bad_line = codes "watchcache: bad command line\n"

-- ---- of a check

-- the name of a reason why bytes are no record
abbrev pub record_fault_name : RecordNo → List ℕ
record_fault_name TooLong = codes "TooLong"
record_fault_name BadHeader = codes "BadHeader"
record_fault_name NoBody = codes "NoBody"
record_fault_name (BadLog line) = codes "BadLog"
record_fault_name BadFloor = codes "BadFloor"
record_fault_name BadAsk = codes "BadAsk"
record_fault_name Memory = codes "Memory"

-- what is written of a judgement, or of a refusal
abbrev pub verdict : Result Checked RecordNo → List ℕ
verdict (Ok (Lawful at to)) = codes "lawful from " ++ (decimal at ++ (codes " to " ++ (decimal to ++ codes "\n")))
verdict (Ok (Unlawful line)) = codes "unlawful at line " ++ decimal line ++ codes "\n"
verdict (Err fault) = codes "record: " ++ record_fault_name fault ++ codes "\n"

-- ---- of a check of what is known of an unknown log

-- the name of a refusal, without a list's place
abbrev pub between_name : BetweenNo → List ℕ
between_name between.BadHeader = codes "BadHeader"
between_name between.TooLong = codes "TooLong"
between_name between.NoBody = codes "NoBody"
between_name between.BadAsk = codes "BadAsk"
between_name (between.BadList list) = codes "BadList"
between_name between.Memory = codes "Memory"

-- the place of the list that is none
abbrev pub between_place : BetweenNo → List ℕ
between_place between.BadHeader = []
between_place between.TooLong = []
between_place between.NoBody = []
between_place between.BadAsk = []
between_place (between.BadList list) = codes " " ++ decimal list
between_place between.Memory = []

-- what is written of a judgement, with how many of so many later lists the body has come to
abbrev pub unknown_verdict : Verdict → ℕ → List ℕ
unknown_verdict (some.Lawful from to held) lists =
    concat (codes "lawful from " ∷ decimal from ∷ codes " to " ∷ decimal to ∷ codes ", " ∷ decimal held ∷ codes " of " ∷ decimal lists ∷ codes " lists held\n" ∷ [])
unknown_verdict (some.BadLine line) lists = codes "unlawful at line " ++ decimal line ++ codes "\n"
unknown_verdict (some.BadList list) lists = codes "unlawful at list " ++ decimal list ++ codes "\n"

-- or of a refusal
abbrev pub between_verdict : Result Judged BetweenNo → List ℕ
between_verdict (Ok judged) = unknown_verdict judged.verdict judged.lists
between_verdict (Err fault) = codes "record: " ++ (between_name fault ++ (between_place fault ++ codes "\n"))
