-- The options of the commands: most take one number, which lies in a range, and is usual where it isn't given. Which
-- words give which value is clap's own rule for a command of these options.
use Rattle.std.specs.Prelude.{◌≡◌, ◌≢◌, ◌⊎◌, ℕ, ◌+◌, ◌^◌, List, length, [], ◌&&◌, ◌||◌, Bool, true, false, cond, not, Option, Some, None, is_some, Result, Ok, Err, nat_le, ◌==◌, codes, if◌then◌else◌, ⊤}
use Rattle.clap.specs.Words.{App, Row, Rule, Text, fault_of, first_of, matches_of, new_app, new_rule, with_rule}
use Rattle.clap.specs.declared.error.kind.ErrorKind.{ErrorKind}
use Rattle.clap.specs.declared.error.kind.ErrorKind.TheVariants.{OutOfMemory}
use Rattle.watchcache.specs.declared.asked.LoadOptions.{LoadOptions}
use Rattle.watchcache.specs.declared.asked.ServeAsk.{ServeAsk}
use Rattle.watchcache.specs.declared.asked.ServeOptions.{ServeOptions}
use Rattle.watchcache.specs.declared.asked.OptionName.{OptionName}
use Rattle.watchcache.specs.declared.asked.OptionName.TheVariants.{Window, WindowMax, FreshMs, Lane, Batch, History, BookmarkMs, TimeoutS, Port, Workers, Open, Connections, Peer, Cluster, Resources, Namespace, FirstRevision, HistoryMib, From, Requests}
use Rattle.watchcache.specs.declared.asked.Fault.{Fault}
use Rattle.watchcache.specs.declared.asked.Fault.TheVariants.{Misused, OutOfRange, FirstWithPeer, ClusterWithPeer, WantsCluster, OtherResources, BadNamespace}
use Rattle.watchcache.specs.declared.asked.WordsNo.{WordsNo}
use Rattle.watchcache.specs.declared.asked.WordsNo.TheVariants.{Bad, Memory}
use Rattle.client_api.specs.Facts.{all_served}
use Rattle.client_api.specs.declared.resources.Resources.{Resources as Scope}
use Rattle.kube_meta.specs.Names.{is_namespace}
use Rattle.kube_meta.specs.Resources.{of_plural}
use Rattle.kube_meta.specs.Revisions.{revision_of}
use Rattle.kube_meta.specs.declared.revisions.RevNo.{RevNo}
use Rattle.std.specs.List.{list_all, list_any, slice_split}
use Rattle.std.specs.Str.{bytes_eq}
use Rattle.up_api.specs.Settings.{usual}
use Rattle.up_api.specs.declared.settings.Settings.{Settings}

-- the option `--name`
abbrev pub option : Text → Rule
option name = record (new_rule name) { long = Some name }

-- a command with the options that set a server
abbrev pub with_settings : App → App
with_settings command =
    with_rule (with_rule (with_rule (with_rule (with_rule (with_rule (with_rule (with_rule command
    (option (codes "window"))) (option (codes "window-max"))) (option (codes "fresh-ms"))) (option (codes "lane")))
    (option (codes "batch"))) (option (codes "history"))) (option (codes "bookmark-ms"))) (option (codes "timeout-s"))

-- the command `session` as clap knows it, with the options that set a server
abbrev pub session : App
session = with_settings (new_app (codes "session"))

-- a command with the options that say which connections a server takes, and by how many threads
abbrev pub with_doors : App → App
with_doors command =
    with_rule (with_rule (with_rule (with_rule command
    (option (codes "port"))) (option (codes "workers"))) (option (codes "open"))) (option (codes "connections"))

-- a command with the options that say where a server's log comes from: a peer, a cluster with what is mirrored of it,
-- or a first revision; and how many bytes of it are kept
abbrev pub with_origin : App → App
with_origin command =
    with_rule (with_rule (with_rule (with_rule (with_rule (with_rule command
    (option (codes "peer"))) (option (codes "cluster"))) (option (codes "resources"))) (option (codes "namespace")))
    (option (codes "first-revision"))) (option (codes "history-mib"))

-- the command `serve` as clap knows it: it is set as a session is, takes connections at a port, and has a log from
-- somewhere
abbrev pub serve : App
serve = with_origin (with_doors (with_settings (new_app (codes "serve"))))

-- the command `load` as clap knows it: from what its requests are drawn, and how many
abbrev pub load : App
load = with_rule (with_rule (new_app (codes "load")) (option (codes "from"))) (option (codes "requests"))

-- the command `check` as clap knows it, which has no options
abbrev pub check : App
check = new_app (codes "check")

-- the name of an option, as it is written behind `--`
abbrev pub option_text : OptionName → Text
option_text Window = codes "window"
option_text WindowMax = codes "window-max"
option_text FreshMs = codes "fresh-ms"
option_text Lane = codes "lane"
option_text Batch = codes "batch"
option_text History = codes "history"
option_text BookmarkMs = codes "bookmark-ms"
option_text TimeoutS = codes "timeout-s"
option_text Port = codes "port"
option_text Workers = codes "workers"
option_text Open = codes "open"
option_text Connections = codes "connections"
option_text Peer = codes "peer"
option_text Cluster = codes "cluster"
option_text Resources = codes "resources"
option_text Namespace = codes "namespace"
option_text FirstRevision = codes "first-revision"
option_text HistoryMib = codes "history-mib"
option_text From = codes "from"
option_text Requests = codes "requests"

-- what comes of a value that was read, or its fault
abbrev pub and_then : {A B : Type 0} → (A → Result B Fault) → Result A Fault → Result B Fault
and_then next (Ok value) = next value
and_then next (Err fault) = Err fault

-- the number, if it lies in the range from `low` to `high`
abbrev pub bounded : OptionName → ℕ → ℕ → ℕ → Result ℕ Fault
bounded name low high n = if nat_le low n && nat_le n high then Ok n else Err (OutOfRange name low high)

-- the number that a text was read as, if it was read and lies in the range
abbrev pub within : OptionName → ℕ → ℕ → Result ℕ RevNo → Result ℕ Fault
within name low high (Ok n) = bounded name low high n
within name low high (Err fault) = Err (OutOfRange name low high)

-- what is given for an option, in decimal digits
abbrev pub option_number : OptionName → ℕ → ℕ → ℕ → Option Text → Result ℕ Fault
option_number name low high default None = Ok default
option_number name low high default (Some text) = within name low high (revision_of text)

-- what is given for an option that has no usual number, if anything is
abbrev pub optional_number : OptionName → ℕ → ℕ → Option Text → Result (Option ℕ) Fault
optional_number name low high None = Ok None
optional_number name low high (Some text) = and_then (λ n. Ok (Some n)) (within name low high (revision_of text))

-- the same of what clap found
abbrev pub number : List Row → OptionName → ℕ → ℕ → ℕ → Result ℕ Fault
number rows name low high default = option_number name low high default (first_of (option_text name) rows)

-- and of an option that has no usual number
abbrev pub optional : List Row → OptionName → ℕ → ℕ → Result (Option ℕ) Fault
optional rows name low high = optional_number name low high (first_of (option_text name) rows)

-- ---- what the options of a command give; or the first fault, in the order in which the options are looked at

-- the settings with what is given of a watch's times: seconds that it lasts, and milliseconds between its bookmarks
abbrev pub with_watches : List Row → Settings → Result Settings Fault
with_watches rows s =
    and_then (λ bookmark. and_then (λ timeout. Ok (record s { bookmark_ms = bookmark; timeout_s = timeout }))
    (number rows TimeoutS 1 1000000 usual.timeout_s))
    (number rows BookmarkMs 1 86400000 usual.bookmark_ms)

-- the settings with what is given of how much waits for a watcher and is told at once, and of a watch's times
abbrev pub with_turns : List Row → Settings → Result Settings Fault
with_turns rows s =
    and_then (λ lane. and_then (λ batch. with_watches rows (record s { lane = lane; batch = batch }))
    (number rows Batch 1 10000 usual.batch))
    (number rows Lane 1 1024 usual.lane)

-- the settings with what is given of how long changes are kept, in milliseconds, of how many states are, and of watches
abbrev pub with_ages : List Row → Settings → Result Settings Fault
with_ages rows s =
    and_then (λ fresh. and_then (λ history. with_turns rows (record s { fresh_ms = fresh; history = history }))
    (number rows History 1 1000000 usual.history))
    (number rows FreshMs 1 86400000 usual.fresh_ms)

-- the settings that are given; the greatest window is at least the window, and is the window where it isn't given
abbrev pub settings_of : List Row → Result Settings Fault
settings_of rows =
    and_then (λ window. and_then (λ most. with_ages rows (record usual { window = window; window_max = most }))
    (number rows WindowMax window 102400 window))
    (number rows Window 1 102400 usual.window)

-- a server's options with the revision of its empty log, 1 where none is given; none may be where there is a peer or a
-- cluster, whose list says where a mirror's log begins; and with how many MiB of it are kept
abbrev pub with_first : List Row → ServeOptions → Result ServeOptions Fault
with_first rows options =
    if (is_some options.peer || is_some options.cluster) && is_some (first_of (option_text FirstRevision) rows) then Err FirstWithPeer
    else and_then (λ first. and_then (λ mib. Ok (record options { first = first; history_mib = mib }))
    (number rows HistoryMib 1 1048576 256))
    (number rows FirstRevision 1 (2 ^ 62) 1)

-- what parts the names of a list
abbrev pub is_list_comma : ℕ → Bool
is_list_comma byte = byte == 44

-- the name of a resource
abbrev pub is_resource : Text → Bool
is_resource name = is_some (of_plural name)

-- all that commas part are such names
abbrev pub are_resources : Text → Bool
are_resources text = list_all is_resource (slice_split is_list_comma text)

-- a name is among them
abbrev pub has_name : Text → Text → Bool
has_name name text = list_any (λ part. bytes_eq part name) (slice_split is_list_comma text)

-- the resources that are named
abbrev pub named_resources : Text → Scope
named_resources text = record { pods = has_name (codes "pods") text; config_maps = has_name (codes "configmaps") text; deployments = has_name (codes "deployments") text }

-- how many there are of these
abbrev pub how_many : Scope → ℕ
how_many these = cond these.pods 1 0 + cond these.config_maps 1 0 + cond these.deployments 1 0

-- none is named twice: commas part no more names than there are of these
abbrev pub is_each_once : Scope → Text → Bool
is_each_once these text = nat_le (length (slice_split is_list_comma text)) (how_many these)

-- what is given of the resources that are mirrored, where there is a cluster or isn't
abbrev pub given_resources : Bool → Text → Result Scope Fault
given_resources false text = Err (WantsCluster Resources)
given_resources true text =
    if are_resources text && is_each_once (named_resources text) text then Ok (named_resources text) else Err OtherResources

-- the same, if anything is given: else all are
abbrev pub scope_resources : Bool → Option Text → Result Scope Fault
scope_resources is_cluster None = Ok all_served
scope_resources is_cluster (Some text) = given_resources is_cluster text

-- a server's options, where what is to be mirrored of its cluster is served, with where its log begins; a mirror
-- follows a peer or a cluster, and only the latter has namespaces
abbrev pub with_scope : List Row → ServeOptions → Result ServeOptions Fault
with_scope rows options =
    if is_some options.cluster && is_some options.peer then Err ClusterWithPeer
    else if not (is_some options.cluster) && is_some (first_of (option_text Namespace) rows) then Err (WantsCluster Namespace)
    else and_then (λ (served : Scope). with_first rows (record options { resources = served }))
    (scope_resources (is_some options.cluster) (first_of (option_text Resources) rows))

-- a server's options with what is given of its cluster, and of where its log begins
abbrev pub with_cluster : List Row → ServeOptions → Result ServeOptions Fault
with_cluster rows options =
    and_then (λ given. with_scope rows (record options { cluster = given })) (optional rows Cluster 1 65535)

-- a server's options with what is given of its peer, of its cluster, and of where its log begins
abbrev pub with_peer : List Row → ServeOptions → Result ServeOptions Fault
with_peer rows options =
    and_then (λ given. with_cluster rows (record options { peer = given })) (optional rows Peer 1 65535)

-- how a server is set: the settings, and what is given of its port, its workers, the connections that it takes, its
-- peer and its log
abbrev pub with_connections : List Row → Settings → Result ServeOptions Fault
with_connections rows settings =
    and_then (λ port. and_then (λ workers. and_then (λ open_at_once. and_then (λ connections. with_peer rows (record { port = port; workers = workers; «open» = open_at_once; connections = connections; peer = None; cluster = None; resources = all_served; first = 1; history_mib = 256; settings = settings }))
    (number rows Connections 0 (2 ^ 62) 0))
    (number rows Open 1 65536 16384))
    (number rows Workers 1 64 4))
    (number rows Port 0 65535 8001)

-- how a server is set by all options of `serve`
abbrev pub serve_of : List Row → Result ServeOptions Fault
serve_of rows = and_then (λ settings. with_connections rows settings) (settings_of rows)

-- the namespace that a text names
abbrev pub namespace_named : Text → Result Text Fault
namespace_named text = if is_namespace text then Ok text else Err BadNamespace

-- the same, if a text is given
abbrev pub namespace_given : Option Text → Result (Option Text) Fault
namespace_given None = Ok None
namespace_given (Some text) = and_then (λ name. Ok (Some name)) (namespace_named text)

-- a server that is set so, and mirrors the pods of this namespace alone
abbrev pub ask_named : ServeOptions → Option Text → Result ServeAsk Fault
ask_named options namespace = Ok (record { options = options; namespace = namespace })

-- a server that is set so, with the namespace that a text names, if one is given
abbrev pub ask_with : Option Text → ServeOptions → Result ServeAsk Fault
ask_with given options = and_then (ask_named options) (namespace_given given)

-- what the options of `serve` ask for
abbrev pub serve_ask_of : List Row → Result ServeAsk Fault
serve_ask_of rows = and_then (ask_with (first_of (option_text Namespace) rows)) (serve_of rows)

-- the load that the options of `load` ask for
abbrev pub load_of : List Row → Result LoadOptions Fault
load_of rows =
    and_then (λ from. and_then (λ requests. Ok (record { from = from; requests = requests }))
    (number rows Requests 0 100000 1000))
    (number rows From 0 (2 ^ 62) 1)

-- ---- the words of a command

-- clap found a fault with them
abbrev pub IsMisused : App → List Text → Fault → Type 0
IsMisused command words fault = (fault ≡ Misused) × (fault_of command words ≢ [])

-- clap finds no fault with the words, and their options give this, or are at fault; or clap finds one
abbrev pub ReadsOptions : {A : Type 0} → App → (List Row → Result A Fault) → List Text → Result A WordsNo → Type 0
ReadsOptions command options_of words (Ok options) =
    (fault_of command words ≡ []) × (options_of (matches_of command words) ≡ Ok options)
ReadsOptions command options_of words (Err (Bad fault)) =
    IsMisused command words fault ⊎ ((fault_of command words ≡ []) × (options_of (matches_of command words) ≡ Err fault))
ReadsOptions command options_of words (Err Memory) = ⊤

-- the words of the command `session` give these settings, or are refused
abbrev pub ReadsSettings : List Text → Result Settings WordsNo → Type 0
ReadsSettings words answer = ReadsOptions session settings_of words answer

-- the words of the command `serve` ask for this server, or are refused
abbrev pub ReadsServe : List Text → Result ServeAsk WordsNo → Type 0
ReadsServe words answer = ReadsOptions serve serve_ask_of words answer

-- the words of the command `load` ask for this load, or are refused
abbrev pub ReadsLoad : List Text → Result LoadOptions WordsNo → Type 0
ReadsLoad words answer = ReadsOptions load load_of words answer

-- a check has no options, so clap alone refuses its words
abbrev pub ReadsCheck : List Text → Result Unit WordsNo → Type 0
ReadsCheck words (Ok nothing) = fault_of check words ≡ []
ReadsCheck words (Err (Bad fault)) = IsMisused check words fault
ReadsCheck words (Err Memory) = ⊤

-- ---- why words are refused

-- clap found a fault with them, or there was no memory
abbrev pub HasFault : App → List Text → WordsNo → Type 0
HasFault command words (Bad fault) = IsMisused command words fault
HasFault command words Memory = ⊤

-- why, by the kind of clap's error
abbrev pub refusal : ErrorKind → WordsNo
refusal OutOfMemory = Memory
refusal other = Bad Misused

-- ---- what a part of the words gives

-- this is given, or is at fault, or there was no memory
abbrev pub WordsGive : {A : Type 0} → Result A Fault → Result A WordsNo → Type 0
WordsGive wanted (Ok given) = wanted ≡ Ok given
WordsGive wanted (Err (Bad fault)) = wanted ≡ Err fault
WordsGive wanted (Err Memory) = ⊤

-- the same, as one that may be given
abbrev pub some : {A : Type 0} → Result A WordsNo → Result (Option A) WordsNo
some (Ok given) = Ok (Some given)
some (Err why) = Err why
