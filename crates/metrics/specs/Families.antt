-- The families of samples that a monitor is told, by name, meaning and type. What Kubernetes' own server tells too has the
-- name that it has there.
use Rattle.std.specs.Prelude.{ℕ, List, [], ◌∷◌, codes, if◌then◌else◌}
use Rattle.metrics.specs.declared.caches.CacheMetrics.{CacheMetrics}
use Rattle.metrics.specs.declared.served.Mirrored.{Mirrored}
use Rattle.metrics.specs.declared.served.Verb.{Verb}
use Rattle.metrics.specs.declared.served.Verb.TheVariants as verb
use Rattle.metrics.specs.declared.families.Family.{Family}
use Rattle.metrics.specs.declared.families.Family.TheVariants as family
use Rattle.metrics.specs.declared.families.Figure.{Figure}
use Rattle.metrics.specs.declared.families.Figure.TheVariants as figure
use Rattle.metrics.specs.declared.families.MirrorFigure.{MirrorFigure}
use Rattle.metrics.specs.declared.families.MirrorFigure.TheVariants as mirror

-- ---- the figures of a cache

-- all of them, in the order in which they are told
unfoldable pub all_figures : List Figure
all_figures = figure.End ∷ figure.Objects ∷ figure.Window ∷ figure.Floor ∷ figure.Received ∷ figure.Watchers ∷ figure.Behind ∷ figure.Rebuilds ∷ figure.Cuts ∷ []

-- the name of the family of a figure
abbrev pub figure_name : Figure → List ℕ
figure_name figure.End = codes "apiserver_watch_cache_resource_version"
figure_name figure.Objects = codes "apiserver_resource_objects"
figure_name figure.Window = codes "watch_cache_capacity"
figure_name figure.Floor = codes "watchcache_cache_floor"
figure_name figure.Received = codes "apiserver_watch_cache_events_received_total"
figure_name figure.Watchers = codes "watchcache_watchers"
figure_name figure.Behind = codes "watchcache_watchers_behind"
figure_name figure.Rebuilds = codes "watchcache_cache_rebuilds_total"
figure_name figure.Cuts = codes "watchcache_cache_cuts_total"

-- what the samples of its family mean
abbrev pub figure_help : Figure → List ℕ
figure_help figure.End = codes "Revision up to which the watch cache stands for the log, by resource."
figure_help figure.Objects = codes "Number of objects in the watch cache, by resource."
figure_help figure.Window = codes "Number of events that the watch cache keeps at most, by resource."
figure_help figure.Floor = codes "Revision above which the watch cache keeps all events, by resource."
figure_help figure.Received = codes "Counter of events taken into the watch cache, by resource."
figure_help figure.Watchers = codes "Number of open watches, by resource."
figure_help figure.Behind = codes "Number of open watches that catch up from kept events, by resource."
figure_help figure.Rebuilds = codes "Counter of times the watch cache was built anew, by resource."
figure_help figure.Cuts = codes "Counter of times the watch cache found its feed cut, by resource."

-- the type of its family: a counter never falls while the server runs
abbrev pub figure_kind : Figure → List ℕ
figure_kind figure.End = codes "gauge"
figure_kind figure.Objects = codes "gauge"
figure_kind figure.Window = codes "gauge"
figure_kind figure.Floor = codes "gauge"
figure_kind figure.Received = codes "counter"
figure_kind figure.Watchers = codes "gauge"
figure_kind figure.Behind = codes "gauge"
figure_kind figure.Rebuilds = codes "counter"
figure_kind figure.Cuts = codes "counter"

-- its value
abbrev pub figure_of : Figure → CacheMetrics → ℕ
figure_of figure.End told = told.end
figure_of figure.Objects told = told.objects
figure_of figure.Window told = told.window
figure_of figure.Floor told = told.floor
figure_of figure.Received told = told.received
figure_of figure.Watchers told = told.watchers
figure_of figure.Behind told = told.behind
figure_of figure.Rebuilds told = told.rebuilds
figure_of figure.Cuts told = told.cuts

-- ---- the figures of a mirror

-- all of them, in the order in which they are told
unfoldable pub all_mirror_figures : List MirrorFigure
all_mirror_figures = mirror.Following ∷ mirror.Revision ∷ mirror.HeardSeconds ∷ mirror.BeganAnew ∷ mirror.Lines ∷ []

-- the name of the family of a figure
abbrev pub mirror_name : MirrorFigure → List ℕ
mirror_name mirror.Following = codes "watchcache_mirror_following"
mirror_name mirror.Revision = codes "watchcache_mirror_revision"
mirror_name mirror.HeardSeconds = codes "watchcache_mirror_heard_seconds"
mirror_name mirror.BeganAnew = codes "watchcache_mirror_began_anew_total"
mirror_name mirror.Lines = codes "watchcache_mirror_lines_total"

-- what the samples of its family mean
abbrev pub mirror_help : MirrorFigure → List ℕ
mirror_help mirror.Following = codes "Whether the mirror follows its peer, by resource."
mirror_help mirror.Revision = codes "Revision up to which the mirror has heard its peer, by resource."
mirror_help mirror.HeardSeconds = codes "Seconds since the mirror last heard a line or a whole reply of its peer, by resource."
mirror_help mirror.BeganAnew = codes "Counter of times the mirror began anew from all that its peer had, by resource."
mirror_help mirror.Lines = codes "Counter of lines of its peer that the mirror has heard, by resource."

-- the type of its family: a counter never falls while the server runs
abbrev pub mirror_kind : MirrorFigure → List ℕ
mirror_kind mirror.Following = codes "gauge"
mirror_kind mirror.Revision = codes "gauge"
mirror_kind mirror.HeardSeconds = codes "gauge"
mirror_kind mirror.BeganAnew = codes "counter"
mirror_kind mirror.Lines = codes "counter"

-- its value: 1 where the mirror follows its peer, and 0 where it doesn't
abbrev pub mirror_figure_of : MirrorFigure → Mirrored → ℕ
mirror_figure_of mirror.Following told = if told.following then 1 else 0
mirror_figure_of mirror.Revision told = told.revision
mirror_figure_of mirror.HeardSeconds told = told.heard_seconds
mirror_figure_of mirror.BeganAnew told = told.began_anew
mirror_figure_of mirror.Lines told = told.lines

-- ---- all families

-- the name of a family
abbrev pub family_name : Family → List ℕ
family_name family.Revision = codes "watchcache_log_revision"
family_name family.Floor = codes "watchcache_log_floor"
family_name family.Generation = codes "watchcache_log_generation"
family_name (family.OfCaches of_cache) = figure_name of_cache
family_name family.Connections = codes "watchcache_connections"
family_name family.Events = codes "watchcache_events_sent_total"
family_name family.Requests = codes "apiserver_request_total"
family_name (family.OfMirrors of_mirror) = mirror_name of_mirror

-- what its samples mean
abbrev pub help_of : Family → List ℕ
help_of family.Revision = codes "Revision that the log has reached."
help_of family.Floor = codes "Revision from which on the log is kept."
help_of family.Generation = codes "Generation of the log: how often its feeds were cut."
help_of (family.OfCaches of_cache) = figure_help of_cache
help_of family.Connections = codes "Number of open connections."
help_of family.Events = codes "Counter of events told to watches."
help_of family.Requests = codes "Counter of requests, by verb, resource and status code."
help_of (family.OfMirrors of_mirror) = mirror_help of_mirror

-- its type
abbrev pub family_kind : Family → List ℕ
family_kind family.Revision = codes "gauge"
family_kind family.Floor = codes "gauge"
family_kind family.Generation = codes "gauge"
family_kind (family.OfCaches of_cache) = figure_kind of_cache
family_kind family.Connections = codes "gauge"
family_kind family.Events = codes "counter"
family_kind family.Requests = codes "counter"
family_kind (family.OfMirrors of_mirror) = mirror_kind of_mirror

-- ---- requests

-- how a label names what a request asks for
abbrev pub verb_name : Verb → List ℕ
verb_name verb.Get = codes "GET"
verb_name verb.List = codes "LIST"
verb_name verb.Watch = codes "WATCH"
verb_name verb.Create = codes "POST"
verb_name verb.Replace = codes "PUT"
verb_name verb.Remove = codes "DELETE"
verb_name verb.Transact = codes "TRANSACT"
verb_name verb.Operate = codes "OPERATE"
