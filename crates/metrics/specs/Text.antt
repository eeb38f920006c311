-- What a monitor is told, as text: families of samples, each behind two lines that say its meaning and its type (version
-- 0.0.4 of the text format of Prometheus). Lines are joined by line feeds: the one that ends the last line isn't part of
-- the text. A family that has no samples is left out.
use Rattle.std.specs.Prelude.{ℕ, ◌==◌, ◌++◌, List, [], ◌∷◌, length, codes, decimal, Option, Some, None, if◌then◌else◌}
use Rattle.std.specs.List.{flat_map}
use Rattle.kube_meta.specs.Resources.{group_of, version_of, plural_of}
use Rattle.kube_meta.specs.declared.resources.Resource.{Resource}
use Rattle.kube_meta.specs.declared.resources.Resource.TheVariants.{Pods, ConfigMaps, Deployments}
use Rattle.metrics.specs.declared.caches.Metrics.{Metrics}
use Rattle.metrics.specs.declared.caches.CacheMetrics.{CacheMetrics}
use Rattle.metrics.specs.declared.served.Mirrored.{Mirrored}
use Rattle.metrics.specs.declared.served.RequestCount.{RequestCount}
use Rattle.metrics.specs.declared.served.Served.{Served}
use Rattle.metrics.specs.Families.{family_name, help_of, family_kind, figure_of, all_figures, mirror_figure_of, all_mirror_figures, verb_name}
use Rattle.metrics.specs.declared.families.Family.{Family}
use Rattle.metrics.specs.declared.families.Family.TheVariants as family
use Rattle.metrics.specs.declared.families.Figure.{Figure}
use Rattle.metrics.specs.declared.families.MirrorFigure.{MirrorFigure}
use Rattle.metrics.specs.declared.text.Cached.{Cached}

-- the two lines in front of a family's samples
unfoldable pub head : Family → List ℕ
head f = codes "# HELP " ++ family_name f ++ codes " " ++ help_of f ++ codes "\n# TYPE " ++ family_name f ++ codes " " ++ family_kind f

-- one sample, behind the line feed before it
unfoldable pub sample : Family → List ℕ → ℕ → List ℕ
sample f labels value = codes "\n" ++ family_name f ++ labels ++ codes " " ++ decimal value

-- a family of one sample, which has no labels
abbrev pub alone : Family → ℕ → List ℕ
alone f value = head f ++ sample f [] value

-- the same behind another family
abbrev pub next_alone : Family → ℕ → List ℕ
next_alone f value = 10 ∷ alone f value

-- ---- caches

-- the labels of a resource, as the core group has no name
unfoldable pub resource_labels : Resource → List ℕ
resource_labels r = codes "{group=\"" ++ group_of r ++ codes "\",resource=\"" ++ plural_of r ++ codes "\"}"

-- the cache of a resource, where there is one
abbrev pub present : Resource → Option CacheMetrics → List Cached
present resource None = []
present resource (Some told) = record { resource = resource; told = told } ∷ []

-- the caches that there are
abbrev pub caches_of : Metrics → List Cached
caches_of metrics = present Pods metrics.pods ++ present ConfigMaps metrics.config_maps ++ present Deployments metrics.deployments

-- the figure of one cache
abbrev pub cache_sample : Figure → Cached → List ℕ
cache_sample of cache = sample (family.OfCaches of) (resource_labels cache.resource) (figure_of of cache.told)

-- a figure of all caches
abbrev pub figure_text : List Cached → Figure → List ℕ
figure_text caches of = 10 ∷ head (family.OfCaches of) ++ flat_map (cache_sample of) caches

-- all figures of all caches; none where there is no cache
abbrev pub caches_text : List Cached → List ℕ
caches_text caches = if length caches == 0 then [] else flat_map (figure_text caches) all_figures

-- ---- what was served

-- the labels that say of which resource something was asked
abbrev pub three_labels : List ℕ → List ℕ → List ℕ → List ℕ
three_labels group version plural = codes "\",group=\"" ++ group ++ codes "\",version=\"" ++ version ++ codes "\",resource=\"" ++ plural

-- they are empty where it was of none
abbrev pub names : Option Resource → List ℕ
names None = three_labels [] [] []
names (Some r) = three_labels (group_of r) (version_of r) (plural_of r)

-- the labels of requests of one kind that were answered by one code
unfoldable pub request_labels : RequestCount → List ℕ
request_labels r = codes "{verb=\"" ++ verb_name r.verb ++ names r.resource ++ codes "\",code=\"" ++ decimal r.code ++ codes "\"}"

-- how many they were
abbrev pub request_sample : RequestCount → List ℕ
request_sample r = sample family.Requests (request_labels r) r.count

-- all of them; none where none was answered
abbrev pub requests_text : List RequestCount → List ℕ
requests_text requests =
    if length requests == 0 then [] else 10 ∷ head family.Requests ++ flat_map request_sample requests

-- the label of a resource that is mirrored
unfoldable pub mirror_label : Resource → List ℕ
mirror_label r = codes "{resource=\"" ++ plural_of r ++ codes "\"}"

-- the figure of one mirror
abbrev pub mirror_sample : MirrorFigure → Mirrored → List ℕ
mirror_sample of mirror = sample (family.OfMirrors of) (mirror_label mirror.resource) (mirror_figure_of of mirror)

-- a figure of all mirrors
abbrev pub mirror_text : List Mirrored → MirrorFigure → List ℕ
mirror_text mirrors of = 10 ∷ head (family.OfMirrors of) ++ flat_map (mirror_sample of) mirrors

-- all figures of all mirrors; none where there is no mirror
abbrev pub mirrors_text : List Mirrored → List ℕ
mirrors_text mirrors = if length mirrors == 0 then [] else flat_map (mirror_text mirrors) all_mirror_figures

-- what a server counts of what it served
abbrev pub counts_text : Served → List ℕ
counts_text served =
    next_alone family.Connections served.connections ++ next_alone family.Events served.events
    ++ requests_text served.requests.items ++ mirrors_text served.mirrors.items

-- nothing of that where none counts it
abbrev pub served_text : Option Served → List ℕ
served_text None = []
served_text (Some served) = counts_text served

-- ---- the whole

-- what is told of the log
abbrev pub log_text : Metrics → List ℕ
log_text metrics =
    alone family.Revision metrics.revision ++ next_alone family.Floor metrics.floor
    ++ next_alone family.Generation metrics.generation

-- what a monitor is told: of the log, of its caches, and of what was served
abbrev pub metrics_text : Metrics → List ℕ
metrics_text metrics = log_text metrics ++ caches_text (caches_of metrics) ++ served_text metrics.served
