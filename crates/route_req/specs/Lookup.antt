-- The place of a path as the code looks it up, segment by segment. That it is the one that the table of paths gives is what `place_at` promises.
use Rattle.std.specs.Prelude.{ℕ, bytes_eq, ◌&&◌, ◌==◌, length, List, [], ◌∷◌, codes, Option, Some, None, option_map, option_and_then, if◌then◌else◌}
use Rattle.std.specs.Option.{option_map_or}
use Rattle.kube_meta.specs.Names.{is_namespace, is_object_name}
use Rattle.kube_meta.specs.declared.resources.Resource.{Resource}
use Rattle.kube_meta.specs.Resources.{of_group}
use Rattle.route_req.specs.declared.documents.Document.{Document}
use Rattle.route_req.specs.declared.documents.Document.TheVariants as document
use Rattle.route_req.specs.declared.documents.Probe.TheVariants as probe
use Rattle.route_req.specs.declared.places.Place.{Place}
use Rattle.route_req.specs.declared.places.Place.TheVariants.{Described, Everywhere, Namespaced, Named, OfMetrics, OfCut, OfCompact, OfRestart, OfDisconnect, OfTransaction}

-- what stands behind a first segment
abbrev pub behind : List ℕ → List (List ℕ) → Option (List (List ℕ))
behind word [] = None
behind word (first ∷ rest) = if bytes_eq first word then Some rest else None

abbrev pub namespaced : List ℕ → List ℕ → Option Resource → Option Place
namespaced word ns resource =
    if bytes_eq word (codes "namespaces") && is_namespace ns then option_map (λ r. Namespaced r ns) resource else None

abbrev pub named : List ℕ → List ℕ → Option Resource → List ℕ → Option Place
named word ns resource name =
    if bytes_eq word (codes "namespaces") && (is_namespace ns && is_object_name name) then option_map (λ r. Named r ns name) resource else None

-- the place of the segments behind what the paths of a group's version begin with
abbrev pub place_behind : List ℕ → List ℕ → List (List ℕ) → Option Place
place_behind group version (plural ∷ []) = option_map (λ r. Everywhere r) (of_group group version plural)
place_behind group version (word ∷ ns ∷ plural ∷ []) = namespaced word ns (of_group group version plural)
place_behind group version (word ∷ ns ∷ plural ∷ name ∷ []) = named word ns (of_group group version plural) name
place_behind group version path = None

-- behind `api`
abbrev pub core_place : List (List ℕ) → Option Place
core_place [] = None
core_place (version ∷ rest) = place_behind [] version rest

-- behind `apis`, where a group has a name
abbrev pub group_place : List (List ℕ) → Option Place
group_place (group ∷ version ∷ rest) = if length group == 0 then None else place_behind group version rest
group_place path = None

abbrev pub own_word : List ℕ → Option Place
own_word word =
    if bytes_eq word (codes "cut") then Some OfCut else
    (if bytes_eq word (codes "compact") then Some OfCompact else
    (if bytes_eq word (codes "restart") then Some OfRestart else
    (if bytes_eq word (codes "disconnect") then Some OfDisconnect else
    (if bytes_eq word (codes "transaction") then Some OfTransaction else None))))

-- the place of the segments behind `watchcache`
abbrev pub own_place : List (List ℕ) → Option Place
own_place (word ∷ []) = own_word word
own_place path = None

-- the place of the segments behind `metrics`
abbrev pub metrics_place : List (List ℕ) → Option Place
metrics_place [] = Some OfMetrics
metrics_place (last ∷ []) = if length last == 0 then Some OfMetrics else None
metrics_place path = None

-- of the server's own paths first, then of the core group, then of the others
abbrev pub api_place : List (List ℕ) → Option Place
api_place path =
    option_map_or metrics_place (behind (codes "metrics") path)
    (option_map_or own_place (behind (codes "watchcache") path)
    (option_map_or core_place (behind (codes "api") path)
    (option_and_then group_place (behind (codes "apis") path))))

-- ---- what describes the server

-- the last segment, unless it is empty
abbrev pub last_kept : List ℕ → List (List ℕ)
last_kept [] = []
last_kept (byte ∷ more) = (byte ∷ more) ∷ []

-- the path without the slash behind it, if it has one
abbrev pub before_slash : List (List ℕ) → List (List ℕ)
before_slash [] = []
before_slash (last ∷ []) = last_kept last
before_slash (first ∷ next ∷ rest) = first ∷ before_slash (next ∷ rest)

abbrev pub document_word : List ℕ → Option Document
document_word word =
    if bytes_eq word (codes "version") then Some document.Version else
    (if bytes_eq word (codes "api") then Some document.CoreVersions else
    (if bytes_eq word (codes "apis") then Some document.Groups else
    (if bytes_eq word (codes "livez") then Some (document.Probe probe.Livez) else
    (if bytes_eq word (codes "readyz") then Some (document.Probe probe.Readyz) else
    (if bytes_eq word (codes "healthz") then Some (document.Probe probe.Healthz) else None)))))

abbrev pub document_pair : List ℕ → List ℕ → Option Document
document_pair base word =
    if bytes_eq base (codes "api") && bytes_eq word (codes "v1") then Some document.CoreResources else
    (if bytes_eq base (codes "apis") && bytes_eq word (codes "apps") then Some document.AppsGroup else
    (if bytes_eq base (codes "openapi") && bytes_eq word (codes "v2") then Some document.OpenApi else None))

abbrev pub apps_document : List ℕ → List ℕ → List ℕ → Option Document
apps_document base group version =
    if bytes_eq base (codes "apis") && (bytes_eq group (codes "apps") && bytes_eq version (codes "v1")) then Some document.AppsResources else None

abbrev pub namespace_document : List ℕ → List ℕ → List ℕ → List ℕ → Option Document
namespace_document base version word ns =
    if bytes_eq base (codes "api") && (bytes_eq version (codes "v1") && (bytes_eq word (codes "namespaces") && is_namespace ns)) then Some (document.Namespace ns) else None

-- the text of a path that has no slash behind it
abbrev pub document_at : List (List ℕ) → Option Document
document_at (word ∷ []) = document_word word
document_at (base ∷ word ∷ []) = document_pair base word
document_at (base ∷ group ∷ version ∷ []) = apps_document base group version
document_at (base ∷ version ∷ word ∷ ns ∷ []) = namespace_document base version word ns
document_at path = None

-- what describes the server first, then all else
abbrev pub place_found : List (List ℕ) → Option Place
place_found path = option_map_or (λ text. Some (Described text)) (document_at (before_slash path)) (api_place path)
