-- Which paths and methods are served: those of the Kubernetes API for the resources ("Resource URIs" of the API concepts)
-- and for what describes the server ("Discovery", "API health endpoints"), that of metrics, and five of the server's own.
use Rattle.std.specs.Prelude.{◌≡◌, ◌⊎◌, ℕ, Bool, true, false, IsTrue, List, [], ◌∷◌, ◌++◌, codes, Option, Some, None, if◌then◌else◌}
use Rattle.std.specs.Str.{bytes_eq}
use Rattle.kube_meta.specs.Names.{IsNamespace, IsObjectName}
use Rattle.kube_meta.specs.Resources.{plural_of, group_of, version_of}
use Rattle.kube_meta.specs.declared.resources.Resource.{Resource}
use Rattle.route_req.specs.declared.documents.Document.{Document}
use Rattle.route_req.specs.declared.documents.Document.TheVariants as document
use Rattle.route_req.specs.declared.documents.Probe.TheVariants as probe
use Rattle.route_req.specs.declared.places.Place.{Place}
use Rattle.route_req.specs.declared.places.Place.TheVariants.{Described, Everywhere, Namespaced, Named, OfMetrics, OfCut, OfCompact, OfRestart, OfDisconnect, OfTransaction}
use Rattle.route_req.specs.declared.places.Action.{Action}
use Rattle.route_req.specs.declared.places.Action.TheVariants.{Describe, Measure, Read, Create, Get, Replace, Remove, Cut, Compact, Restart, Disconnect, Transact}

-- ---- the table of paths

-- what the paths of a group's version begin with: /api/{version} in the core group, which has no name, and
-- /apis/{group}/{version} in another
abbrev pub base_by : List ℕ → List ℕ → List (List ℕ)
base_by [] version = codes "api" ∷ version ∷ []
base_by (first ∷ more) version = codes "apis" ∷ (first ∷ more) ∷ version ∷ []

-- what the paths of a resource begin with, by its group and its version
abbrev pub base_of : Resource → List (List ℕ)
base_of r = base_by (group_of r) (version_of r)

-- the path of each text that describes the server, in segments
abbrev pub document_path : Document → List (List ℕ)
document_path document.Version = codes "version" ∷ []
document_path document.CoreVersions = codes "api" ∷ []
document_path document.Groups = codes "apis" ∷ []
document_path document.AppsGroup = codes "apis" ∷ codes "apps" ∷ []
document_path document.CoreResources = codes "api" ∷ codes "v1" ∷ []
document_path document.AppsResources = codes "apis" ∷ codes "apps" ∷ codes "v1" ∷ []
document_path document.OpenApi = codes "openapi" ∷ codes "v2" ∷ []
document_path (document.Namespace ns) = codes "api" ∷ codes "v1" ∷ codes "namespaces" ∷ ns ∷ []
document_path (document.Probe probe.Livez) = codes "livez" ∷ []
document_path (document.Probe probe.Readyz) = codes "readyz" ∷ []
document_path (document.Probe probe.Healthz) = codes "healthz" ∷ []

-- the path of metrics, in segments
abbrev pub metrics_path : List (List ℕ)
metrics_path = codes "metrics" ∷ []

-- the path of each place, in segments: behind the base path /{resource}, /namespaces/{ns}/{resource} and
-- /namespaces/{ns}/{resource}/{name}; and /watchcache/cut, /compact, /restart, /disconnect and /transaction
abbrev pub place_path : Place → List (List ℕ)
place_path (Described text) = document_path text
place_path (Everywhere r) = base_of r ++ plural_of r ∷ []
place_path (Namespaced r ns) = base_of r ++ codes "namespaces" ∷ ns ∷ plural_of r ∷ []
place_path (Named r ns name) = base_of r ++ codes "namespaces" ∷ ns ∷ plural_of r ∷ name ∷ []
place_path OfMetrics = metrics_path
place_path OfCut = codes "watchcache" ∷ codes "cut" ∷ []
place_path OfCompact = codes "watchcache" ∷ codes "compact" ∷ []
place_path OfRestart = codes "watchcache" ∷ codes "restart" ∷ []
place_path OfDisconnect = codes "watchcache" ∷ codes "disconnect" ∷ []
place_path OfTransaction = codes "watchcache" ∷ codes "transaction" ∷ []

-- the path is that of the place; a text that describes the server, and metrics, have it with a slash behind it too, which
-- is an empty last segment
abbrev pub IsPathOf : List (List ℕ) → Place → Type 0
IsPathOf path (Described text) = (path ≡ document_path text) ⊎ (path ≡ document_path text ++ [] ∷ [])
IsPathOf path OfMetrics = (path ≡ metrics_path) ⊎ (path ≡ metrics_path ++ [] ∷ [])
IsPathOf path place = path ≡ place_path place

-- the namespace that is described, if it is one, is in the grammar of such names
abbrev pub IsDocument : Document → Type 0
IsDocument (document.Namespace ns) = IsNamespace ns
IsDocument text = Unit {0}

-- the namespace and the name that a place has are in the grammars of such names
abbrev pub IsPlace : Place → Type 0
IsPlace (Described text) = IsDocument text
IsPlace (Namespaced r ns) = IsNamespace ns
IsPlace (Named r ns name) = IsNamespace ns × IsObjectName name
IsPlace place = Unit {0}

-- the path names the place
abbrev pub Names : List (List ℕ) → Place → Type 0
Names path place = IsPathOf path place × IsPlace place

-- the place that the path names, or none where it names none
abbrev pub NamesMaybe : List (List ℕ) → Option Place → Type 0
NamesMaybe path (Some place) = Names path place
NamesMaybe path None = (place : Place) → ¬ (Names path place)

-- no path names two places
abbrev pub PathsNameOnePlace : Type 0
PathsNameOnePlace = (path : List (List ℕ)) (a b : Place) → Names path a → Names path b → a ≡ b

-- ---- the table of methods

-- a place that has one method alone
abbrev pub only : List ℕ → Action → List ℕ → Option Action
only own action method = if bytes_eq method own then Some action else None

-- what a method asks for at a place, if the place has it
abbrev pub action_at : Place → List ℕ → Option Action
action_at (Described text) method = only (codes "GET") (Describe text) method
action_at (Everywhere r) method = only (codes "GET") (Read r None) method
action_at (Namespaced r ns) method =
    if bytes_eq method (codes "GET") then Some (Read r (Some ns)) else
    (if bytes_eq method (codes "POST") then Some (Create r ns) else None)
action_at (Named r ns name) method =
    if bytes_eq method (codes "GET") then Some (Get r ns name) else
    (if bytes_eq method (codes "PUT") then Some (Replace r ns name) else
    (if bytes_eq method (codes "DELETE") then Some (Remove r ns name) else None))
action_at OfMetrics method = only (codes "GET") Measure method
action_at OfCut method = only (codes "POST") Cut method
action_at OfCompact method = only (codes "POST") Compact method
action_at OfRestart method = only (codes "POST") Restart method
action_at OfDisconnect method = only (codes "POST") Disconnect method
action_at OfTransaction method = only (codes "POST") Transact method

-- the namespace and the name of what is asked for are in the grammars
abbrev pub IsAction : Action → Type 0
IsAction (Describe text) = IsDocument text
IsAction (Create r ns) = IsNamespace ns
IsAction (Get r ns name) = IsNamespace ns × IsObjectName name
IsAction (Replace r ns name) = IsNamespace ns × IsObjectName name
IsAction (Remove r ns name) = IsNamespace ns × IsObjectName name
IsAction action = Unit {0}

-- ---- memory

-- what describes a namespace keeps its name
abbrev pub keeps_name : Document → Bool
keeps_name (document.Namespace ns) = true
keeps_name text = false

-- the places whose requests may fail for want of memory: not the operations, nor all else that keeps no name
abbrev pub takes_memory : Place → Bool
takes_memory (Described text) = keeps_name text
takes_memory (Everywhere r) = true
takes_memory (Namespaced r ns) = true
takes_memory (Named r ns name) = true
takes_memory OfTransaction = true
takes_memory place = false

-- a request with this path may fail for want of memory: it names a place whose requests take some
abbrev pub MayLackMemory : List (List ℕ) → Type 0
MayLackMemory path = (place : Place) × Names path place × IsTrue (takes_memory place)
