-- A session over three logs, one of each resource: each request is answered by the client of its resource.
use Rattle.std.specs.Prelude.{◌≡◌, ◌⊎◌, ℕ, Bool, List, [], ◌∷◌, ◌++◌, codes, bytes_eq, filter, Option, None, if◌then◌else◌}
use Rattle.std.specs.Option.{option_map_or}
use Rattle.kube_meta.specs.Resources.{of_group, plural_of, same_resource}
use Rattle.kube_meta.specs.declared.resources.Resource.{Resource}
use Rattle.kube_meta.specs.declared.resources.Resource.TheVariants.{Pods, ConfigMaps, Deployments}
use Rattle.http_read.specs.declared.request.Req.{Req}
use Rattle.rev_front.specs.Passes.{Pass}
use Rattle.rev_log.specs.Changes.{RevisionData}
use Rattle.kube_meta.specs.Rows.{RowData}
use Rattle.up_api.specs.declared.settings.Settings.{Settings}
use Rattle.client_api.specs.Facts.{Facts}
use Rattle.route_req.specs.Places.{base_of}
use Rattle.sess_turns.specs.Terms.{Terms, terms_of}
use Rattle.sess_serve.specs.Wire.{Wire}
use Rattle.sess_serve.specs.Http.{http}
use Rattle.sess_serve.specs.Steps.{Exchange, RunBy, AreAlone}
use Rattle.sess_serve.specs.Ends.{Traffic, EndedBy, Knows, KnowsAloneBy}
use Rattle.sess_serve.specs.Serving.{BeginsWithBy}
use Rattle.sess_serve.specs.Session.{requests_of, readings_in}
use Rattle.sess_serve.specs.declared.ends.SessionEnd.{SessionEnd}

-- ---- which resource a request is of

-- the resource that stands behind what the paths of a group's version begin with: /{resource}, and in a namespace
-- /namespaces/{ns}/{resource} and /namespaces/{ns}/{resource}/{name}
abbrev pub resource_behind : List ℕ → List ℕ → List (List ℕ) → Option Resource
resource_behind group version (plural ∷ []) = of_group group version plural
resource_behind group version (word ∷ ns ∷ plural ∷ []) = of_group group version plural
resource_behind group version (word ∷ ns ∷ plural ∷ name ∷ []) = of_group group version plural
resource_behind group version path = None

-- behind `api`, of the core group, which has no name
abbrev pub resource_in_core : List (List ℕ) → Option Resource
resource_in_core [] = None
resource_in_core (version ∷ rest) = resource_behind [] version rest

-- behind `apis`, of another group
abbrev pub resource_in_group : List (List ℕ) → Option Resource
resource_in_group (group ∷ version ∷ rest) = resource_behind group version rest
resource_in_group path = None

-- the resource that a path has
abbrev pub resource_at : List (List ℕ) → Option Resource
resource_at [] = None
resource_at (base ∷ rest) =
    if bytes_eq base (codes "api") then resource_in_core rest else
    (if bytes_eq base (codes "apis") then resource_in_group rest else None)

-- the resource of a request: that of its path, and pods where that has none
abbrev pub resource_of : Req → Resource
resource_of req = option_map_or (λ resource. resource) (resource_at req.path) Pods

-- the path is that of a resource: of all its objects, of those of a namespace, or of one of them
abbrev pub IsPathIn : List (List ℕ) → Resource → Type 0
IsPathIn path resource =
    (path ≡ base_of resource ++ plural_of resource ∷ [])
    ⊎ (((ns : List ℕ) × (path ≡ base_of resource ++ codes "namespaces" ∷ ns ∷ plural_of resource ∷ []))
    ⊎ ((ns : List ℕ) × (name : List ℕ) × (path ≡ base_of resource ++ codes "namespaces" ∷ ns ∷ plural_of resource ∷ name ∷ [])))

-- A request whose path is that of a resource is of that resource.
abbrev pub RequestsAreOfTheirPath : Type 0
RequestsAreOfTheirPath = (req : Req) (resource : Resource) → IsPathIn req.path resource → resource_of req ≡ resource

-- the exchanges whose requests are of a resource, in order
abbrev pub exchanges_of : Resource → List Exchange → List Exchange
exchanges_of resource exchanges = filter (λ (e : Exchange). same_resource (resource_of e.request) resource) exchanges

-- ---- a session of three logs

-- The strand of a session on one of its logs: what it is told once of the log and its client; whether nobody else holds
-- the log and the client knows it whole; and what is known of it before the session and after it.
pub record Strand : Type 1 where
  pub terms : Terms
  pub whole : Type 0
  pub before : Pass RevisionData
  pub after : Pass RevisionData

-- that of a client: of its log's base rows, whether that is a mirror's, what the client tells of itself at first,
-- whether nobody else holds the log, and the two passes
abbrev pub strand_of : Settings → List RowData → Bool → Facts → Type 0 → Pass RevisionData → Pass RevisionData → Strand
strand_of settings base mirror facts whole before after =
    record { terms = terms_of base mirror facts settings; whole = whole; before = before; after = after }

-- one for each resource
abbrev pub strands : Strand → Strand → Strand → Resource → Strand
strands pods config_maps deployments Pods = pods
strands pods config_maps deployments ConfigMaps = config_maps
strands pods config_maps deployments Deployments = deployments

-- The strand of a resource: each answer to a request of the resource stands between two passes of its log, and no other
-- request changed what is known of that.
pub record IsStrandBy (wire : Wire) (strand : Strand) (resource : Resource) (exchanges : List Exchange) (rest : List ℕ) (how : SessionEnd) : Type 0 where
  pub last : Pass RevisionData
  pub run : RunBy wire strand.terms strand.before (exchanges_of resource exchanges) last
  pub knows : Knows how last strand.after
  pub others : (last ≡ strand.after) ⊎ BeginsWithBy wire (λ req. resource_of req ≡ resource) rest
  pub sole : strand.whole → AreAlone strand.terms strand.before (exchanges_of resource exchanges) × KnowsAloneBy wire strand.terms how last rest strand.after

-- A session of three logs, of the same settings: the answered requests stand in the bytes, in order; those of each
-- resource are answered by its own log; the bytes out and the readings are those of the answers, in order; and the end
-- has its cause. How answers are written, and how many there may be, goes by the settings.
pub record IsEachSessionBy (wire : Wire) (strands_of : Resource → Strand) (traffic : Traffic) (how : SessionEnd) : Type 0 where
  pub exchanges : List Exchange
  pub rest : List ℕ
  pub reads : wire.reads_some traffic.taken (requests_of exchanges) rest
  pub strand : (resource : Resource) → IsStrandBy wire (strands_of resource) resource exchanges rest how
  pub readings : traffic.readings ≡ readings_in exchanges
  pub ended : EndedBy wire (strands_of Pods).terms exchanges rest traffic how

-- the same, where the wire is HTTP
abbrev pub IsStrand : Strand → Resource → List Exchange → List ℕ → SessionEnd → Type 0
IsStrand = IsStrandBy http

abbrev pub IsEachSession : (Resource → Strand) → Traffic → SessionEnd → Type 0
IsEachSession = IsEachSessionBy http
