-- The resources and their names in paths, objects and messages, as the Kubernetes API reference has them.
use Rattle.std.specs.Prelude.{◌≡◌, ◌↔◌, ℕ, Bool, ◌&&◌, ◌==◌, List, [], ◌∷◌, ◌++◌, codes, Option, Some, find, bytes_eq, slice_index_or, length, if◌then◌else◌}
use Rattle.kube_meta.specs.declared.resources.Resource.{Resource}
use Rattle.kube_meta.specs.declared.resources.Resource.TheVariants.{Pods, ConfigMaps, Deployments}

-- all of them
abbrev pub all_resources : List Resource
all_resources = Pods ∷ ConfigMaps ∷ Deployments ∷ []

-- where the resource stands among them; resources are ordered by it
abbrev pub place_of : Resource → ℕ
place_of Pods = 0
place_of ConfigMaps = 1
place_of Deployments = 2

-- whether the two are one resource
abbrev pub same_resource : Resource → Resource → Bool
same_resource a b = place_of a == place_of b

-- the name in paths
abbrev pub plural_of : Resource → List ℕ
plural_of Pods = codes "pods"
plural_of ConfigMaps = codes "configmaps"
plural_of Deployments = codes "deployments"

-- the name of its API group; the core group has none
abbrev pub group_of : Resource → List ℕ
group_of Pods = codes ""
group_of ConfigMaps = codes ""
group_of Deployments = codes "apps"

-- the version of its group that is served
abbrev pub version_of : Resource → List ℕ
version_of Pods = codes "v1"
version_of ConfigMaps = codes "v1"
version_of Deployments = codes "v1"

-- `apiVersion` of an object and of a list
abbrev pub api_version_of : Resource → List ℕ
api_version_of Pods = codes "v1"
api_version_of ConfigMaps = codes "v1"
api_version_of Deployments = codes "apps/v1"

-- `kind` of an object
abbrev pub kind_of : Resource → List ℕ
kind_of Pods = codes "Pod"
kind_of ConfigMaps = codes "ConfigMap"
kind_of Deployments = codes "Deployment"

-- `kind` of a list
abbrev pub list_kind_of : Resource → List ℕ
list_kind_of Pods = codes "PodList"
list_kind_of ConfigMaps = codes "ConfigMapList"
list_kind_of Deployments = codes "DeploymentList"

-- the name in messages, with the group where there is one
abbrev pub message_name_of : Resource → List ℕ
message_name_of Pods = codes "pods"
message_name_of ConfigMaps = codes "configmaps"
message_name_of Deployments = codes "deployments.apps"

-- what paths begin with
abbrev pub base_path_of : Resource → List ℕ
base_path_of Pods = codes "/api/v1"
base_path_of ConfigMaps = codes "/api/v1"
base_path_of Deployments = codes "/apis/apps/v1"

-- the fields that a field selector may name, beside `metadata.name` and `metadata.namespace`
abbrev pub listed_fields_of : Resource → List (List ℕ)
listed_fields_of Pods = codes "spec.nodeName" ∷ codes "status.phase" ∷ []
listed_fields_of ConfigMaps = []
listed_fields_of Deployments = []

-- ---- resources by their names

-- the resource with this name in paths, if there is one
abbrev pub of_plural : List ℕ → Option Resource
of_plural plural = find (λ r. bytes_eq plural (plural_of r)) all_resources

-- these are its group, its version and its name in paths
abbrev pub is_named : Resource → List ℕ → List ℕ → List ℕ → Bool
is_named r group version plural = bytes_eq group (group_of r) && (bytes_eq version (version_of r) && bytes_eq plural (plural_of r))

-- the resource of a group and version with this name in paths, if there is one
abbrev pub of_group : List ℕ → List ℕ → List ℕ → Option Resource
of_group group version plural = find (λ r. is_named r group version plural) all_resources

-- each resource is found at its place among all of them
abbrev pub EachIsListed : Type 0
EachIsListed = (r other : Resource) → slice_index_or all_resources (place_of r) other ≡ r

-- a name in paths is that of the resource that is found by it, and of no other
abbrev pub PluralsAreReadBack : Type 0
PluralsAreReadBack = (plural : List ℕ) (r : Resource) → (of_plural plural ≡ Some r) ↔ (plural ≡ plural_of r)

-- and so are a group, a version and a name in it
abbrev pub GroupsAreReadBack : Type 0
GroupsAreReadBack =
    (group version plural : List ℕ) (r : Resource) →
    (of_group group version plural ≡ Some r) ↔ ((group ≡ group_of r) × (version ≡ version_of r) × (plural ≡ plural_of r))

-- `apiVersion`, the names in messages and the beginnings of paths are those of the group and the version
pub record HasNamesOfGroup (r : Resource) : Type 0 where
  pub api_version : api_version_of r ≡ (if length (group_of r) == 0 then version_of r else group_of r ++ codes "/" ++ version_of r)
  pub message_name : message_name_of r ≡ (if length (group_of r) == 0 then plural_of r else plural_of r ++ codes "." ++ group_of r)
  pub base_path : base_path_of r ≡ (if length (group_of r) == 0 then codes "/api/" ++ version_of r else codes "/apis/" ++ group_of r ++ codes "/" ++ version_of r)

-- the names of each resource are those of its group and its version
abbrev pub NamesAgree : Type 0
NamesAgree = (r : Resource) → HasNamesOfGroup r
