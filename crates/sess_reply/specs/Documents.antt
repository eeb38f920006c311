-- The texts by which the server describes itself, with the members that Kubernetes gives them (discovery in the API
-- concepts; version.Info, APIVersions, APIGroupList, APIGroup, APIResourceList and Namespace in the API reference).
use Rattle.std.specs.Prelude.{ℕ, List, [], ◌∷◌, ◌++◌, Bool, codes, if◌then◌else◌}
use Rattle.std.specs.List.{concat}
use Rattle.client_api.specs.declared.resources.Resources.{Resources}
use Rattle.kube_meta.specs.Resources.{plural_of, kind_of}
use Rattle.kube_meta.specs.declared.resources.Resource.{Resource}
use Rattle.kube_meta.specs.declared.resources.Resource.TheVariants.{Pods, ConfigMaps, Deployments}
use Rattle.route_req.specs.declared.documents.Document.{Document}
use Rattle.route_req.specs.declared.documents.Document.TheVariants.{Version, CoreVersions, Groups, AppsGroup, CoreResources, AppsResources, OpenApi, Namespace, Probe}

-- ---- resources

-- the name of one object
abbrev pub singular_of : Resource → List ℕ
singular_of Pods = codes "pod"
singular_of ConfigMaps = codes "configmap"
singular_of Deployments = codes "deployment"

-- the name that clients take for it at a command line
abbrev pub short_name_of : Resource → List ℕ
short_name_of Pods = codes "po"
short_name_of ConfigMaps = codes "cm"
short_name_of Deployments = codes "deploy"

-- whether `all` names it too, beside others
abbrev pub categories_of : Resource → List ℕ
categories_of Pods = codes ",\"categories\":[\"all\"]"
categories_of ConfigMaps = codes ""
categories_of Deployments = codes ",\"categories\":[\"all\"]"

-- an APIResource, with the verbs that are served
abbrev pub resource_text : Resource → List ℕ
resource_text r =
    concat (codes "{\"name\":\"" ∷ plural_of r ∷ codes "\",\"singularName\":\"" ∷ singular_of r
    ∷ codes "\",\"namespaced\":true,\"kind\":\"" ∷ kind_of r
    ∷ codes "\",\"verbs\":[\"create\",\"delete\",\"get\",\"list\",\"update\",\"watch\"],\"shortNames\":[\"" ∷ short_name_of r
    ∷ codes "\"]" ∷ categories_of r ∷ codes "}" ∷ [])

-- that of the namespaces, of which one can be got by its name
abbrev pub namespaces_text : List ℕ
namespaces_text =
    codes "{\"name\":\"namespaces\",\"singularName\":\"namespace\",\"namespaced\":false,\"kind\":\"Namespace\",\"verbs\":[\"get\"],\"shortNames\":[\"ns\"]}"

-- the resource behind others, if it is served
abbrev pub item_of : Bool → Resource → List ℕ
item_of is_served r = if is_served then 44 ∷ resource_text r else []

-- ---- groups

-- the version of the group `apps` that is served
abbrev pub apps_version : List ℕ
apps_version = codes "{\"groupVersion\":\"apps/v1\",\"version\":\"v1\"}"

-- the members of the group `apps` behind its name, where it is served
abbrev pub apps_versions : List ℕ
apps_versions = concat (codes "\"versions\":[" ∷ apps_version ∷ codes "],\"preferredVersion\":" ∷ apps_version ∷ [])

-- ---- OpenAPI

-- a `Document` of OpenAPI 2.0 that describes nothing, in protobuf: its field 1, `swagger`, with the length 4 and the text
-- `2.0` and a line feed, which isn't here, since one ends each reply
abbrev pub empty_open_api : List ℕ
empty_open_api = 10 ∷ 4 ∷ codes "2.0"

-- ---- the whole

-- the text of a document at a server that has these resources: JSON, of a probe a plain text, and the OpenAPI document in
-- protobuf; without deployments there is nothing in the group `apps`
abbrev pub document_text : Resources → Document → List ℕ
document_text served Version =
    codes "{\"major\":\"1\",\"minor\":\"32\",\"gitVersion\":\"v1.32.0+watchcache\",\"gitCommit\":\"\",\"gitTreeState\":\"\",\"buildDate\":\"\",\"goVersion\":\"\",\"compiler\":\"\",\"platform\":\"\"}"
document_text served CoreVersions = codes "{\"kind\":\"APIVersions\",\"versions\":[\"v1\"],\"serverAddressByClientCIDRs\":[]}"
document_text served Groups =
    concat (codes "{\"kind\":\"APIGroupList\",\"apiVersion\":\"v1\",\"groups\":["
    ∷ (if served.deployments then codes "{\"name\":\"apps\"," ++ apps_versions ++ codes "}" else []) ∷ codes "]}" ∷ [])
document_text served AppsGroup =
    concat (codes "{\"kind\":\"APIGroup\",\"apiVersion\":\"v1\",\"name\":\"apps\","
    ∷ (if served.deployments then apps_versions else codes "\"versions\":[]") ∷ codes "}" ∷ [])
document_text served CoreResources =
    concat (codes "{\"kind\":\"APIResourceList\",\"groupVersion\":\"v1\",\"resources\":["
    ∷ namespaces_text ∷ item_of served.pods Pods ∷ item_of served.config_maps ConfigMaps ∷ codes "]}" ∷ [])
document_text served AppsResources =
    concat (codes "{\"kind\":\"APIResourceList\",\"apiVersion\":\"v1\",\"groupVersion\":\"apps/v1\",\"resources\":["
    ∷ (if served.deployments then resource_text Deployments else []) ∷ codes "]}" ∷ [])
document_text served OpenApi = empty_open_api
document_text served (Namespace name) =
    concat (codes "{\"kind\":\"Namespace\",\"apiVersion\":\"v1\",\"metadata\":{\"name\":\"" ∷ name
    ∷ codes "\",\"labels\":{\"kubernetes.io/metadata.name\":\"" ∷ name
    ∷ codes "\"}},\"spec\":{\"finalizers\":[\"kubernetes\"]},\"status\":{\"phase\":\"Active\"}}" ∷ [])
document_text served (Probe probe) = codes "ok"
