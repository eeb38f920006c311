-- The requests to the API server of a cluster (Kubernetes API concepts, "Retrieving large results sets in chunks",
-- "Efficient detection of changes"), as they are written.
use Rattle.std.specs.Prelude.{ℕ, List, [], ◌∷◌, ◌++◌, Option, None, Some, codes, decimal}
use Rattle.form_urlencoded.specs.Form.{extend_pairs}
use Rattle.kube_meta.specs.Resources.{base_path_of, plural_of}
use Rattle.kube_meta.specs.declared.resources.Resource.{Resource}
use Rattle.line_stream.specs.Requests.{Pair, selector_pair}

-- a GET of a target, from which JSON is wanted
abbrev pub get_request : List ℕ → List ℕ
get_request target = codes "GET " ++ (target ++ codes " HTTP/1.1\r\nHost: localhost\r\nAccept: application/json\r\n\r\n")

-- the path of all objects of this name below a base, or of those in a namespace
abbrev pub path_below : List ℕ → List ℕ → Option (List ℕ) → List ℕ
path_below base plural None = base ++ (codes "/" ++ plural)
path_below base plural (Some ns) = base ++ (codes "/namespaces/" ++ (ns ++ (codes "/" ++ plural)))

-- the same of a resource
abbrev pub collection_path : Resource → Option (List ℕ) → List ℕ
collection_path resource ns = path_below (base_path_of resource) (plural_of resource) ns

-- a GET of it with this query
abbrev pub collection_request : Resource → Option (List ℕ) → List ℕ → List ℕ
collection_request resource ns form = get_request (collection_path resource ns ++ (codes "?" ++ form))

-- ---- a list in pages

-- a page of 500 items: the first, or the one that a token stands for
abbrev pub page_pairs : List ℕ → List Pair
page_pairs token = (codes "limit", codes "500") ∷ selector_pair (codes "continue") token

abbrev pub page_request : Resource → Option (List ℕ) → List ℕ → List ℕ
page_request resource ns token = collection_request resource ns (extend_pairs [] (page_pairs token))

-- ---- a watch

-- what changes behind a revision, for a minute, with bookmarks
abbrev pub changes_pairs : ℕ → List Pair
changes_pairs from =
    (codes "watch", codes "true") ∷ (codes "resourceVersion", decimal from)
    ∷ (codes "allowWatchBookmarks", codes "true") ∷ (codes "timeoutSeconds", codes "60") ∷ []

abbrev pub changes_request : Resource → Option (List ℕ) → ℕ → List ℕ
changes_request resource ns from = collection_request resource ns (extend_pairs [] (changes_pairs from))

-- ---- a namespace

-- the one that each cluster has, by whose uid it is told from others
abbrev pub namespace_request : List ℕ
namespace_request = get_request (codes "/api/v1/namespaces/kube-system")
