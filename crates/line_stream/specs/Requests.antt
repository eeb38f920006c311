-- The requests of watches of pods (Kubernetes API concepts, "Efficient detection of changes"; KEP-3157), as they are written.
use Rattle.std.specs.Prelude.{ℕ, List, [], ◌∷◌, ◌++◌, Option, None, Some, codes, decimal}
use Rattle.form_urlencoded.specs.Form.{extend_pairs}
use Rattle.line_stream.specs.declared.start.Start.{Start}
use Rattle.line_stream.specs.declared.start.Start.TheVariants.{State, Revision}

-- the path of all pods, or of those in a namespace
abbrev pub pods_path : Option (List ℕ) → List ℕ
pods_path None = codes "/api/v1/pods"
pods_path (Some ns) = codes "/api/v1/namespaces/" ++ (ns ++ codes "/pods")

-- ---- the query

-- a name and its value
abbrev pub Pair : Type 0
Pair = List ℕ × List ℕ

-- where the watch starts: from a state, told by initial events that a bookmark ends; or from a revision
abbrev pub start_pairs : Start → List Pair
start_pairs State = (codes "sendInitialEvents", codes "true") ∷ (codes "resourceVersionMatch", codes "NotOlderThan") ∷ []
start_pairs (Revision from) = (codes "resourceVersion", decimal from) ∷ []

-- a selector, where it has a text
abbrev pub selector_pair : List ℕ → List ℕ → List Pair
selector_pair name [] = []
selector_pair name (b ∷ text) = (name, b ∷ text) ∷ []

abbrev pub pairs_of : Start → List ℕ → List ℕ → List Pair
pairs_of start label field =
    ((codes "watch", codes "true") ∷ start_pairs start)
    ++ ((codes "allowWatchBookmarks", codes "true") ∷ (selector_pair (codes "labelSelector") label ++ selector_pair (codes "fieldSelector") field))

-- ---- the request

-- a GET of the path with this query, that asks no more of its connection than to be HTTP/1.1
abbrev pub request_of : Option (List ℕ) → List ℕ → List ℕ
request_of ns form = codes "GET " ++ (pods_path ns ++ (codes "?" ++ (form ++ codes " HTTP/1.1\r\nHost: localhost\r\n\r\n")))

abbrev pub request_text : Option (List ℕ) → Start → List ℕ → List ℕ → List ℕ
request_text ns start label field = request_of ns (extend_pairs [] (pairs_of start label field))
