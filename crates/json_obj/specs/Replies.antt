-- The JSON of lists, bookmarks and failures, as the Kubernetes API shows them.
use Rattle.std.specs.Prelude.{ℕ, List, [], ◌∷◌, ◌++◌, Bool, true, false, Option, Some, None, codes, decimal}
use Rattle.std.specs.List.{concat}
use Rattle.json.specs.Print.{quoted}
use Rattle.json_obj.specs.declared.pieces.EventType.{EventType}
use Rattle.json_obj.specs.declared.pieces.EventType.TheVariants.{Added, Modified, Deleted, Bookmark, Error}
use Rattle.json_obj.specs.declared.replies.More.{More}
use Rattle.json_obj.specs.declared.replies.Refusal.{Refusal}

-- ---- lists: `{"apiVersion":"v1","items":[` .. `],"kind":"PodList","metadata":{..}}`

-- what stands before the items
abbrev pub list_front : List ℕ → List ℕ
list_front version = concat (codes "{\"apiVersion\":" ∷ quoted version ∷ codes ",\"items\":[" ∷ [])

-- how many items are left, where that is told
abbrev pub left_text : Option ℕ → List ℕ
left_text None = []
left_text (Some n) = concat (codes "\"remainingItemCount\":" ∷ decimal n ∷ codes "," ∷ [])

-- where the next page begins, if there is one
abbrev pub more_text : Option More → List ℕ
more_text None = []
more_text (Some more) = concat (codes "\"continue\":" ∷ quoted more.token ∷ codes "," ∷ left_text more.left ∷ [])

-- what stands after the items
abbrev pub list_back : List ℕ → ℕ → Option More → List ℕ
list_back kind revision more =
    concat (codes "],\"kind\":" ∷ quoted kind ∷ codes ",\"metadata\":{" ∷ more_text more
    ∷ codes "\"resourceVersion\":\"" ∷ decimal revision ∷ codes "\"}}" ∷ [])

-- the items after the first, each behind a comma
abbrev pub later_items : List (List ℕ) → List ℕ
later_items [] = []
later_items (item ∷ items) = 44 ∷ (item ++ later_items items)

-- the items, joined by commas
abbrev pub items_text : List (List ℕ) → List ℕ
items_text [] = []
items_text (item ∷ items) = item ++ later_items items

-- a list of these items
abbrev pub list_text : List ℕ → List ℕ → ℕ → Option More → List (List ℕ) → List ℕ
list_text version kind revision more items = list_front version ++ (items_text items ++ list_back kind revision more)

-- ---- bookmarks

-- the bookmark that ends the initial events of a watch says so (KEP-3157)
abbrev pub annotations_text : Bool → List ℕ
annotations_text false = []
annotations_text true = codes "\"annotations\":{\"k8s.io/initial-events-end\":\"true\"},"

-- the object of a bookmark (KEP-956): it has this version and kind, and of its metadata the revision alone, annotated
-- where the bookmark is the closing one
abbrev pub bookmark_text : List ℕ → List ℕ → ℕ → Bool → List ℕ
bookmark_text version kind revision closing =
    concat (codes "{\"apiVersion\":" ∷ quoted version ∷ codes ",\"kind\":" ∷ quoted kind ∷ codes ",\"metadata\":{"
    ∷ annotations_text closing ∷ codes "\"resourceVersion\":\"" ∷ decimal revision ∷ codes "\"}}" ∷ [])

-- ---- failures: `kind` is `Status`

-- a revision that is not reached yet is to be asked for again in a second
abbrev pub details_text : Bool → List ℕ
details_text false = []
details_text true = codes "\"details\":{\"causes\":[{\"message\":\"Too large resource version\",\"reason\":\"ResourceVersionTooLarge\"}],\"retryAfterSeconds\":1},"

-- the Status of a failure: the refusal's HTTP status code, its reason in one word, and its message for people
abbrev pub status_text : Refusal → List ℕ
status_text refusal =
    concat (codes "{\"apiVersion\":\"v1\",\"code\":" ∷ decimal refusal.code ∷ codes "," ∷ details_text refusal.too_large
    ∷ codes "\"kind\":\"Status\",\"message\":" ∷ quoted refusal.message ∷ codes ",\"metadata\":{},\"reason\":" ∷ quoted refusal.reason
    ∷ codes ",\"status\":\"Failure\"}" ∷ [])

-- ---- events of a watch: `{"type":"ADDED","object":{..}}`

-- what a line of a watch calls the type of its event (Kubernetes API concepts, "Efficient detection of changes")
abbrev pub type_text : EventType → List ℕ
type_text Added = codes "ADDED"
type_text Modified = codes "MODIFIED"
type_text Deleted = codes "DELETED"
type_text Bookmark = codes "BOOKMARK"
type_text Error = codes "ERROR"

-- what stands before the object
abbrev pub event_front : EventType → List ℕ
event_front type = concat (codes "{\"type\":\"" ∷ type_text type ∷ codes "\",\"object\":" ∷ [])

-- what stands after it
abbrev pub event_back : List ℕ
event_back = codes "}"

-- a line of a watch: the type of an event, and the object that it is of
abbrev pub event_text : EventType → List ℕ → List ℕ
event_text type object = event_front type ++ (object ++ event_back)

-- ---- the answer of an operation: a number

-- the JSON object with one member, the number that is answered
abbrev pub value_text : ℕ → List ℕ
value_text value = concat (codes "{\"value\":" ∷ decimal value ∷ codes "}" ∷ [])

-- ---- a resource version that is too old: the Status of a list, and of a watch's error

-- the message: which resource version was asked for, and the floor that it is below
abbrev pub expired_message : ℕ → ℕ → List ℕ
expired_message asked floor = concat (codes "too old resource version: " ∷ decimal asked ∷ codes " (" ∷ decimal floor ∷ codes ")" ∷ [])

-- the Status: 410 with the reason `Expired`, upon which a client lists anew (API concepts, "410 Gone responses")
abbrev pub expired_text : ℕ → ℕ → List ℕ
expired_text asked floor = status_text (record { code = 410; reason = codes "Expired"; message = expired_message asked floor; too_large = false })
