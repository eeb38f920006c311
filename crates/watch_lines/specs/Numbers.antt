-- What stands around the numbers of bookmarks and losses.
use Rattle.std.specs.Prelude.{ℕ, ◌==◌, Bool, List, [], ◌∷◌, ◌++◌, codes, decimal}
use Rattle.std.specs.List.{concat}
use Rattle.json.specs.Print.{quoted}
use Rattle.json_obj.specs.Replies.{event_front, annotations_text}
use Rattle.json_obj.specs.declared.pieces.EventType.TheVariants.{Bookmark, Error}
use Rattle.kube_meta.specs.Resources.{api_version_of, kind_of}
use Rattle.kube_meta.specs.declared.resources.Resource.{Resource}

abbrev pub is_space : ℕ → Bool
is_space b = b == 32

-- a bookmark, before its revision and behind it
abbrev pub bookmark_front : Resource → Bool → List ℕ
bookmark_front resource closing =
    event_front Bookmark ++ concat (codes "{\"apiVersion\":" ∷ quoted (api_version_of resource) ∷ codes ",\"kind\":" ∷ quoted (kind_of resource)
    ∷ codes ",\"metadata\":{" ∷ annotations_text closing ∷ codes "\"resourceVersion\":\"" ∷ [])

abbrev pub bookmark_back : List ℕ
bookmark_back = codes "\"}}}"

-- a loss, before its first number, and from there on
abbrev pub loss_front : List ℕ
loss_front = event_front Error ++ codes "{\"apiVersion\":\"v1\",\"code\":410,\"kind\":\"Status\",\"message\":\"too old resource version: "

abbrev pub loss_numbers : ℕ → ℕ → List ℕ
loss_numbers at floor = decimal at ++ 32 ∷ (codes "(" ++ (decimal floor ++ codes ")\",\"metadata\":{},\"reason\":\"Expired\",\"status\":\"Failure\"}}"))
