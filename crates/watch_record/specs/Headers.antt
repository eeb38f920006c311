-- The first line of a record, and what is read in it.
use Rattle.std.specs.Prelude.{ℕ, ◌^◌, Bool, ◌&&◌, nat_le, List, [], ◌∷◌, ◌++◌, codes, decimal, Option, Some, None, option_map, option_and_then, bytes_eq, if◌then◌else◌}
use Rattle.std.specs.List.{concat}
use Rattle.json.specs.Print.{quoted}
use Rattle.serde_json.specs.Data.{Data}
use Rattle.serde_json.specs.Find.{get, as_str, as_number, as_u64}
use Rattle.serde_json.specs.Read.{read}
use Rattle.kube_meta.specs.Resources.{plural_of, of_plural}
use Rattle.kube_meta.specs.declared.resources.Resource.{Resource}
use Rattle.watch_record.specs.declared.header.Header.{Header}

-- its text, compact and with the members in the order of their names, up to the query
abbrev pub header_front : Header → List ℕ
header_front h =
    concat (codes "{\"first\":" ∷ decimal h.first ∷ codes ",\"floor\":" ∷ decimal h.floor
    ∷ codes ",\"namespace\":" ∷ quoted h.namespace ∷ codes "," ∷ [])

-- its text from the query on
abbrev pub header_back : Header → List ℕ
header_back h =
    concat (codes "\"query\":" ∷ quoted h.query ∷ codes ",\"resource\":\"" ∷ plural_of h.resource
    ∷ codes "\",\"window\":" ∷ decimal h.window ∷ codes "}" ∷ [])

-- its whole text: the first line of a record, without its line feed
abbrev pub header_text : Header → List ℕ
header_text h = header_front h ++ header_back h

-- ---- what a value holds of one

-- the number of this member, if it is there and is one from 0 to 2 ^ 64 - 1
abbrev pub number_in : List ℕ → Data → Option ℕ
number_in name d = option_and_then as_u64 (option_and_then as_number (get name d))

-- the text of this member, if it is there and is one
abbrev pub text_member : List ℕ → Data → Option (List ℕ)
text_member name d = option_and_then as_str (get name d)

-- the resource that the member `resource` names as paths do, if it names one
abbrev pub resource_in : Data → Option Resource
resource_in d = option_and_then of_plural (text_member (codes "resource") d)

-- the header's numbers, if all are there: the first revision, the floor and the window
abbrev pub numbers_in : Data → Option (ℕ × ℕ × ℕ)
numbers_in d =
    option_and_then (λ first. option_and_then (λ floor. option_map (λ window. (first, floor, window))
    (number_in (codes "window") d)) (number_in (codes "floor") d)) (number_in (codes "first") d)

-- what was watched, if all of it is there: the namespace, the query and the resource
abbrev pub texts_in : Data → Option (List ℕ × List ℕ × Resource)
texts_in d =
    option_and_then (λ namespace. option_and_then (λ query. option_map (λ resource. (namespace, query, resource))
    (resource_in d)) (text_member (codes "query") d)) (text_member (codes "namespace") d)

-- the header of these numbers and of what was watched, if both are there
abbrev pub header_from : Option (ℕ × ℕ × ℕ) → Option (List ℕ × List ℕ × Resource) → Option Header
header_from None texts = None
header_from (Some numbers) None = None
header_from (Some numbers) (Some texts) =
    Some (record { first = numbers.0; floor = numbers.1; window = numbers.2; namespace = texts.0; query = texts.1; resource = texts.2 })

-- the header that a value holds, if it holds all of one; it may hold more, and numbers out of range
abbrev pub header_in : Data → Option Header
header_in d = header_from (numbers_in d) (texts_in d)

-- ---- the headers

-- a log can begin at the first revision, and a cache's window keeps at least one change
abbrev pub is_in_range : Header → Bool
is_in_range h = nat_le 1 h.first && (nat_le h.first (2 ^ 62) && nat_le 1 h.window)

-- the header, where its text is that line
abbrev pub header_at : List ℕ → Header → Option Header
header_at line h = if bytes_eq (header_text h) line && is_in_range h then Some h else None

-- the header that a line is
abbrev pub header_of : List ℕ → Option Header
header_of line = option_and_then (header_at line) (option_and_then header_in (read line))
