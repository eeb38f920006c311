-- Which form a client asks for by its Accept field (RFC 9110, section 12.5.1; Kubernetes API concepts, "Metadata-only fetches"). Its elements stand between commas; an element is a media type and its parameters, between semicolons, with white space around each.
use Rattle.std.specs.Prelude.{ℕ, ◌-◌, ◌==◌, ◌&&◌, ◌||◌, List, length, take, drop, Bool, false, not, find, position, unwrap_or, codes}
use Rattle.std.specs.Char.{is_ascii_whitespace}
use Rattle.std.specs.List.{slice_split, list_any, prefix_len, suffix_len}
use Rattle.std.specs.Option.{option_map_or}
use Rattle.std.specs.Str.{bytes_eq}

-- `,` stands between the elements of the field
abbrev pub is_comma : ℕ → Bool
is_comma b = b == 44

-- `;` stands before each parameter of an element
abbrev pub is_semicolon : ℕ → Bool
is_semicolon b = b == 59

-- without the white space at both ends
abbrev pub trimmed : List ℕ → List ℕ
trimmed text =
    let rest = drop (prefix_len is_ascii_whitespace text) text in
    take (length rest - suffix_len is_ascii_whitespace rest) rest

-- the elements of the field, in the order in which the client wrote them
abbrev pub elements : List ℕ → List (List ℕ)
elements accept = slice_split is_comma accept

-- the media type, and then the parameters; no media type that is served is a parameter's text
abbrev pub parts : List ℕ → List (List ℕ)
parts element = slice_split is_semicolon element

-- a part of an element is this text, but for white space around it
abbrev pub is_part : List ℕ → List ℕ → Bool
is_part text part = bytes_eq (trimmed part) text

-- what stands before the first semicolon
abbrev pub media_type : List ℕ → List ℕ
media_type element = take (unwrap_or (position is_semicolon element) (length element)) element

-- the element is of this media type, whatever its parameters are
abbrev pub has_type : List ℕ → List ℕ → Bool
has_type name element = is_part name (media_type element)

-- the element has this parameter: a name, `=` and a value
abbrev pub has_parameter : List ℕ → List ℕ → Bool
has_parameter text element = list_any (is_part text) (parts element)

-- a parameter `as`, whatever it asks for
abbrev pub is_as : List ℕ → Bool
is_as part = bytes_eq (take 3 (trimmed part)) (codes "as=")

-- the element has a parameter `as`, which asks for objects of another kind, as `PartialObjectMetadata` or `Table`
abbrev pub has_as : List ℕ → Bool
has_as element = list_any is_as (parts element)

-- it asks for metadata alone
abbrev pub asks_metadata : List ℕ → Bool
asks_metadata element =
    has_type (codes "application/json") element
    && ((has_parameter (codes "as=PartialObjectMetadata") element || has_parameter (codes "as=PartialObjectMetadataList") element)
    && (has_parameter (codes "g=meta.k8s.io") element && has_parameter (codes "v=v1") element))

-- it asks for whole objects
abbrev pub asks_whole : List ℕ → Bool
asks_whole element = (has_type (codes "application/json") element || has_type (codes "*/*") element) && not (has_as element)

-- the element asks for one of the two forms that are served
abbrev pub decides : List ℕ → Bool
decides element = asks_metadata element || asks_whole element

-- the first element that decides does; without one, objects are shown whole
abbrev pub wants_metadata : List ℕ → Bool
wants_metadata accept = option_map_or asks_metadata (find decides (elements accept)) false
