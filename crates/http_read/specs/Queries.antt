-- Paths and queries of request targets (RFC 3986, sections 3.3 and 3.4; the URL Standard, section 5).
use Rattle.std.specs.Prelude.{ℕ, Bool, not, ◌||◌, ◌==◌, List, [], ◌∷◌, map, find, Option, None, Some, if◌then◌else◌, codes}
use Rattle.std.specs.Str.{bytes_eq, str_eq_ignore_ascii_case}
use Rattle.std.specs.Str.Lossy.{utf8_lossy}
use Rattle.std.specs.List.{before_first, after_first}
use Rattle.std.specs.Option.{option_map}
use Rattle.percent_encoding.specs.Percent.{percent_decode}
use Rattle.form_urlencoded.specs.Form.{split, raw_pairs, decode}

-- the byte `/`, behind which each segment of a path begins
abbrev pub slash : ℕ
slash = 47

-- the byte `?`, at whose first place a target's path ends and its query begins
abbrev pub question_mark : ℕ
question_mark = 63

-- a segment of a path, decoded; what isn't UTF-8 in it becomes U+FFFD
abbrev pub segment_text : List ℕ → List ℕ
segment_text raw = utf8_lossy (percent_decode raw)

-- the segments after the first `/`, and none where the text doesn't begin with `/`
abbrev pub segments_of : List ℕ → List (List ℕ)
segments_of [] = []
segments_of (b ∷ rest) = if b == slash then map segment_text (split slash rest) else []

-- the path of a target: what stands before the first `?`
abbrev pub path_of : List ℕ → List (List ℕ)
path_of target = segments_of (before_first (λ b. b == question_mark) target)

-- a name and a value of a query, decoded
abbrev pub pair_text : List ℕ × List ℕ → List ℕ × List ℕ
pair_text raw = (utf8_lossy (decode raw.0), utf8_lossy (decode raw.1))

-- the pairs of a query, in order
abbrev pub query_pairs : List ℕ → List (List ℕ × List ℕ)
query_pairs query = map pair_text (raw_pairs query)

-- the query of a target: what stands after the first `?`, and nothing where there is none
abbrev pub query_of : List ℕ → List ℕ
query_of target = after_first (λ b. b == question_mark) target

-- the value of the first of the pairs that has this name
abbrev pub first_value : List ℕ → List (List ℕ × List ℕ) → Option (List ℕ)
first_value name pairs = option_map (λ pair. pair.1) (find (λ pair. bytes_eq pair.0 name) pairs)

-- an empty value counts as none
abbrev pub unless_empty : Option (List ℕ) → Option (List ℕ)
unless_empty None = None
unless_empty (Some []) = None
unless_empty (Some (b ∷ rest)) = Some (b ∷ rest)

-- a truth parameter's value is false where it is `0` or, in any case, `false`
abbrev pub is_truth : List ℕ → Bool
is_truth value = not (bytes_eq value (codes "0") || str_eq_ignore_ascii_case value (codes "false"))
