-- The grammars of names, as the Kubernetes pages "Object Names and IDs" and "Labels and Selectors" give them, on the bytes of a text. Each is a test, so that a reader of texts can decide by it; the fact of the same name says that the test passes.
use Rattle.std.specs.Prelude.{ℕ, Bool, ◌&&◌, ◌||◌, ◌==◌, ◌-◌, nat_lt, nat_le, List, length, slice_index, IsTrue, if◌then◌else◌}
use Rattle.std.specs.Char.{is_ascii_lowercase, is_ascii_digit, is_ascii_alphanumeric}
use Rattle.std.specs.List.{list_all, list_any, slice_split, before_first, after_first}

-- `/` parts a namespace from a name, and a label key's prefix from its name
abbrev pub is_slash : ℕ → Bool
is_slash b = b == 47

-- `.` stands between the parts of a subdomain
abbrev pub is_dot : ℕ → Bool
is_dot b = b == 46

-- `a` to `z` and `0` to `9`: how a part of a DNS name begins and ends
abbrev pub is_dns_edge : ℕ → Bool
is_dns_edge b = is_ascii_lowercase b || is_ascii_digit b

-- the same and `-`: what it is made of
abbrev pub is_dns_byte : ℕ → Bool
is_dns_byte b = is_dns_edge b || b == 45

-- letters, digits, `-`, `_` and `.`: what a label name is made of; it begins and ends with a letter or digit
abbrev pub is_label_byte : ℕ → Bool
is_label_byte b = is_ascii_alphanumeric b || (b == 45 || (b == 95 || b == 46))

-- at least one byte, all of them `inner`, the first and the last `edge`
abbrev pub is_word : (ℕ → Bool) → (ℕ → Bool) → List ℕ → Bool
is_word edge inner text =
    nat_lt 0 (length text) && (list_all inner text && (edge (slice_index text 0) && edge (slice_index text (length text - 1))))

-- one part of a DNS name, of any length
abbrev pub is_dns_part : List ℕ → Bool
is_dns_part text = is_word is_dns_edge is_dns_byte text

-- RFC 1123 label: one part of at most 63 bytes
abbrev pub is_dns_label : List ℕ → Bool
is_dns_label text = nat_le (length text) 63 && is_dns_part text

-- RFC 1123 subdomain: one or more parts joined by `.`, at most 253 bytes in all
abbrev pub is_dns_subdomain : List ℕ → Bool
is_dns_subdomain text = nat_le (length text) 253 && list_all is_dns_part (slice_split is_dot text)

-- the name of a namespace
abbrev pub is_namespace : List ℕ → Bool
is_namespace text = is_dns_label text

-- the name of a pod, a config map or a deployment
abbrev pub is_object_name : List ℕ → Bool
is_object_name text = is_dns_subdomain text

-- the same words as in a label's name, of any length
abbrev pub is_label_word : List ℕ → Bool
is_label_word text = is_word is_ascii_alphanumeric is_label_byte text

-- the name segment of a label key
abbrev pub is_label_name : List ℕ → Bool
is_label_name text = nat_le (length text) 63 && is_label_word text

-- a label name, or a subdomain, `/` and a label name
abbrev pub is_label_key : List ℕ → Bool
is_label_key text =
    if list_any is_slash text
    then is_dns_subdomain (before_first is_slash text) && is_label_name (after_first is_slash text)
    else is_label_name text

-- empty, or of the form of a label name
abbrev pub is_label_value : List ℕ → Bool
is_label_value text = length text == 0 || is_label_name text

-- the text can be the name of a namespace: an RFC 1123 label
abbrev pub IsNamespace : List ℕ → Type 0
IsNamespace text = IsTrue (is_namespace text)

-- the text can be the name of an object of any of the resources: an RFC 1123 subdomain
abbrev pub IsObjectName : List ℕ → Type 0
IsObjectName text = IsTrue (is_object_name text)

-- the text can be the key of a label: a name segment, with or without a prefix and `/` before it
abbrev pub IsLabelKey : List ℕ → Type 0
IsLabelKey text = IsTrue (is_label_key text)

-- the text can be the value of a label: it may be empty, and has at most 63 bytes
abbrev pub IsLabelValue : List ℕ → Type 0
IsLabelValue text = IsTrue (is_label_value text)
