-- What a request's head says (RFC 9110, sections 5 to 7; RFC 9112, sections 2, 3, 6 and 9.6; RFC 6455, section 4.1), in
-- the profile that this server reads. The grammar of heads is that of `httparse`.
use Rattle.std.specs.Prelude.{ℕ, Bool, false, ◌&&◌, ◌||◌, ◌==◌, nat_lt, nat_le, List, [], ◌∷◌, map, filter, find, length, Option, None, Some, Result, Ok, Err, unwrap_or, is_some, if◌then◌else◌, codes}
use Rattle.std.specs.Char.{is_ascii_digit}
use Rattle.std.specs.List.{before_first, list_any, list_all}
use Rattle.std.specs.Option.{option_map, option_map_or}
use Rattle.std.specs.Str.{bytes_eq, str_eq_ignore_ascii_case}
use Rattle.std.specs.Str.Lossy.{utf8_lossy}
use Rattle.std.specs.Str.Parse.{digits_value}
use Rattle.form_urlencoded.specs.Form.{split}
use Rattle.httparse.specs.Grammar.{RequestHead, trim_ows}
use Rattle.httparse.specs.Spans.{name_and_value}
use Rattle.http_read.specs.declared.request.Upgrade.{Upgrade}
use Rattle.http_read.specs.declared.refusal.ReqNo.{ReqNo}
use Rattle.http_read.specs.declared.refusal.ReqNo.TheVariants.{Malformed, BodyTooLong, NeedsLength}

-- the most bytes of a head, with the empty line that ends it; one that goes on beyond them is refused
abbrev pub most_head : ℕ
most_head = 16384

-- the most bytes of a body, 1 MiB; a request that announces more is refused
abbrev pub most_body : ℕ
most_body = 1048576

-- the most fields of a head, where each of several fields with one name counts
abbrev pub most_fields : ℕ
most_fields = 64

-- a name and a value, which has no blanks around it
abbrev pub FieldText : Type 0
FieldText = List ℕ × List ℕ

-- the fields of a head, in order
abbrev pub fields_of : RequestHead → List FieldText
fields_of h = map name_and_value h.fields

-- the field has this name, without regard to ASCII case
abbrev pub is_named : List ℕ → FieldText → Bool
is_named name field = str_eq_ignore_ascii_case field.0 name

-- the values of the fields of this name, in order
abbrev pub values_of : List ℕ → List FieldText → List (List ℕ)
values_of name fields = map (λ field. field.1) (filter (is_named name) fields)

-- the value of the first field of this name
abbrev pub value_of : List ℕ → List FieldText → Option (List ℕ)
value_of name fields = option_map (λ field. field.1) (find (is_named name) fields)

-- some field has this name
abbrev pub has_field : List ℕ → List FieldText → Bool
has_field name fields = is_some (value_of name fields)

-- a list, split at its commas and with blanks trimmed, has this element, without regard to ASCII case
abbrev pub has_element : List ℕ → List ℕ → Bool
has_element element value = list_any (λ piece. str_eq_ignore_ascii_case (trim_ows piece) element) (split 44 value)

-- a Connection field has this element
abbrev pub connection_has : List ℕ → List FieldText → Bool
connection_has element fields =
    list_any (λ field. is_named (codes "connection") field && has_element element field.1) fields

-- the connection ends with the reply: a Connection field says so, or the reply is to a HEAD, whose clients take no body,
-- so that they couldn't tell where the next reply begins
abbrev pub asks_close : List ℕ → List FieldText → Bool
asks_close method fields = connection_has (codes "close") fields || bytes_eq method (codes "HEAD")

-- the media type that a Content-Type gives, without its parameters (RFC 9110, section 8.3.1)
abbrev pub media_type : List ℕ → List ℕ
media_type value = trim_ows (before_first (λ b. b == 59) value)

-- the media types of protobuf, YAML and CBOR, in which clients of Kubernetes may send objects, and which aren't read
abbrev pub is_unread_type : List ℕ → Bool
is_unread_type name =
    str_eq_ignore_ascii_case name (codes "application/vnd.kubernetes.protobuf")
    || str_eq_ignore_ascii_case name (codes "application/protobuf")
    || str_eq_ignore_ascii_case name (codes "application/x-protobuf")
    || str_eq_ignore_ascii_case name (codes "application/yaml")
    || str_eq_ignore_ascii_case name (codes "application/x-yaml")
    || str_eq_ignore_ascii_case name (codes "text/yaml")
    || str_eq_ignore_ascii_case name (codes "text/x-yaml")
    || str_eq_ignore_ascii_case name (codes "application/cbor")

-- the first Content-Type names a media type that isn't read; where there is none, or another, the body is taken as JSON
abbrev pub is_unreadable : List FieldText → Bool
is_unreadable fields =
    option_map_or (λ value. is_unread_type (media_type value)) (value_of (codes "content-type") fields) false

-- a length is written with 1 to 15 digits
abbrev pub is_length : List ℕ → Bool
is_length value = nat_lt 0 (length value) && nat_le (length value) 15 && list_all is_ascii_digit value

-- the length that a Content-Length field gives
abbrev pub length_value : List ℕ → Option ℕ
length_value value = if is_length value then Some (digits_value 10 value) else None

-- requests with these methods say how long their body is
abbrev pub needs_length : List ℕ → Bool
needs_length method = bytes_eq method (codes "POST") || bytes_eq method (codes "PUT")

-- the length that a Content-Length field gives, where it gives one and the body isn't too long
abbrev pub within_most : Option ℕ → Result ℕ ReqNo
within_most None = Err Malformed
within_most (Some n) = if nat_le n most_body then Ok n else Err BodyTooLong

-- what the Content-Length fields say
abbrev pub length_said : List ℕ → List (List ℕ) → Result ℕ ReqNo
length_said method [] = if needs_length method then Err NeedsLength else Ok 0
length_said method (value ∷ []) = within_most (length_value value)
length_said method (value ∷ another ∷ others) = Err Malformed

-- the length of the body that follows a whole head, or why the request is refused: the version, then Transfer-Encoding,
-- then the form of Content-Length, then its absence, then its size
abbrev pub body_length : ℕ → List ℕ → List FieldText → Result ℕ ReqNo
body_length minor method fields =
    if minor == 1
    then (if has_field (codes "transfer-encoding") fields then Err NeedsLength
    else length_said method (values_of (codes "content-length") fields))
    else Err Malformed

-- a value as text; what isn't UTF-8 in it becomes U+FFFD
abbrev pub text_of : Option (List ℕ) → Option (List ℕ)
text_of value = option_map utf8_lossy value

-- a value as text, empty where there is none
abbrev pub text_or_empty : Option (List ℕ) → List ℕ
text_or_empty value = unwrap_or (text_of value) []

-- a WebSocket is asked for: a GET whose Connection has `upgrade` and whose Upgrade is `websocket`
abbrev pub asks_websocket : List ℕ → List FieldText → Bool
asks_websocket method fields =
    bytes_eq method (codes "GET") && connection_has (codes "upgrade") fields
    && str_eq_ignore_ascii_case (unwrap_or (value_of (codes "upgrade") fields) []) (codes "websocket")

-- the upgrade that is asked for
abbrev pub upgrade_of : List ℕ → List FieldText → Option Upgrade
upgrade_of method fields =
    if asks_websocket method fields
    then Some (record {
      key = text_or_empty (value_of (codes "sec-websocket-key") fields);
      version = text_or_empty (value_of (codes "sec-websocket-version") fields);
    })
    else None
