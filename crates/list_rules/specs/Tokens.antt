-- Continue tokens: the base64url text without padding (RFC 4648, section 5) of seven texts, with a line feed after each of the first six.
use Rattle.std.specs.Prelude.{◌≡◌, ℕ, Bool, false, ◌&&◌, ◌==◌, List, [], ◌∷◌, ◌++◌, map, Option, None, Some, is_some, Result, Ok, Err, unwrap_or, option_map, option_and_then, codes, bytes_eq, decimal, if◌then◌else◌}
use Rattle.std.specs.List.{before_first, after_first, list_any}
use Rattle.std.specs.Result.{result_ok}
use Rattle.base64.specs.GeneralPurpose.{encode_of, decode_of}
use Rattle.base64.specs.Engines.{url_safe_no_pad}
use Rattle.kube_meta.specs.declared.revisions.RevNo.{RevNo}
use Rattle.kube_meta.specs.Keys.{is_key}
use Rattle.kube_meta.specs.Resources.{plural_of, of_plural}
use Rattle.kube_meta.specs.Revisions.{revision_of}
use Rattle.select_all.specs.declared.selection.Selection.{Selection}
use Rattle.list_rules.specs.declared.refusal.TokenNo.{TokenNo}
use Rattle.list_rules.specs.declared.refusal.TokenNo.TheVariants.{NotToken, OtherList, Memory}

-- the byte that ends each text of a token but the last
abbrev pub is_line_feed : ℕ → Bool
is_line_feed b = b == 10

-- ---- writing

-- a text, a line feed, and what follows
abbrev pub line : List ℕ → List ℕ → List ℕ
line text rest = text ++ 10 ∷ rest

-- each line feed replaced by a space
abbrev pub spaced : List ℕ → List ℕ
spaced text = map (λ b. if is_line_feed b then 32 else b) text

-- the namespace of a list, empty for all
abbrev pub list_namespace : Option (List ℕ) → List ℕ
list_namespace ns = unwrap_or ns []

-- the seven texts, for the page of a list that ends with the object `key` at the revision
abbrev pub token_lines : Selection → List ℕ → List ℕ → ℕ → List ℕ → List ℕ
token_lines s label field rev key =
    line (codes "1") (line (decimal rev) (line (plural_of s.resource) (line (list_namespace s.ns) (line key (line (spaced label) field)))))

-- the `continue` text that a client is given to ask for the page behind `key`, at the same revision
unfoldable pub token_text : Selection → List ℕ → List ℕ → ℕ → List ℕ → List ℕ
token_text s label field rev key = encode_of url_safe_no_pad (token_lines s label field rev key)

-- ---- reading

-- the seven texts of a token: its form, where the next page begins, and which list it is of
pub record TokenTexts : Type 0 where
  pub version : List ℕ
  pub revision : List ℕ
  pub resource : List ℕ
  pub namespace : List ℕ
  pub key : List ℕ
  pub label : List ℕ
  pub field : List ℕ

-- what stands before the first line feed and what behind it, if there is one
abbrev pub line_of : List ℕ → Option (List ℕ × List ℕ)
line_of text = if list_any is_line_feed text then Some (before_first is_line_feed text, after_first is_line_feed text) else None

-- the first six lines and what follows them, if there are six line feeds
abbrev pub token_texts : List ℕ → Option TokenTexts
token_texts body =
    option_and_then (λ a. option_and_then (λ b. option_and_then (λ c. option_and_then (λ d. option_and_then (λ e. option_map
    (λ f. record { version = a.0; revision = b.0; resource = c.0; namespace = d.0; key = e.0; label = f.0; field = f.1 })
    (line_of e.1)) (line_of d.1)) (line_of c.1)) (line_of b.1)) (line_of a.1)) (line_of body)

-- the revision that a token's text was read as; it has to be at least 1
abbrev pub revision_read : Result ℕ RevNo → Option ℕ
revision_read (Ok n) = if n == 0 then None else Some n
revision_read (Err fault) = None

-- the revision in texts of the first form, of a resource that there is
abbrev pub token_revision : TokenTexts → Option ℕ
token_revision t =
    if bytes_eq t.version (codes "1") && is_some (of_plural t.resource) then revision_read (revision_of t.revision) else None

-- the key in a token's texts, if it has a namespace and a name as objects have them
abbrev pub key_in : TokenTexts → Option (List ℕ)
key_in t = if is_key t.key then Some t.key else None

-- the texts are of this list: of its resource, its namespace and its two selectors, each as it was written
abbrev pub is_of_list : TokenTexts → Selection → List ℕ → List ℕ → Bool
is_of_list t s label field =
    bytes_eq t.resource (plural_of s.resource) && (bytes_eq t.namespace (list_namespace s.ns) && (bytes_eq t.label (spaced label) && bytes_eq t.field field))

-- where the next page begins: at a token's revision and behind its key, if it has both and is of the list
abbrev pub page_start : Option ℕ → Option (List ℕ) → Bool → Result (ℕ × List ℕ) TokenNo
page_start (Some rev) (Some key) of_list = if of_list then Ok (rev, key) else Err OtherList
page_start rev key of_list = Err NotToken

-- the revision and the key of the texts, or why there are none
abbrev pub texts_read : Option TokenTexts → Selection → List ℕ → List ℕ → Result (ℕ × List ℕ) TokenNo
texts_read None s label field = Err NotToken
texts_read (Some t) s label field = page_start (token_revision t) (key_in t) (is_of_list t s label field)

-- the bytes that a text is the encoding of, if it is one
unfoldable pub token_body : List ℕ → Option (List ℕ)
token_body text = result_ok (decode_of url_safe_no_pad text)

-- at which revision and behind which key a `continue` text lets this list go on, or why it is refused
abbrev pub token_read : List ℕ → Selection → List ℕ → List ℕ → Result (ℕ × List ℕ) TokenNo
token_read text s label field = texts_read (option_and_then token_texts (token_body text)) s label field

-- What was read is what reading gives; what was refused is what reading refuses, unless memory ran out.
abbrev pub ReadsToken : Result (ℕ × List ℕ) TokenNo → Result (ℕ × List ℕ) TokenNo → Type 0
ReadsToken (Ok place) read = read ≡ Ok place
ReadsToken (Err Memory) read = Unit {0}
ReadsToken (Err NotToken) read = read ≡ Err NotToken
ReadsToken (Err OtherList) read = read ≡ Err OtherList

-- a text of one line
abbrev pub IsOneLine : List ℕ → Type 0
IsOneLine text = list_any is_line_feed text ≡ false
