-- The Status of a refusal is read back as that refusal.
use Rattle.std.proofs.Common.{◌≡◌, ℕ, ◌<◌, ◌≤◌, ◌^◌, Bool, true, false, List, [], ◌∷◌, ◌++◌, Some, decimal, refl, sym, ap, ◌∙◌, subst, arith, lit≤, lit<}
use Rattle.std.specs.Prelude.{codes, IsUtf8, bytes_eq}
use Rattle.std.specs.Fmt.{digits}
use Rattle.std.proofs.lemmas.Fmt.{IsAscii-decimal}
use Rattle.std.proofs.lemmas.Option.{same_Some}
use Rattle.std.proofs.lemmas.Slice.Eq.{bytes_eq-Decides}
use Rattle.std.proofs.lemmas.Str.{IsUtf8-append, IsUtf8-from_ascii}
use Rattle.json.specs.Print.{quoted, escape_byte}
use Rattle.json.proofs.Printed.Utf8.{IsUtf8-quoted, IsUtf8-are_ascii}
use Rattle.serde_json.specs.Data.{Data, number, string, array, object, unsigned, no_items, item, Members, no_members, member, depth}
use Rattle.serde_json.specs.Read.{read, max_depth}
use Rattle.serde_json.specs.Written.{has_float, compact_text}
use Rattle.json_obj.specs.Orderly.{IsOrderly}
use Rattle.json_obj.specs.Replies.{details_text, status_text}
use Rattle.json_obj.specs.declared.replies.Refusal.{Refusal}
use Rattle.json_obj.proofs.ReadBack.{read-compact_text}
use Rattle.watch_lines.specs.Stored.{IsStatus}
use Rattle.watch_lines.specs.Reading.{IsValueOf, IsRefusalOf}
use Rattle.watch_lines.proofs.ObjectLemmas.{same-value}

-- ---- its value

abbrev pub details_value : Data
details_value =
    object (member (codes "causes") (array (item (object (member (codes "message") (string (codes "Too large resource version")) (member (codes "reason") (string (codes "ResourceVersionTooLarge")) no_members))) no_items))
    (member (codes "retryAfterSeconds") (number (unsigned 1)) no_members))

abbrev pub details_before : Bool → Members → Members
details_before false ms = ms
details_before true ms = member (codes "details") details_value ms

abbrev pub status_value : ℕ → List ℕ → List ℕ → Bool → Data
status_value code reason message too_large =
    object (member (codes "apiVersion") (string (codes "v1")) (member (codes "code") (number (unsigned code))
    (details_before too_large (member (codes "kind") (string (codes "Status")) (member (codes "message") (string message) (member (codes "metadata") (object no_members)
    (member (codes "reason") (string reason) (member (codes "status") (string (codes "Failure")) no_members))))))))

abbrev refused : ℕ → List ℕ → List ℕ → Bool → Refusal
refused code reason message too_large = record { code = code; reason = reason; message = message; too_large = too_large }

pub status-compact : (code : ℕ) (reason message : List ℕ) (too_large : Bool) → compact_text (status_value code reason message too_large) ≡ status_text (refused code reason message too_large)
unfolding escape_byte digits
status-compact code reason message false = refl
status-compact code reason message true = refl

details-orderly : IsOrderly details_value
details-orderly = (((tt, refl, (tt, tt, tt)), tt), refl, (lit< tt, tt, tt))

pub status-orderly : (code : ℕ) (reason message : List ℕ) (too_large : Bool) → code < 2 ^ 64 → IsOrderly (status_value code reason message too_large)
status-orderly code reason message false small = (tt, refl, (small, refl, (tt, refl, (tt, refl, (tt, refl, (tt, refl, (tt, tt, tt)))))))
status-orderly code reason message true small = (tt, refl, (small, refl, (details-orderly, refl, (tt, refl, (tt, refl, (tt, refl, (tt, refl, (tt, tt, tt))))))))

pub status-plain : (code : ℕ) (reason message : List ℕ) (too_large : Bool) → has_float (status_value code reason message too_large) ≡ false
status-plain code reason message false = refl
status-plain code reason message true = refl

pub status-shallow : (code : ℕ) (reason message : List ℕ) (too_large : Bool) → depth (status_value code reason message too_large) ≤ 4
status-shallow code reason message false = lit≤ tt
status-shallow code reason message true = lit≤ tt

-- ---- it is UTF-8

details-utf8 : (too_large : Bool) → IsUtf8 (details_text too_large)
details-utf8 false = IsUtf8-are_ascii (details_text false) refl
details-utf8 true = IsUtf8-are_ascii (details_text true) refl

pub status-utf8 : (code : ℕ) (reason message : List ℕ) (too_large : Bool) → code < 2 ^ 64 → IsUtf8 reason → IsUtf8 message → IsUtf8 (status_text (refused code reason message too_large))
status-utf8 code reason message too_large small first second =
    IsUtf8-append (codes "{\"apiVersion\":\"v1\",\"code\":") _ (IsUtf8-are_ascii _ refl)
    (IsUtf8-append (decimal code) _ (IsUtf8-from_ascii (decimal code) (IsAscii-decimal code small))
    (IsUtf8-append (codes ",") _ (IsUtf8-are_ascii _ refl)
    (IsUtf8-append (details_text too_large) _ (details-utf8 too_large)
    (IsUtf8-append (codes "\"kind\":\"Status\",\"message\":") _ (IsUtf8-are_ascii _ refl)
    (IsUtf8-append (quoted message) _ (IsUtf8-quoted message second)
    (IsUtf8-append (codes ",\"metadata\":{},\"reason\":") _ (IsUtf8-are_ascii _ refl)
    (IsUtf8-append (quoted reason) _ (IsUtf8-quoted reason first)
    (IsUtf8-are_ascii (codes ",\"status\":\"Failure\"}") refl))))))))

-- ---- it is read back

status-of : (text : List ℕ) (code : ℕ) (reason message : List ℕ) (too_large : Bool) → code < 2 ^ 16 → IsUtf8 reason → IsUtf8 message
    → text ≡ status_text (refused code reason message too_large) → IsValueOf text (status_value code reason message too_large)
status-of text code reason message too_large fits first second same =
    let small : code < 2 ^ 64 = omega arith in
    let value = status_value code reason message too_large in
    let written : text ≡ compact_text value = same ∙ sym (status-compact code reason message too_large) in
    let within : depth value ≤ max_depth = omega (arith, status-shallow code reason message too_large) in
    record {
      is = (
        subst IsUtf8 (sym same) (status-utf8 code reason message too_large small first second),
        ap read written ∙ read-compact_text value (status-orderly code reason message too_large small) (status-plain code reason message too_large) within,
      );
      plain = allowed code reason message too_large;
    }
  where
    allowed : (code : ℕ) (reason message : List ℕ) (too_large : Bool) → Rattle.json_obj.specs.Objects.value_refusal (status_value code reason message too_large) ≡ Rattle.std.proofs.Common.None
    allowed code reason message false = refl
    allowed code reason message true = refl

status-gives : (code : ℕ) (reason message : List ℕ) (too_large : Bool) → code < 2 ^ 16 → IsUtf8 reason → IsUtf8 message
    → IsRefusalOf (status_value code reason message too_large) (refused code reason message too_large)
status-gives code reason message false fits first second = record { code = refl; fits = fits; reason = refl; reason_utf8 = first; message = refl; message_utf8 = second; details = refl }
status-gives code reason message true fits first second = record { code = refl; fits = fits; reason = refl; reason_utf8 = first; message = refl; message_utf8 = second; details = refl }

-- a value has the members of one refusal
one-refusal : (d : Data) (a b : Refusal) → IsRefusalOf d a → IsRefusalOf d b → a ≡ b
one-refusal d a b first second =
    ap (λ c. refused c a.reason a.message a.too_large) (same_Some a.code b.code (sym first.code ∙ second.code))
    ∙ ap (λ t. refused b.code t a.message a.too_large) (same_Some a.reason b.reason (sym first.reason ∙ second.reason))
    ∙ ap (λ t. refused b.code b.reason t a.too_large) (same_Some a.message b.message (sym first.message ∙ second.message))
    ∙ ap (λ t. refused b.code b.reason b.message t) (sym first.details ∙ second.details)

value-of-status : (text : List ℕ) (code : ℕ) (is : IsStatus text code) → IsValueOf text (status_value is.refusal.code is.refusal.reason is.refusal.message is.refusal.too_large)
value-of-status text code is = status-of text is.refusal.code is.refusal.reason is.refusal.message is.refusal.too_large is.fits is.reason_utf8 is.message_utf8 is.text_is

-- its refusal is the one whose members the value has
gives-of-status : (text : List ℕ) (d : Data) (code : ℕ) → IsValueOf text d → (is : IsStatus text code) → IsRefusalOf d is.refusal
gives-of-status text d code of is =
    let value = status_value is.refusal.code is.refusal.reason is.refusal.message is.refusal.too_large in
    subst (λ x. IsRefusalOf x is.refusal) (same-value text value d (value-of-status text code is).is of.is)
    (status-gives is.refusal.code is.refusal.reason is.refusal.message is.refusal.too_large is.fits is.reason_utf8 is.message_utf8)

abbrev pub HasNoCode : List ℕ → Type 0
HasNoCode text = (code : ℕ) → ¬ (IsStatus text code)

pub no-status-valued : (text : List ℕ) → ((d : Data) → ¬ (IsValueOf text d)) → HasNoCode text
no-status-valued text none code is = none _ (value-of-status text code is)

pub no-status-refused : (text : List ℕ) (d : Data) → IsValueOf text d → ((refusal : Refusal) → ¬ (IsRefusalOf d refusal)) → HasNoCode text
no-status-refused text d of none code is = none is.refusal (gives-of-status text d code of is)

pub no-status-text : (text told : List ℕ) (d : Data) (refusal : Refusal) (same : Bool) → IsValueOf text d → IsRefusalOf d refusal → told ≡ status_text refusal
    → same ≡ bytes_eq told text → same ≡ false → HasNoCode text
no-status-text text told d refusal same of gives told_is test failed code is =
    let one : is.refusal ≡ refusal = one-refusal d is.refusal refusal (gives-of-status text d code of is) gives in
    let equal : told ≡ text = told_is ∙ ap status_text (sym one) ∙ sym is.text_is in
    let bad : true ≡ false = sym ((bytes_eq-Decides told text).1 equal) ∙ sym test ∙ failed in
    cc

-- the code of a text is one
pub one-code : (text : List ℕ) (code other : ℕ) → IsStatus text code → IsStatus text other → code ≡ other
one-code text code other first second =
    let value = status_value first.refusal.code first.refusal.reason first.refusal.message first.refusal.too_large in
    let of : IsValueOf text value = value-of-status text code first in
    let one : first.refusal ≡ second.refusal = one-refusal value first.refusal second.refusal (gives-of-status text value code of first) (gives-of-status text value other of second) in
    sym first.code_is ∙ ap (λ r. r.code) one ∙ second.code_is
