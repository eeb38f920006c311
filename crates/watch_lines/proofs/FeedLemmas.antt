-- What is written has no line feed.
use Rattle.std.proofs.Common.{inl, inr, ◌≡◌, ℕ, zero, suc, ◌<◌, Bool, true, false, ◌&&◌, pos, negsuc, List, [], ◌∷◌, ◌++◌, decimal, refl, sym, subst, arith}
use Rattle.std.specs.Prelude.{codes, not}
use Rattle.std.specs.List.{concat, list_any}
use Rattle.std.proofs.lemmas.Bool.{and_parts, cases_eq, cases_lt, ne_eqb, or_parts}
use Rattle.json.specs.Print.{quoted, escape, escape_byte}
use Rattle.json.proofs.Printed.Strings.{escape_byte_plain}
use Rattle.serde_json.specs.Data.{Num, unsigned, negative, float, Data, null, boolean, number, string, array, object, Items, no_items, item, Members, no_members, member}
use Rattle.serde_json.specs.Written.{number_text, comma_if, compact_text, items_text, members_text}
use Rattle.kube_meta.specs.Objects.{object_json}
use Rattle.kube_meta.specs.Resources.{api_version_of, kind_of}
use Rattle.kube_meta.specs.declared.objects.Obj.{Obj}
use Rattle.kube_meta.specs.declared.resources.Resource.{Resource}
use Rattle.json_obj.specs.Objects.{shown_object, members_in, metadata_of}
use Rattle.json_obj.specs.Replies.{annotations_text, bookmark_text, details_text, status_text, event_front, event_text}
use Rattle.json_obj.specs.declared.pieces.EventType.{EventType}
use Rattle.json_obj.specs.declared.pieces.EventType.TheVariants.{Added, Modified, Deleted, Bookmark, Error}
use Rattle.json_obj.specs.declared.replies.Refusal.{Refusal}
use Rattle.json_obj.proofs.AsShown.{allowed_by}
use Rattle.json_obj.proofs.Digits.{escape-decimal}
use Rattle.watch_lines.specs.Feeds.{is_line_feed, HasNoLineFeed}
use Rattle.watch_lines.specs.Stored.{IsStored}

pub feedless-append : (a b : List ℕ) → HasNoLineFeed a → HasNoLineFeed b → HasNoLineFeed (a ++ b)
feedless-append [] b first second = second
feedless-append (x ∷ a) b first second =
    let parts = or_parts (is_line_feed x) (list_any is_line_feed a) first in
    rw parts.0 (feedless-append a b parts.1 second)

abbrev AreFeedless : List (List ℕ) → Type 0
AreFeedless [] = Unit {0}
AreFeedless (piece ∷ pieces) = HasNoLineFeed piece × AreFeedless pieces

feedless-concat : (pieces : List (List ℕ)) → AreFeedless pieces → HasNoLineFeed (concat pieces)
feedless-concat [] are = refl
feedless-concat (piece ∷ pieces) are = feedless-append piece (concat pieces) are.0 (feedless-concat pieces are.1)

-- ---- escapes

abbrev feedless_below : ℕ → Bool
feedless_below zero = true
feedless_below (suc n) = not (list_any is_line_feed (escape_byte n)) && feedless_below n

not-is : (b : Bool) → not b ≡ true → b ≡ false
not-is true e = cc
not-is false e = refl

feedless-below : (n : ℕ) → feedless_below n ≡ true → (x : ℕ) → x < n → HasNoLineFeed (escape_byte x)
feedless-below zero e x h = absurd (omega arith)
feedless-below (suc n) e x h =
    let p = and_parts _ _ e in
    elim (cases_eq x n) [ inl same ↦ subst (λ y. HasNoLineFeed (escape_byte y)) (sym same) (not-is _ p.0) | inr other ↦ feedless-below n p.1 x (omega arith) ]

first_ones : feedless_below 93 ≡ true
unfolding escape_byte
first_ones = refl

feedless-byte : (x : ℕ) → HasNoLineFeed (escape_byte x)
feedless-byte x = elim (cases_lt x 93) [
  | inl small ↦ feedless-below 93 first_ones x small
  | inr big ↦ rw (escape_byte_plain x (λ e. omega arith) (λ e. omega arith) (omega arith), ne_eqb x 10 (λ e. omega arith)) refl
]

feedless-escape : (s : List ℕ) → HasNoLineFeed (escape s)
feedless-escape [] = refl
feedless-escape (x ∷ s) = feedless-append (escape_byte x) (escape s) (feedless-byte x) (feedless-escape s)

pub feedless-quoted : (s : List ℕ) → HasNoLineFeed (quoted s)
feedless-quoted s = feedless-append (escape s) (34 ∷ []) (feedless-escape s) refl

pub feedless-decimal : (n : ℕ) → HasNoLineFeed (decimal n)
feedless-decimal n = subst HasNoLineFeed (escape-decimal n) (feedless-escape (decimal n))

-- ---- values

feedless-number : (n : Num) → HasNoLineFeed (number_text n)
feedless-number (unsigned n) = feedless-decimal n
feedless-number (negative (pos n)) = feedless-decimal n
feedless-number (negative (negsuc n)) = feedless-decimal (suc n)
feedless-number (float x) = refl

feedless-boolean : (b : Bool) → HasNoLineFeed (compact_text (boolean b))
feedless-boolean true = refl
feedless-boolean false = refl

feedless-comma : (later : Bool) → HasNoLineFeed (comma_if later)
feedless-comma true = refl
feedless-comma false = refl

mutual
  pub feedless-compact : (d : Data) → HasNoLineFeed (compact_text d)
  feedless-compact null = refl
  feedless-compact (boolean b) = feedless-boolean b
  feedless-compact (number n) = feedless-number n
  feedless-compact (string s) = feedless-quoted s
  feedless-compact (array ds) = feedless-items false ds
  feedless-compact (object ms) = feedless-members false ms

  feedless-items : (later : Bool) (ds : Items) → HasNoLineFeed (items_text later ds)
  feedless-items later no_items = refl
  feedless-items later (item d ds) =
      feedless-append (comma_if later) (compact_text d ++ items_text true ds) (feedless-comma later)
      (feedless-append (compact_text d) (items_text true ds) (feedless-compact d) (feedless-items true ds))

  feedless-members : (later : Bool) (ms : Members) → HasNoLineFeed (members_text later ms)
  feedless-members later no_members = refl
  feedless-members later (member k d ms) =
      feedless-append (comma_if later) (quoted k ++ 58 ∷ (compact_text d ++ members_text true ms)) (feedless-comma later)
      (feedless-append (quoted k) (58 ∷ (compact_text d ++ members_text true ms)) (feedless-quoted k)
      (feedless-append (compact_text d) (members_text true ms) (feedless-compact d) (feedless-members true ms)))

-- ---- what is told

pub feedless-object : (resource : Resource) (o : Obj) (rev : ℕ) → IsStored resource o → HasNoLineFeed (object_json o rev)
feedless-object resource o rev is =
    subst HasNoLineFeed (sym (is.stored.text (allowed_by resource is.ns is.path is.value is.allowed).plain rev))
    (feedless-compact (shown_object resource is.ns rev (members_in is.value) (members_in (metadata_of is.value))))

feedless-annotations : (closing : Bool) → HasNoLineFeed (annotations_text closing)
feedless-annotations true = refl
feedless-annotations false = refl

pub feedless-bookmark : (resource : Resource) (at : ℕ) (closing : Bool) → HasNoLineFeed (bookmark_text (api_version_of resource) (kind_of resource) at closing)
feedless-bookmark resource at closing =
    feedless-concat
    (codes "{\"apiVersion\":" ∷ quoted (api_version_of resource) ∷ codes ",\"kind\":" ∷ quoted (kind_of resource) ∷ codes ",\"metadata\":{"
    ∷ annotations_text closing ∷ codes "\"resourceVersion\":\"" ∷ decimal at ∷ codes "\"}}" ∷ [])
    (refl, (feedless-quoted (api_version_of resource), (refl, (feedless-quoted (kind_of resource), (refl, (feedless-annotations closing, (refl, (feedless-decimal at, (refl, tt)))))))))

feedless-details : (too_large : Bool) → HasNoLineFeed (details_text too_large)
feedless-details true = refl
feedless-details false = refl

pub feedless-status : (refusal : Refusal) → HasNoLineFeed (status_text refusal)
feedless-status refusal =
    feedless-concat
    (codes "{\"apiVersion\":\"v1\",\"code\":" ∷ decimal refusal.code ∷ codes "," ∷ details_text refusal.too_large ∷ codes "\"kind\":\"Status\",\"message\":"
    ∷ quoted refusal.message ∷ codes ",\"metadata\":{},\"reason\":" ∷ quoted refusal.reason ∷ codes ",\"status\":\"Failure\"}" ∷ [])
    (refl, (feedless-decimal refusal.code, (refl, (feedless-details refusal.too_large, (refl, (feedless-quoted refusal.message, (refl, (feedless-quoted refusal.reason, (refl, tt)))))))))

feedless-front : (type : EventType) → HasNoLineFeed (event_front type)
feedless-front Added = refl
feedless-front Modified = refl
feedless-front Deleted = refl
feedless-front Bookmark = refl
feedless-front Error = refl

pub feedless-event : (type : EventType) (shown : List ℕ) → HasNoLineFeed shown → HasNoLineFeed (event_text type shown)
feedless-event type shown free = feedless-append (event_front type) (shown ++ codes "}") (feedless-front type) (feedless-append shown (codes "}") free refl)
