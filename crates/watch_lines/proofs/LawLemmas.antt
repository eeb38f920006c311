-- The text of a body's line is read as that line.
use Rattle.std.proofs.Common.{◌≡◌, ◌↔◌, ℕ, ◌≤◌, ◌^◌, false, List, decimal, refl, sym, subst, arith, lit<}
use Rattle.std.specs.Prelude.{codes, IsUtf8}
use Rattle.std.proofs.lemmas.Fmt.{IsAscii-decimal}
use Rattle.std.proofs.lemmas.Str.{IsUtf8-append, IsUtf8-from_ascii}
use Rattle.json.proofs.Printed.Utf8.{IsUtf8-are_ascii}
use Rattle.kube_meta.specs.Resources.{api_version_of, kind_of}
use Rattle.kube_meta.specs.Objects.{object_json}
use Rattle.kube_meta.specs.declared.resources.Resource.{Resource}
use Rattle.json_obj.specs.Laws.{ObjectsReadBack}
use Rattle.json_obj.specs.Replies.{bookmark_text, expired_message, expired_text}
use Rattle.json_obj.specs.declared.pieces.EventType.TheVariants as types
use Rattle.meta_view.specs.declared.form.Form.TheVariants.{Whole}
use Rattle.watch_rules.specs.Bodies.{Line, Told, Bookmark, Closing, Lost}
use Rattle.watch_lines.specs.Texts.{type_of, line_text}
use Rattle.watch_lines.specs.Feeds.{HasNoLineFeed}
use Rattle.watch_lines.specs.Laws.{IsTold, as_read}
use Rattle.watch_lines.specs.Lines.{IsPeerLine}
use Rattle.watch_lines.specs.Stored.{IsStatus}
use Rattle.watch_lines.specs.declared.peer_line.PeerLine.{PeerLine}
use Rattle.watch_lines.specs.declared.peer_line.PeerLine.TheVariants as peer
use Rattle.watch_lines.proofs.FeedLemmas.{feedless-object, feedless-bookmark, feedless-status, feedless-event}
use Rattle.watch_lines.proofs.LineLemmas.{one-line}

pub decimal-utf8 : (n : ℕ) → n ≤ 2 ^ 62 → IsUtf8 (decimal n)
decimal-utf8 n small = IsUtf8-from_ascii (decimal n) (IsAscii-decimal n (omega arith))

pub message-utf8 : (at floor : ℕ) → at ≤ 2 ^ 62 → floor ≤ 2 ^ 62 → IsUtf8 (expired_message at floor)
message-utf8 at floor small small_floor =
    IsUtf8-append (codes "too old resource version: ") _ (IsUtf8-are_ascii _ refl)
    (IsUtf8-append (decimal at) _ (decimal-utf8 at small)
    (IsUtf8-append (codes " (") _ (IsUtf8-are_ascii _ refl)
    (IsUtf8-append (decimal floor) _ (decimal-utf8 floor small_floor) (IsUtf8-are_ascii (codes ")") refl))))

loss-status : (at floor : ℕ) → at ≤ 2 ^ 62 → floor ≤ 2 ^ 62 → IsStatus (expired_text at floor) 410
loss-status at floor small small_floor = record {
  refusal = record { code = 410; reason = codes "Expired"; message = expired_message at floor; too_large = false };
  code_is = refl;
  fits = lit< tt;
  reason_utf8 = IsUtf8-are_ascii (codes "Expired") refl;
  message_utf8 = message-utf8 at floor small small_floor;
  text_is = refl;
}

is-read : (resource : Resource) (line : Line) → IsTold resource line → IsPeerLine resource (line_text Whole resource line) (as_read line)
is-read resource (Told transition) told = (told.0, told.1, refl)
is-read resource (Bookmark at) told = (told, refl)
is-read resource (Closing at) told = (told, refl)
is-read resource (Lost at floor) told = (expired_text at floor, loss-status at floor told.0 told.1, refl)

pub reads-back : ObjectsReadBack → (resource : Resource) (line : Line) (found : PeerLine) → IsTold resource line → IsPeerLine resource (line_text Whole resource line) found ↔ (found ≡ as_read line)
reads-back law resource line found told = (
  λ is. one-line law resource (line_text Whole resource line) found (as_read line) is (is-read resource line told),
  λ e. subst (IsPeerLine resource (line_text Whole resource line)) (sym e) (is-read resource line told),
)

-- ---- no line feed

pub feedless-line : (resource : Resource) (text : List ℕ) (line : PeerLine) → IsPeerLine resource text line → HasNoLineFeed text
feedless-line resource text (peer.Told kind obj rev) is = subst HasNoLineFeed (sym is.2) (feedless-event (type_of kind) (object_json obj rev) (feedless-object resource obj rev is.0))
feedless-line resource text (peer.Bookmark at closing) is =
    subst HasNoLineFeed (sym is.1) (feedless-event types.Bookmark (bookmark_text (api_version_of resource) (kind_of resource) at closing) (feedless-bookmark resource at closing))
feedless-line resource text (peer.Error code) is =
    subst HasNoLineFeed (sym is.2) (feedless-event types.Error is.0 (subst HasNoLineFeed (sym is.1.text_is) (feedless-status is.1.refusal)))
