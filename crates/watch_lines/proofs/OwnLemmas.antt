-- The text of a line of our own tells that line by its value.
use Rattle.std.proofs.Common.{◌≡◌, ℕ, ◌≤◌, ◌^◌, Bool, true, false, List, ◌∷◌, ◌++◌, None, Some, decimal, refl, sym, ap, ◌∙◌, arith, lit≤, lit<, append_assoc}
use Rattle.std.specs.Prelude.{codes, nat_lt, IsUtf8, if◌then◌else◌}
use Rattle.std.proofs.lemmas.Bool.{ltb-false}
use Rattle.std.proofs.lemmas.Str.{IsUtf8-append}
use Rattle.json.specs.Print.{quoted, escape_byte}
use Rattle.json.proofs.Printed.Utf8.{IsUtf8-are_ascii}
use Rattle.serde_json.specs.Data.{Data, string, object, Members, no_members, member, depth}
use Rattle.serde_json.specs.Written.{has_float, compact_text}
use Rattle.kube_meta.specs.Objects.{object_json}
use Rattle.kube_meta.specs.Resources.{api_version_of, kind_of}
use Rattle.kube_meta.specs.Revisions.{revision_of, RevisionsAreReadBack}
use Rattle.kube_meta.specs.declared.objects.Obj.{Obj}
use Rattle.kube_meta.specs.declared.resources.Resource.{Resource}
use Rattle.kube_meta.specs.declared.resources.Resource.TheVariants.{Pods, ConfigMaps, Deployments}
use Rattle.json_obj.specs.declared.refusals.ObjNo.TheVariants.{Float, TooDeep}
use Rattle.json_obj.specs.Laws.{ReadsBack, ObjectsReadBack, ValuesAreOrderly}
use Rattle.json_obj.specs.Objects.{IsTextOf, value_refusal, members_refusal, max_nesting, revision_in_text}
use Rattle.json_obj.specs.Orderly.{IsOrderly}
use Rattle.json_obj.specs.Replies.{annotations_text, event_text, bookmark_text, expired_text, expired_message}
use Rattle.json_obj.specs.declared.pieces.EventType.TheVariants as types
use Rattle.json_obj.proofs.Digits.{escape-decimal}
use Rattle.json_obj.proofs.PieceTexts.{quoted_then}
use Rattle.meta_view.specs.declared.form.Form.TheVariants.{Whole}
use Rattle.select_all.specs.declared.selection.Kind.{Kind}
use Rattle.watch_rules.specs.Bodies.{Line, Told, Bookmark, Closing, Lost}
use Rattle.watch_lines.specs.Laws.{IsTold, as_read}
use Rattle.watch_lines.specs.Stored.{IsStored, IsToldAt}
use Rattle.watch_lines.specs.Texts.{type_of, line_text}
use Rattle.watch_lines.specs.Values.{TellsByValue, HasRevision, ends_initial_events}
use Rattle.watch_lines.specs.declared.peer_line.PeerLine.TheVariants as peer
use Rattle.watch_lines.proofs.LawLemmas.{decimal-utf8, message-utf8}
use Rattle.watch_lines.proofs.ObjectLemmas.{ShownAs, shown-as, same-value, both-none, given-some}
use Rattle.watch_lines.proofs.PrintedLemmas.{event_value, event-of}
use Rattle.watch_lines.proofs.ShownLemmas.{no-float}
use Rattle.watch_lines.proofs.StatusLemmas.{status_value, status-compact, status-orderly, status-plain, status-shallow, status-utf8}

pub record Laws : Type 0 where
  pub objects : ObjectsReadBack
  pub orderly : ValuesAreOrderly
  pub revisions : RevisionsAreReadBack

-- ---- an object's event

not-deep : (float deep : Bool) → (if float then Some Float else (if deep then Some TooDeep else None)) ≡ None → deep ≡ false
not-deep true deep e = absurd cc
not-deep false true e = absurd cc
not-deep false false e = refl

shallow : (d : Data) → value_refusal d ≡ None → depth d ≤ 64
shallow d plain = ltb-false max_nesting (depth d) (not-deep (has_float d) (nat_lt max_nesting (depth d)) plain)

object-compact : ObjectsReadBack → (resource : Resource) (obj : Obj) (rev : ℕ) (d : Data) → IsStored resource obj → IsToldAt rev → IsTextOf (object_json obj rev) d → object_json obj rev ≡ compact_text d
object-compact law resource obj rev d is at of =
    let back : ReadsBack resource is.ns is.value obj rev = law resource is.ns is.path is.value obj rev is.orderly is.allowed is.stored at.1 in
    let plain : has_float is.value ≡ false = no-float is.value (both-none (value_refusal is.value) (members_refusal resource is.ns is.path is.value) is.allowed).0 in
    is.stored.text plain rev ∙ ap compact_text (sym back.shown) ∙ ap compact_text (same-value (object_json obj rev) back.value d back.text of)

own-told : Laws → (resource : Resource) (kind : Kind) (obj : Obj) (rev : ℕ) → IsStored resource obj → IsToldAt rev
    → TellsByValue resource (event_text (type_of kind) (object_json obj rev)) (peer.Told kind obj rev)
own-told laws resource kind obj rev is at =
    let text = object_json obj rev in
    let shown : ShownAs resource text obj rev = shown-as laws.objects resource text obj rev is at refl in
    record {
      value = event_value (type_of kind) shown.value;
      is = event-of (type_of kind) text shown.value shown.of.is.0 (object-compact laws.objects resource obj rev shown.value is at shown.of.is)
          (laws.orderly.whole text shown.value shown.of.is) (no-float shown.value shown.of.plain) (shallow shown.value shown.of.plain);
      tells = record {
        event = type_of kind;
        type_is = refl;
        object = (refl, record { ns = shown.ns; name = shown.name; placed = shown.placed; plain = shown.of.plain; keeps = shown.keeps });
      };
    }

-- ---- a bookmark

abbrev revision_members : ℕ → Members
revision_members at = member (codes "resourceVersion") (string (decimal at)) no_members

abbrev mark_members : Bool → ℕ → Members
mark_members false at = revision_members at
mark_members true at = member (codes "annotations") (object (member (codes "k8s.io/initial-events-end") (string (codes "true")) no_members)) (revision_members at)

abbrev mark_value : Resource → ℕ → Bool → Data
mark_value resource at closing =
    object (member (codes "apiVersion") (string (api_version_of resource)) (member (codes "kind") (string (kind_of resource))
    (member (codes "metadata") (object (mark_members closing at)) no_members)))

-- what stands in it before its revision's text
abbrev mark_front : Resource → Bool → List ℕ
mark_front resource closing =
    codes "{\"apiVersion\":" ++ (quoted (api_version_of resource) ++ (codes ",\"kind\":" ++ (quoted (kind_of resource)
    ++ (codes ",\"metadata\":{" ++ (annotations_text closing ++ codes "\"resourceVersion\":")))))

mark-back : (at : ℕ) → (quoted (decimal at) ++ codes "}") ++ codes "}" ≡ 34 ∷ (decimal at ++ codes "\"}}")
mark-back at = append_assoc (quoted (decimal at)) (codes "}") (codes "}") ∙ quoted_then (decimal at) (codes "}}") (escape-decimal at)

mark-compact : (resource : Resource) (at : ℕ) (closing : Bool) → bookmark_text (api_version_of resource) (kind_of resource) at closing ≡ compact_text (mark_value resource at closing)
unfolding escape_byte
mark-compact Pods at false = sym (ap (λ l. mark_front Pods false ++ l) (mark-back at))
mark-compact Pods at true = sym (ap (λ l. mark_front Pods true ++ l) (mark-back at))
mark-compact ConfigMaps at false = sym (ap (λ l. mark_front ConfigMaps false ++ l) (mark-back at))
mark-compact ConfigMaps at true = sym (ap (λ l. mark_front ConfigMaps true ++ l) (mark-back at))
mark-compact Deployments at false = sym (ap (λ l. mark_front Deployments false ++ l) (mark-back at))
mark-compact Deployments at true = sym (ap (λ l. mark_front Deployments true ++ l) (mark-back at))

around-utf8 : (front : List ℕ) (at : ℕ) → at ≤ 2 ^ 62 → IsUtf8 front → IsUtf8 (front ++ (34 ∷ (decimal at ++ codes "\"}}")))
around-utf8 front at small first =
    IsUtf8-append front _ first (IsUtf8-append (codes "\"") (decimal at ++ codes "\"}}") (IsUtf8-are_ascii (codes "\"") refl)
    (IsUtf8-append (decimal at) (codes "\"}}") (decimal-utf8 at small) (IsUtf8-are_ascii (codes "\"}}") refl)))

mark-utf8 : (resource : Resource) (at : ℕ) (closing : Bool) → at ≤ 2 ^ 62 → IsUtf8 (bookmark_text (api_version_of resource) (kind_of resource) at closing)
unfolding escape_byte
mark-utf8 Pods at false small = around-utf8 (mark_front Pods false) at small (IsUtf8-are_ascii (mark_front Pods false) refl)
mark-utf8 Pods at true small = around-utf8 (mark_front Pods true) at small (IsUtf8-are_ascii (mark_front Pods true) refl)
mark-utf8 ConfigMaps at false small = around-utf8 (mark_front ConfigMaps false) at small (IsUtf8-are_ascii (mark_front ConfigMaps false) refl)
mark-utf8 ConfigMaps at true small = around-utf8 (mark_front ConfigMaps true) at small (IsUtf8-are_ascii (mark_front ConfigMaps true) refl)
mark-utf8 Deployments at false small = around-utf8 (mark_front Deployments false) at small (IsUtf8-are_ascii (mark_front Deployments false) refl)
mark-utf8 Deployments at true small = around-utf8 (mark_front Deployments true) at small (IsUtf8-are_ascii (mark_front Deployments true) refl)

mark-orderly : (resource : Resource) (at : ℕ) (closing : Bool) → IsOrderly (mark_value resource at closing)
mark-orderly resource at false = (tt, refl, (tt, refl, ((tt, tt, tt), tt, tt)))
mark-orderly resource at true = (tt, refl, (tt, refl, (((tt, tt, tt), refl, (tt, tt, tt)), tt, tt)))

mark-plain : (resource : Resource) (at : ℕ) (closing : Bool) → has_float (mark_value resource at closing) ≡ false
mark-plain resource at false = refl
mark-plain resource at true = refl

mark-shallow : (resource : Resource) (at : ℕ) (closing : Bool) → depth (mark_value resource at closing) ≤ 64
mark-shallow resource at false = lit≤ tt
mark-shallow resource at true = lit≤ tt

told-revision : RevisionsAreReadBack → (at : ℕ) → IsToldAt at → revision_in_text (decimal at) (revision_of (decimal at)) ≡ Some (Some at)
told-revision law at told = ap (revision_in_text (decimal at)) (law.0 at told.1) ∙ ap Some (given-some at told.0)

mark-revision : RevisionsAreReadBack → (resource : Resource) (at : ℕ) (closing : Bool) → IsToldAt at → HasRevision (mark_value resource at closing) at
mark-revision law resource at false told = told-revision law at told
mark-revision law resource at true told = told-revision law at told

mark-closes : (resource : Resource) (at : ℕ) (closing : Bool) → ends_initial_events (mark_value resource at closing) ≡ closing
mark-closes resource at false = refl
mark-closes resource at true = refl

own-mark : Laws → (resource : Resource) (at : ℕ) (closing : Bool) → IsToldAt at
    → TellsByValue resource (event_text types.Bookmark (bookmark_text (api_version_of resource) (kind_of resource) at closing)) (peer.Bookmark at closing)
own-mark laws resource at closing told =
    let value = mark_value resource at closing in
    record {
      value = event_value types.Bookmark value;
      is = event-of types.Bookmark (bookmark_text (api_version_of resource) (kind_of resource) at closing) value (mark-utf8 resource at closing told.1) (mark-compact resource at closing)
          (mark-orderly resource at closing) (mark-plain resource at closing) (mark-shallow resource at closing);
      tells = record { event = types.Bookmark; type_is = refl; object = (refl, mark-revision laws.revisions resource at closing told, mark-closes resource at closing) };
    }

-- ---- a loss

own-loss : (resource : Resource) (at floor : ℕ) → at ≤ 2 ^ 62 → floor ≤ 2 ^ 62
    → TellsByValue resource (event_text types.Error (expired_text at floor)) (peer.Error 410)
own-loss resource at floor small small_floor =
    let reason = codes "Expired" in
    let message = expired_message at floor in
    let value = status_value 410 reason message false in
    record {
      value = event_value types.Error value;
      is = event-of types.Error (expired_text at floor) value (status-utf8 410 reason message false (lit< tt) (IsUtf8-are_ascii (codes "Expired") refl) (message-utf8 at floor small small_floor))
          (sym (status-compact 410 reason message false)) (status-orderly 410 reason message false (lit< tt)) (status-plain 410 reason message false)
          (omega (arith, status-shallow 410 reason message false));
      tells = record { event = types.Error; type_is = refl; object = (refl, lit< tt, refl) };
    }

pub own-line : Laws → (resource : Resource) (line : Line) → IsTold resource line → TellsByValue resource (line_text Whole resource line) (as_read line)
own-line laws resource (Told transition) told = own-told laws resource transition.kind transition.obj transition.rev told.0 told.1
own-line laws resource (Bookmark at) told = own-mark laws resource at false told
own-line laws resource (Closing at) told = own-mark laws resource at true told
own-line laws resource (Lost at floor) told = own-loss resource at floor told.0 told.1
