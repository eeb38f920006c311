-- Which line a text is of.
use Rattle.std.proofs.Common.{◌≡◌, ℕ, ◌≤◌, ◌^◌, Bool, true, false, List, get_or, refl, sym, ap, ◌∙◌, subst, arith}
use Rattle.std.specs.Prelude.{◌≢◌}
use Rattle.json.specs.Print.{escape_byte}
use Rattle.kube_meta.specs.Objects.{object_json}
use Rattle.kube_meta.specs.Resources.{api_version_of, kind_of}
use Rattle.kube_meta.specs.declared.objects.Obj.{Obj}
use Rattle.kube_meta.specs.declared.resources.Resource.{Resource}
use Rattle.kube_meta.specs.declared.resources.Resource.TheVariants.{Pods, ConfigMaps, Deployments}
use Rattle.json_obj.specs.Laws.{ObjectsReadBack}
use Rattle.json_obj.specs.Replies.{event_text, bookmark_text}
use Rattle.json_obj.specs.declared.pieces.EventType.{EventType}
use Rattle.json_obj.specs.declared.pieces.EventType.TheVariants as types
use Rattle.meta_view.specs.Lines.{object_line, bookmark_line}
use Rattle.meta_view.specs.declared.form.Form.TheVariants.{Whole}
use Rattle.select_all.specs.declared.selection.Kind.{Kind}
use Rattle.select_all.specs.declared.selection.Kind.TheVariants as kinds
use Rattle.watch_lines.specs.Texts.{type_of}
use Rattle.watch_lines.proofs.ApartLemmas.{marks_apart, told_no_mark}
use Rattle.watch_lines.specs.Lines.{IsPeerLine}
use Rattle.watch_lines.specs.Reading.{IsOnly}
use Rattle.watch_lines.specs.Stored.{IsStatus}
use Rattle.watch_lines.specs.declared.peer_line.PeerLine.{PeerLine}
use Rattle.watch_lines.specs.declared.peer_line.PeerLine.TheVariants.{Told, Bookmark, Error}
use Rattle.watch_lines.proofs.EventLemmas.{same-type, same-shown, events-apart}
use Rattle.watch_lines.proofs.ObjectLemmas.{HasNone, one-object}
use Rattle.watch_lines.proofs.StatusLemmas.{HasNoCode, one-code}

-- ---- the types of events

kind_by : EventType → Kind
kind_by types.Added = kinds.Added
kind_by types.Modified = kinds.Modified
kind_by types.Deleted = kinds.Deleted
kind_by types.Bookmark = kinds.Added
kind_by types.Error = kinds.Added

kind-by-type : (kind : Kind) → kind_by (type_of kind) ≡ kind
unfolding kind_by
kind-by-type kinds.Added = refl
kind-by-type kinds.Modified = refl
kind-by-type kinds.Deleted = refl

pub same-kind : (kind other : Kind) → type_of kind ≡ type_of other → kind ≡ other
same-kind kind other e = sym (kind-by-type kind) ∙ ap kind_by e ∙ kind-by-type other

pub no-bookmark : (kind : Kind) → type_of kind ≡ types.Bookmark → ⊥
no-bookmark kinds.Added e = cc
no-bookmark kinds.Modified e = cc
no-bookmark kinds.Deleted e = cc

pub no-error : (kind : Kind) → type_of kind ≡ types.Error → ⊥
no-error kinds.Added e = cc
no-error kinds.Modified e = cc
no-error kinds.Deleted e = cc

-- ---- what is no line

abbrev pub IsNone : Resource → List ℕ → Type 0
IsNone resource text = (line : PeerLine) → ¬ (IsPeerLine resource text line)

record IsEvent (text : List ℕ) : Type 0 where
  type : EventType
  shown : List ℕ
  is : text ≡ event_text type shown

event-of : (resource : Resource) (text : List ℕ) (line : PeerLine) → IsPeerLine resource text line → IsEvent text
event-of resource text (Told kind obj rev) is = record { type = type_of kind; shown = object_json obj rev; is = is.2 }
event-of resource text (Bookmark at closing) is = record { type = types.Bookmark; shown = bookmark_text (api_version_of resource) (kind_of resource) at closing; is = is.1 }
event-of resource text (Error code) is = record { type = types.Error; shown = is.0; is = is.2 }

pub no-event : (resource : Resource) (text : List ℕ) (event : EventType) → ((type : EventType) (shown : List ℕ) → text ≡ event_text type shown → event ≡ type)
    → ((shown : List ℕ) → text ≢ event_text event shown) → IsNone resource text
no-event resource text event typed none line is =
    let e = event-of resource text line is in
    none e.shown (subst (λ type. text ≡ event_text type e.shown) (sym (typed e.type e.shown e.is)) e.is)

pub none-told : (resource : Resource) (text shown : List ℕ) (kind : Kind) → text ≡ event_text (type_of kind) shown → HasNone resource shown → IsNone resource text
none-told resource text shown kind same none (Told other obj rev) is =
    none obj rev is.0 is.1 (events-apart (type_of kind) (type_of other) shown (object_json obj rev) (sym same ∙ is.2)).1
none-told resource text shown kind same none (Bookmark at closing) is =
    no-bookmark kind (same-type (type_of kind) types.Bookmark shown (bookmark_text (api_version_of resource) (kind_of resource) at closing) (sym same ∙ is.1))
none-told resource text shown kind same none (Error code) is = no-error kind (same-type (type_of kind) types.Error shown is.0 (sym same ∙ is.2))

pub other-told : (resource : Resource) (text shown : List ℕ) (kind : Kind) (obj : Obj) (rev : ℕ) → text ≡ event_text (type_of kind) shown → IsOnly resource shown obj rev
    → (text ≡ object_line Whole (type_of kind) obj rev → ⊥) → IsNone resource text
other-told resource text shown kind obj rev same only failed = none-told resource text shown kind same none
  where
    none : HasNone resource shown
    none other later is at shows =
        let one = only.one other later is at shows in
        failed (same ∙ ap (event_text (type_of kind)) shows ∙ ap (λ o. object_line Whole (type_of kind) o later) (sym one.0) ∙ ap (object_line Whole (type_of kind) obj) (sym one.1))

abbrev pub HasNoMark : Resource → List ℕ → Bool → Type 0
HasNoMark resource text closing = (at : ℕ) → ¬ (IsPeerLine resource text (Bookmark at closing))

pub none-marked : (resource : Resource) (text shown : List ℕ) → text ≡ event_text types.Bookmark shown → HasNoMark resource text false → HasNoMark resource text true → IsNone resource text
none-marked resource text shown same first second (Told kind obj rev) is = no-bookmark kind (same-type (type_of kind) types.Bookmark (object_json obj rev) shown (sym is.2 ∙ same))
none-marked resource text shown same first second (Bookmark at false) is = first at is
none-marked resource text shown same first second (Bookmark at true) is = second at is
none-marked resource text shown same first second (Error code) is =
    let bad : types.Error ≡ types.Bookmark = same-type types.Error types.Bookmark is.0 shown (sym is.2 ∙ same) in cc

pub none-refused : (resource : Resource) (text shown : List ℕ) → text ≡ event_text types.Error shown → HasNoCode shown → IsNone resource text
none-refused resource text shown same none (Told kind obj rev) is = no-error kind (same-type (type_of kind) types.Error (object_json obj rev) shown (sym is.2 ∙ same))
none-refused resource text shown same none (Bookmark at closing) is =
    let bad : types.Bookmark ≡ types.Error = same-type types.Bookmark types.Error (bookmark_text (api_version_of resource) (kind_of resource) at closing) shown (sym is.1 ∙ same) in cc
none-refused resource text shown same none (Error code) is =
    none code (subst (λ t. IsStatus t code) (same-shown types.Error is.0 shown (sym is.2 ∙ same)) is.1)

pub no-mark : (resource : Resource) (text : List ℕ) (closing : Bool) → ((n : ℕ) → n ≤ 2 ^ 62 → text ≢ bookmark_line Whole resource n closing) → HasNoMark resource text closing
no-mark resource text closing none at is = none at is.0.1 is.1

-- a bookmark at 0 is no line
pub no-mark-at-zero : (resource : Resource) (text : List ℕ) (closing : Bool) (n : ℕ) → n ≡ 0 → n ≤ 2 ^ 62 → text ≡ bookmark_line Whole resource n closing → HasNoMark resource text closing
no-mark-at-zero resource text closing n zero_is small same at is =
    let one : n ≡ at = marks_apart resource closing n at small is.0.1 (sym same ∙ is.1) in
    let above : 1 ≤ at = is.0.0 in
    omega (arith, one, above, zero_is)

-- ---- a text is of one line

closings-apart : (resource : Resource) (at other : ℕ) → bookmark_line Whole resource at false ≡ bookmark_line Whole resource other true → ⊥
unfolding escape_byte
closings-apart Pods at other e = let bad : 114 ≡ 97 = ap (λ (l : List ℕ). get_or l 73 0) e in omega (arith, bad)
closings-apart ConfigMaps at other e = let bad : 114 ≡ 97 = ap (λ (l : List ℕ). get_or l 79 0) e in omega (arith, bad)
closings-apart Deployments at other e = let bad : 114 ≡ 97 = ap (λ (l : List ℕ). get_or l 85 0) e in omega (arith, bad)

one-mark : (resource : Resource) (text : List ℕ) (at other : ℕ) (closing later : Bool) → IsPeerLine resource text (Bookmark at closing) → IsPeerLine resource text (Bookmark other later)
    → Bookmark at closing ≡ Bookmark other later
one-mark resource text at other false false first second = ap (λ n. Bookmark n false) (marks_apart resource false at other first.0.1 second.0.1 (sym first.1 ∙ second.1))
one-mark resource text at other true true first second = ap (λ n. Bookmark n true) (marks_apart resource true at other first.0.1 second.0.1 (sym first.1 ∙ second.1))
one-mark resource text at other false true first second = absurd (closings-apart resource at other (sym first.1 ∙ second.1))
one-mark resource text at other true false first second = absurd (closings-apart resource other at (sym second.1 ∙ first.1))

one-told : ObjectsReadBack → (resource : Resource) (text : List ℕ) (kind other : Kind) (obj told : Obj) (rev later : ℕ) → IsPeerLine resource text (Told kind obj rev) → IsPeerLine resource text (Told other told later)
    → Told kind obj rev ≡ Told other told later
one-told law resource text kind other obj told rev later first second =
    let apart = events-apart (type_of kind) (type_of other) (object_json obj rev) (object_json told later) (sym first.2 ∙ second.2) in
    let one = one-object law resource obj told rev later first.0 first.1 second.0 second.1 apart.1 in
    ap (λ k. Told k obj rev) (same-kind kind other apart.0) ∙ ap (λ o. Told other o rev) one.0 ∙ ap (λ r. Told other told r) one.1

pub one-line : ObjectsReadBack → (resource : Resource) (text : List ℕ) (line other : PeerLine) → IsPeerLine resource text line → IsPeerLine resource text other → line ≡ other
one-line law resource text (Told kind obj rev) (Told other told later) first second = one-told law resource text kind other obj told rev later first second
one-line law resource text (Told kind obj rev) (Bookmark at closing) first second = absurd (told_no_mark kind obj rev resource at closing (sym first.2 ∙ second.1))
one-line law resource text (Told kind obj rev) (Error code) first second = absurd (no-error kind (same-type (type_of kind) types.Error (object_json obj rev) second.0 (sym first.2 ∙ second.2)))
one-line law resource text (Bookmark at closing) (Told kind obj rev) first second = absurd (told_no_mark kind obj rev resource at closing (sym second.2 ∙ first.1))
one-line law resource text (Bookmark at closing) (Bookmark other later) first second = one-mark resource text at other closing later first second
one-line law resource text (Bookmark at closing) (Error code) first second =
    let bad : types.Bookmark ≡ types.Error = same-type types.Bookmark types.Error (bookmark_text (api_version_of resource) (kind_of resource) at closing) second.0 (sym first.1 ∙ second.2) in absurd cc
one-line law resource text (Error code) (Told kind obj rev) first second = absurd (no-error kind (same-type (type_of kind) types.Error (object_json obj rev) first.0 (sym second.2 ∙ first.2)))
one-line law resource text (Error code) (Bookmark at closing) first second =
    let bad : types.Bookmark ≡ types.Error = same-type types.Bookmark types.Error (bookmark_text (api_version_of resource) (kind_of resource) at closing) first.0 (sym second.1 ∙ first.2) in absurd cc
one-line law resource text (Error code) (Error other) first second =
    let same : first.0 ≡ second.0 = same-shown types.Error first.0 second.0 (sym first.2 ∙ second.2) in
    ap Error (one-code second.0 code other (subst (λ t. IsStatus t code) same first.1) second.1)
