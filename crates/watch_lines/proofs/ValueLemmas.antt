-- What a value tells, and that it tells no more.
use Rattle.std.proofs.Common.{◌≡◌, ℕ, List, [], ◌∷◌, ◌++◌, Option, Some, None, Result, Ok, Err, refl, sym, ap, ◌∙◌, subst}
use Rattle.std.specs.Prelude.{IfOk, IsSomeAnd, codes}
use Rattle.std.specs.List.{concat}
use Rattle.std.specs.declared.alloc.AllocError.{AllocError}
use Rattle.std.proofs.lemmas.Option.{same_Some}
use Rattle.serde_json.specs.Data.{Data}
use Rattle.serde_json.specs.Find.{get}
use Rattle.kube_meta.specs.Revisions.{RevisionsAreReadBack}
use Rattle.kube_meta.specs.declared.resources.Resource.{Resource}
use Rattle.json_obj.specs.Laws.{ObjectsAreOne, ValuesAreOrderly}
use Rattle.json_obj.specs.Objects.{IsTextOf}
use Rattle.json_obj.specs.Orderly.{IsOrderly}
use Rattle.json_obj.specs.Replies.{type_text, event_back}
use Rattle.json_obj.specs.declared.pieces.EventType.{EventType}
use Rattle.json_obj.specs.declared.pieces.EventType.TheVariants as types
use Rattle.select_all.specs.declared.selection.Kind.{Kind}
use Rattle.watch_lines.specs.Texts.{type_of}
use Rattle.watch_lines.specs.Values.{ObjectTells, ReadsByValue, ReadsValue, TellsByValue, ValueTells}
use Rattle.watch_lines.specs.ValueLaws.{IsKept}
use Rattle.watch_lines.specs.declared.peer_line.PeerLine.{PeerLine}
use Rattle.watch_lines.specs.declared.peer_line.PeerLine.TheVariants.{Told, Bookmark, Error}
use Rattle.watch_lines.proofs.EventLemmas.{same-type}
use Rattle.watch_lines.proofs.LineLemmas.{no-bookmark, no-error, same-kind}
use Rattle.watch_lines.proofs.ObjectLemmas.{same-value}
use Rattle.watch_lines.proofs.ShownLemmas.{ShowsNone, one-shown, shown-stored, revision-told}

-- ---- what an event tells

abbrev pub TellsNone : Resource → EventType → Data → Type 0
TellsNone resource event d = (line : PeerLine) → ¬ (ObjectTells resource event d line)

-- the value of an object that shows none tells of none
pub unshown : (resource : Resource) (kind : Kind) (d : Data) → ShowsNone resource d → TellsNone resource (type_of kind) d
unshown resource kind d none (Told other obj rev) tells = none obj rev tells.1
unshown resource kind d none (Bookmark at closing) tells = no-bookmark kind tells.0
unshown resource kind d none (Error code) tells = no-error kind tells.0

-- ---- what the value of a text tells, the text tells

of-value : (resource : Resource) (text : List ℕ) (d : Data) → IsTextOf text d → (found : Option PeerLine) → ReadsValue resource d found → ReadsByValue resource text found
of-value resource text d is None none = λ line tells. none line (subst (λ e. ValueTells resource e line) (same-value text tells.value d tells.is is) tells.tells)
of-value resource text d is (Some line) tells = record { value = d; is = is; tells = tells }

pub all-of-value : (resource : Resource) (text : List ℕ) (d : Data) → IsTextOf text d → (found : Result (Option PeerLine) AllocError)
    → IfOk found (ReadsValue resource d) → IfOk found (ReadsByValue resource text)
all-of-value resource text d is (Ok found) reads = of-value resource text d is found reads
all-of-value resource text d is (Err fault) reads = tt

pub untold : (resource : Resource) (text : List ℕ) → ((d : Data) → ¬ (IsTextOf text d)) → ReadsByValue resource text None
untold resource text none = λ line tells. none tells.value tells.is

-- ---- a text tells one line

type-apart : (event other : EventType) → type_text event ≡ type_text other → event ≡ other
type-apart event other e = same-type event other [] [] (ap (λ (t : List ℕ). concat (codes "{\"type\":\"" ∷ t ∷ codes "\",\"object\":" ∷ []) ++ event_back) e)

one-told : ObjectsAreOne → (resource : Resource) (event : EventType) (d : Data) (line other : PeerLine) → ObjectTells resource event d line → ObjectTells resource event d other → line ≡ other
one-told law resource event d (Told kind obj rev) (Told other told later) first second =
    let one = one-shown law resource d obj told rev later first.1 second.1 in
    ap (λ k. Told k obj rev) (same-kind kind other (sym first.0 ∙ second.0)) ∙ ap (λ o. Told other o rev) one.0 ∙ ap (λ r. Told other told r) one.1
one-told law resource event d (Told kind obj rev) (Bookmark at closing) first second = absurd (no-bookmark kind (sym first.0 ∙ second.0))
one-told law resource event d (Told kind obj rev) (Error code) first second = absurd (no-error kind (sym first.0 ∙ second.0))
one-told law resource event d (Bookmark at closing) (Told kind obj rev) first second = absurd (no-bookmark kind (sym second.0 ∙ first.0))
one-told law resource event d (Bookmark at closing) (Bookmark later other) first second =
    ap (λ n. Bookmark n closing) (same_Some at later (same_Some (Some at) (Some later) (sym first.1 ∙ second.1))) ∙ ap (Bookmark later) (sym first.2 ∙ second.2)
one-told law resource event d (Bookmark at closing) (Error code) first second = let bad : types.Bookmark ≡ types.Error = sym first.0 ∙ second.0 in absurd cc
one-told law resource event d (Error code) (Told kind obj rev) first second = absurd (no-error kind (sym second.0 ∙ first.0))
one-told law resource event d (Error code) (Bookmark at closing) first second = let bad : types.Error ≡ types.Bookmark = sym first.0 ∙ second.0 in absurd cc
one-told law resource event d (Error code) (Error other) first second = ap Error (same_Some code other (sym first.2 ∙ second.2))

one-in : ObjectsAreOne → (resource : Resource) (event : EventType) (found : Option Data) (line other : PeerLine) → IsSomeAnd found (λ o. ObjectTells resource event o line)
    → IsSomeAnd found (λ o. ObjectTells resource event o other) → line ≡ other
one-in law resource event None line other first second = absurd first
one-in law resource event (Some o) line other first second = one-told law resource event o line other first second

one-valued : ObjectsAreOne → (resource : Resource) (d : Data) (line other : PeerLine) → ValueTells resource d line → ValueTells resource d other → line ≡ other
one-valued law resource d line other first second =
    let same : second.event ≡ first.event = type-apart second.event first.event (same_Some (type_text second.event) (type_text first.event) (sym second.type_is ∙ first.type_is)) in
    one-in law resource first.event (get (codes "object") d) line other first.object
    (subst (λ event. IsSomeAnd (get (codes "object") d) (λ o. ObjectTells resource event o other)) same second.object)

pub one-line : ObjectsAreOne → (resource : Resource) (text : List ℕ) (line other : PeerLine) → TellsByValue resource text line → TellsByValue resource text other → line ≡ other
one-line law resource text line other first second =
    one-valued law resource first.value line other first.tells (subst (λ d. ValueTells resource d other) (same-value text second.value first.value second.is first.is) second.tells)

-- ---- what is told is kept

kept-told : RevisionsAreReadBack → (resource : Resource) (event : EventType) (d : Data) (line : PeerLine) → IsOrderly d → ObjectTells resource event d line → IsKept resource line
kept-told law resource event d (Told kind obj rev) orderly tells = shown-stored law resource d obj rev orderly tells.1
kept-told law resource event d (Bookmark at closing) orderly tells = revision-told law d at tells.1
kept-told law resource event d (Error code) orderly tells = tt

kept-in : RevisionsAreReadBack → (resource : Resource) (event : EventType) (found : Option Data) (line : PeerLine) → ((o : Data) → found ≡ Some o → IsOrderly o)
    → IsSomeAnd found (λ o. ObjectTells resource event o line) → IsKept resource line
kept-in law resource event None line orderly tells = absurd tells
kept-in law resource event (Some o) line orderly tells = kept-told law resource event o line (orderly o refl) tells

pub kept-line : ValuesAreOrderly → RevisionsAreReadBack → (resource : Resource) (text : List ℕ) (line : PeerLine) → TellsByValue resource text line → IsKept resource line
kept-line laws law resource text line is =
    kept-in law resource is.tells.event (get (codes "object") is.value) line
    (λ o e. laws.member (codes "object") is.value o (laws.whole text is.value is.is) e) is.tells.object
