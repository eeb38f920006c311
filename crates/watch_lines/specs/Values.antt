-- The lines of a peer's watch, each by its value: however it is written, and whatever else stands in it.
use Rattle.std.specs.Prelude.{◌≡◌, ℕ, ◌^◌, ◌<◌, List, codes, Bool, Option, Some, None, is_some, option_and_then, IsSomeAnd, MatchOption}
use Rattle.serde_json.specs.Data.{Data}
use Rattle.serde_json.specs.Find.{get}
use Rattle.kube_meta.specs.declared.objects.Obj.{Obj}
use Rattle.kube_meta.specs.declared.resources.Resource.{Resource}
use Rattle.json_obj.specs.Objects.{IsTextOf, value_refusal, metadata_of, revision_in}
use Rattle.json_obj.specs.Replies.{type_text}
use Rattle.json_obj.specs.declared.pieces.EventType.{EventType}
use Rattle.json_obj.specs.declared.pieces.EventType.TheVariants as types
use Rattle.watch_lines.specs.Texts.{type_of}
use Rattle.watch_lines.specs.Reading.{IsPlaced, Keeps, text_in, number_in}
use Rattle.watch_lines.specs.declared.peer_line.PeerLine.{PeerLine}
use Rattle.watch_lines.specs.declared.peer_line.PeerLine.TheVariants.{Told, Bookmark, Error}

-- The value shows this object of the resource at this revision: nothing refuses it at the namespace and the name that
-- it gives, and this is what is stored for it there. Its kind and its version may be absent, as in a list's items.
pub record ShowsObject (resource : Resource) (d : Data) (obj : Obj) (rev : ℕ) : Type 0 where
  pub ns : List ℕ
  pub name : List ℕ
  pub placed : IsPlaced d ns name
  pub plain : value_refusal d ≡ None
  pub keeps : Keeps resource ns name d obj rev

-- the metadata has this revision, from 1 to 2 ^ 62
abbrev pub HasRevision : Data → ℕ → Type 0
HasRevision d at = revision_in (get (codes "resourceVersion") (metadata_of d)) ≡ Some (Some at)

-- whether the metadata is annotated as that of the bookmark that ends the initial events (KEP-3157)
abbrev pub ends_initial_events : Data → Bool
ends_initial_events d = is_some (option_and_then (get (codes "k8s.io/initial-events-end")) (get (codes "annotations") (metadata_of d)))

-- what an event of this type tells of its object
abbrev pub ObjectTells : Resource → EventType → Data → PeerLine → Type 0
ObjectTells resource event d (Told kind obj rev) = (event ≡ type_of kind) × ShowsObject resource d obj rev
ObjectTells resource event d (Bookmark at closing) = (event ≡ types.Bookmark) × HasRevision d at × (ends_initial_events d ≡ closing)
ObjectTells resource event d (Error code) = (event ≡ types.Error) × (code < 2 ^ 16) × (number_in (codes "code") d ≡ Some code)

-- the value is an event that tells this line
pub record ValueTells (resource : Resource) (d : Data) (line : PeerLine) : Type 0 where
  pub event : EventType
  pub type_is : text_in (codes "type") d ≡ Some (type_text event)
  pub object : IsSomeAnd (get (codes "object") d) (λ o. ObjectTells resource event o line)

-- what a value tells: its line, or nothing where it tells none
abbrev pub ReadsValue : Resource → Data → Option PeerLine → Type 0
ReadsValue resource d found = MatchOption found ((line : PeerLine) → ¬ (ValueTells resource d line)) (ValueTells resource d)

-- the text is of a value that tells this line
pub record TellsByValue (resource : Resource) (text : List ℕ) (line : PeerLine) : Type 0 where
  pub value : Data
  pub is : IsTextOf text value
  pub tells : ValueTells resource value line

-- what a text tells
abbrev pub ReadsByValue : Resource → List ℕ → Option PeerLine → Type 0
ReadsByValue resource text found = MatchOption found ((line : PeerLine) → ¬ (TellsByValue resource text line)) (TellsByValue resource text)
