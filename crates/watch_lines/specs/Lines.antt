-- The lines of a peer's watch of whole objects, each by its text.
use Rattle.std.specs.Prelude.{◌≡◌, List, ℕ, Option, MatchOption}
use Rattle.json_obj.specs.Replies.{event_text}
use Rattle.json_obj.specs.declared.pieces.EventType.TheVariants as types
use Rattle.kube_meta.specs.declared.resources.Resource.{Resource}
use Rattle.meta_view.specs.Lines.{object_line, bookmark_line}
use Rattle.meta_view.specs.declared.form.Form.TheVariants.{Whole}
use Rattle.watch_lines.specs.Texts.{type_of}
use Rattle.watch_lines.specs.Stored.{IsStored, IsToldAt, IsStatus}
use Rattle.watch_lines.specs.declared.peer_line.PeerLine.{PeerLine}
use Rattle.watch_lines.specs.declared.peer_line.PeerLine.TheVariants.{Told, Bookmark, Error}

-- the text is that of this line: of an object that is stored, of a bookmark, or of the ERROR with the Status of some refusal
abbrev pub IsPeerLine : Resource → List ℕ → PeerLine → Type 0
IsPeerLine resource text (Told kind obj rev) = IsStored resource obj × IsToldAt rev × (text ≡ object_line Whole (type_of kind) obj rev)
IsPeerLine resource text (Bookmark at closing) = IsToldAt at × (text ≡ bookmark_line Whole resource at closing)
IsPeerLine resource text (Error code) = (status : List ℕ) × IsStatus status code × (text ≡ event_text types.Error status)

-- what is read of a text: its line, or nothing where it is the text of no line
abbrev pub ReadsPeerLine : Resource → List ℕ → Option PeerLine → Type 0
ReadsPeerLine resource text found = MatchOption found ((line : PeerLine) → ¬ (IsPeerLine resource text line)) (λ line. IsPeerLine resource text line)
