-- Laws of the lines that are read.
use Rattle.std.specs.Prelude.{◌≡◌, ◌↔◌, ℕ, ◌^◌, ◌≤◌, true, false, List}
use Rattle.kube_meta.specs.Objects.{object_json}
use Rattle.kube_meta.specs.declared.objects.Obj.{Obj}
use Rattle.kube_meta.specs.declared.resources.Resource.{Resource}
use Rattle.meta_view.specs.declared.form.Form.TheVariants.{Whole}
use Rattle.watch_rules.specs.Bodies.{Line, Told, Bookmark, Closing, Lost}
use Rattle.watch_lines.specs.Texts.{line_text}
use Rattle.watch_lines.specs.Stored.{IsStored, IsToldAt}
use Rattle.watch_lines.specs.Feeds.{HasNoLineFeed}
use Rattle.watch_lines.specs.Lines.{IsPeerLine}
use Rattle.watch_lines.specs.declared.peer_line.PeerLine.{PeerLine}
use Rattle.watch_lines.specs.declared.peer_line.PeerLine.TheVariants as peer

-- a line of a body that can be told: its object is stored, and its revisions are within bounds
abbrev pub IsTold : Resource → Line → Type 0
IsTold resource (Told transition) = IsStored resource transition.obj × IsToldAt transition.rev
IsTold resource (Bookmark at) = IsToldAt at
IsTold resource (Closing at) = IsToldAt at
IsTold resource (Lost at floor) = (at ≤ 2 ^ 62) × (floor ≤ 2 ^ 62)

-- the same line as a mirror reads it; a loss is an ERROR by the code 410
abbrev pub as_read : Line → PeerLine
as_read (Told transition) = peer.Told transition.kind transition.obj transition.rev
as_read (Bookmark at) = peer.Bookmark at false
as_read (Closing at) = peer.Bookmark at true
as_read (Lost at floor) = peer.Error 410

-- the text of a body's line is that of the same line as it is read, and of no other
abbrev pub LinesReadBack : Type 0
LinesReadBack = (resource : Resource) (line : Line) (found : PeerLine) → IsTold resource line → IsPeerLine resource (line_text Whole resource line) found ↔ (found ≡ as_read line)

-- a text is that of one line at most
abbrev pub LinesAreOne : Type 0
LinesAreOne = (resource : Resource) (text : List ℕ) (line other : PeerLine) → IsPeerLine resource text line → IsPeerLine resource text other → line ≡ other

-- texts of stored objects tell the objects and the revisions apart
abbrev pub ShownTextsTellApart : Type 0
ShownTextsTellApart =
    (resource : Resource) (obj other : Obj) (rev later : ℕ) → IsStored resource obj → IsToldAt rev → IsStored resource other → IsToldAt later
    → object_json obj rev ≡ object_json other later → (obj ≡ other) × (rev ≡ later)

-- no line's text has a line feed, so that one may end it
abbrev pub TextsHaveNoLineFeed : Type 0
TextsHaveNoLineFeed = (resource : Resource) (text : List ℕ) (line : PeerLine) → IsPeerLine resource text line → HasNoLineFeed text
