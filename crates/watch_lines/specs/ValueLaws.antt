-- Laws of lines and pages that are read by their values.
use Rattle.std.specs.Prelude.{◌≡◌, ℕ, List, All, codes, ⊤}
use Rattle.serde_json.specs.Data.{Data, string, object, put}
use Rattle.kube_meta.specs.Resources.{api_version_of, kind_of}
use Rattle.kube_meta.specs.Rows.{RowData}
use Rattle.kube_meta.specs.declared.objects.Obj.{Obj}
use Rattle.kube_meta.specs.declared.resources.Resource.{Resource}
use Rattle.json_obj.specs.Objects.{members_in}
use Rattle.meta_view.specs.declared.form.Form.TheVariants.{Whole}
use Rattle.watch_rules.specs.Bodies.{Line}
use Rattle.watch_lines.specs.Laws.{IsTold, as_read}
use Rattle.watch_lines.specs.Pages.{IsPageText}
use Rattle.watch_lines.specs.Stored.{IsStored, IsToldAt}
use Rattle.watch_lines.specs.Texts.{line_text}
use Rattle.watch_lines.specs.Values.{ShowsObject, TellsByValue}
use Rattle.watch_lines.specs.declared.peer_line.PeerLine.{PeerLine}
use Rattle.watch_lines.specs.declared.peer_line.PeerLine.TheVariants.{Told, Bookmark, Error}

-- the text of each line of a body whose object is stored tells that line by its value too
abbrev pub OwnLinesTell : Type 0
OwnLinesTell = (resource : Resource) (line : Line) → IsTold resource line → TellsByValue resource (line_text Whole resource line) (as_read line)

-- a text tells one line at most
abbrev pub TextsTellOneLine : Type 0
TextsTellOneLine = (resource : Resource) (text : List ℕ) (line other : PeerLine) → TellsByValue resource text line → TellsByValue resource text other → line ≡ other

-- an object that may be stored, at a revision that a line may have
abbrev pub IsKept : Resource → PeerLine → Type 0
IsKept resource (Told kind obj rev) = IsStored resource obj × IsToldAt rev
IsKept resource (Bookmark at closing) = IsToldAt at
IsKept resource (Error code) = ⊤

-- what a text tells may be stored, and has its revision within bounds
abbrev pub WhatIsToldIsKept : Type 0
WhatIsToldIsKept = (resource : Resource) (text : List ℕ) (line : PeerLine) → TellsByValue resource text line → IsKept resource line

-- the value with the version and the kind of the resource, as a line of a watch has them and an item of a list may not
abbrev pub with_kind : Resource → Data → Data
with_kind resource d = object (put (codes "apiVersion") (string (api_version_of resource)) (put (codes "kind") (string (kind_of resource)) (members_in d)))

-- without them a value shows the object that it shows with them, at the same revision
abbrev pub ItemsShowTheSame : Type 0
ItemsShowTheSame =
    (resource : Resource) (d : Data) (obj other : Obj) (rev later : ℕ) → ShowsObject resource d obj rev → ShowsObject resource (with_kind resource d) other later
    → (obj ≡ other) × (rev ≡ later)

-- a text is one page at most
pub record IsSamePage (rows others : List RowData) (at other : ℕ) (token later : List ℕ) : Type 0 where
  pub rows_are : rows ≡ others
  pub at_is : at ≡ other
  pub token_is : token ≡ later

abbrev pub TextsAreOnePage : Type 0
TextsAreOnePage =
    (resource : Resource) (text : List ℕ) (rows others : List RowData) (at other : ℕ) (token later : List ℕ)
    → IsPageText resource text rows at token → IsPageText resource text others other later → IsSamePage rows others at other token later

-- the rows of a page may be stored, and all revisions are within bounds
abbrev pub PagesAreKept : Type 0
PagesAreKept =
    (resource : Resource) (text : List ℕ) (rows : List RowData) (at : ℕ) (token : List ℕ) → IsPageText resource text rows at token
    → All (λ row. IsStored resource row.obj × IsToldAt row.rev) rows × IsToldAt at
