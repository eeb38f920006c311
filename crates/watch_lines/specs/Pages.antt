-- The pages of a list, each by its value.
use Rattle.std.specs.Prelude.{◌≡◌, ℕ, List, [], ◌∷◌, codes, Option, Some, None, MatchOption, ⊤, string_bytes}
use Rattle.serde_json.specs.Data.{Data, null, boolean, number, string, array, object, Items, no_items, item}
use Rattle.serde_json.specs.Find.{get, as_str}
use Rattle.kube_meta.specs.Resources.{api_version_of, list_kind_of}
use Rattle.kube_meta.specs.Rows.{RowData}
use Rattle.kube_meta.specs.declared.resources.Resource.{Resource}
use Rattle.json_obj.specs.Objects.{IsTextOf, metadata_of}
use Rattle.watch_lines.specs.Reading.{text_in}
use Rattle.watch_lines.specs.Values.{ShowsObject, HasRevision}
use Rattle.watch_lines.specs.declared.pages.Page.{Page}

-- the items show these rows, one each, in their order
abbrev pub AreShown : Resource → Items → List RowData → Type 0
AreShown resource no_items [] = ⊤
AreShown resource no_items (row ∷ rows) = ⊥
AreShown resource (item d ds) [] = ⊥
AreShown resource (item d ds) (row ∷ rows) = ShowsObject resource d row.obj row.rev × AreShown resource ds rows

-- what stands in an array; nothing and null are no items
abbrev pub listed : Option Data → Option Items
listed None = Some no_items
listed (Some null) = Some no_items
listed (Some (boolean b)) = None
listed (Some (number n)) = None
listed (Some (string s)) = None
listed (Some (array ds)) = Some ds
listed (Some (object ms)) = None

-- the items of a list
abbrev pub items_of : Data → Option Items
items_of d = listed (get (codes "items") d)

-- a text that may be absent: then it is empty
abbrev pub text_if_any : Option Data → Option (List ℕ)
text_if_any None = Some []
text_if_any (Some d) = as_str d

-- by which token the next page is asked for: none, which is the empty text, where this is the last
abbrev pub token_of : Data → Option (List ℕ)
token_of d = text_if_any (get (codes "continue") (metadata_of d))

-- the value is of the version and the kind of the resource's lists
abbrev pub IsListValue : Resource → Data → Type 0
IsListValue resource d = (text_in (codes "apiVersion") d ≡ Some (api_version_of resource)) × (text_in (codes "kind") d ≡ Some (list_kind_of resource))

-- the value is a page of a list of the resource: its rows, the revision at which they stand, and its token
pub record IsPageValue (resource : Resource) (d : Data) (rows : List RowData) (at : ℕ) (token : List ℕ) : Type 0 where
  pub kind : IsListValue resource d
  pub revision : HasRevision d at
  pub token_is : token_of d ≡ Some token
  pub items : Items
  pub items_are : items_of d ≡ Some items
  pub rows_are : AreShown resource items rows

-- the text is of such a value
pub record IsPageText (resource : Resource) (text : List ℕ) (rows : List RowData) (at : ℕ) (token : List ℕ) : Type 0 where
  pub value : Data
  pub is : IsTextOf text value
  pub lists : IsPageValue resource value rows at token

-- the page that a value is, or nothing where it is none
abbrev pub ReadsList : Resource → Data → Option Page → Type 0
ReadsList resource d found =
    MatchOption found ((rows : List RowData) (at : ℕ) (token : List ℕ) → ¬ (IsPageValue resource d rows at token))
    (λ page. IsPageValue resource d page.rows.items page.at (string_bytes page.token))

-- and that which a text is
abbrev pub ReadsPage : Resource → List ℕ → Option Page → Type 0
ReadsPage resource text found =
    MatchOption found ((rows : List RowData) (at : ℕ) (token : List ℕ) → ¬ (IsPageText resource text rows at token))
    (λ page. IsPageText resource text page.rows.items page.at (string_bytes page.token))
