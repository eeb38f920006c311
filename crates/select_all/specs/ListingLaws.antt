-- Laws of listings and of what a selection selects.
use Rattle.std.specs.Prelude.{◌≡◌, ◌↔◌, ℕ, ◌≤◌, Bool, IsTrue, List, Some, All}
use Rattle.kube_meta.specs.declared.objects.Obj.{Obj}
use Rattle.kube_meta.specs.declared.resources.Resource.{Resource}
use Rattle.kube_meta.specs.Rows.{RowData}
use Rattle.rev_log.specs.Changes.{RevisionData, IsRevision}
use Rattle.rev_log.specs.Logs.{Log, grown, end_of}
use Rattle.field_select.specs.declared.terms.Field.TheVariants.{Listed}
use Rattle.field_select.specs.Meaning.{value_of, wanted}
use Rattle.select_all.specs.declared.selection.Selection.{Selection}
use Rattle.select_all.specs.Selecting.{Selects, selects}
use Rattle.select_all.specs.Listings.{IsListingBy, IsListingByKey}

-- there is one listing at a revision
abbrev pub ListingsAreUnique : Type 0
ListingsAreUnique =
    (test : Obj → Bool) (log : Log) (resource : Resource) (at : ℕ) (rows others : List RowData) →
    IsListingBy test log resource at rows → IsListingBy test log resource at others → rows ≡ others

-- one at a revision that the log has reached stays as the log grows
abbrev pub ListingsStay : Type 0
ListingsStay =
    (test : Obj → Bool) (log : Log) (more : List RevisionData) (resource : Resource) (at : ℕ) (rows : List RowData) → at ≤ end_of log →
    IsListingBy test log resource at rows → IsListingBy test (grown log more) resource at rows

-- a listing is in order what it is key by key
abbrev pub ListingsByKey : Type 0
ListingsByKey =
    (test : Obj → Bool) (log : Log) (resource : Resource) (at : ℕ) (rows : List RowData) → All IsRevision log.revisions →
    IsListingBy test log resource at rows ↔ IsListingByKey test log resource at rows

-- the test of a selection passes exactly where the object is selected
abbrev pub SelectionsDecide : Type 0
SelectionsDecide = (s : Selection) (obj : Obj) → IsTrue (selects s obj) ↔ Selects s obj

-- each selected object has in a listed field the value that the selection wants there
abbrev pub WantedIsNeeded : Type 0
WantedIsNeeded =
    (s : Selection) (obj : Obj) (place : ℕ) (value : List ℕ) → Selects s obj → wanted s.fields place ≡ Some value →
    value_of obj.fields obj.key (Listed place) ≡ value
