-- Mirrors: logs that are another log, their peer, from a revision on, of the objects that pass a test alone.
use Rattle.std.specs.Prelude.{◌≡◌, ◌↔◌, ℕ, ◌≤◌, Bool, ◌&&◌, nat_eq, List, [], map, filter, option_map}
use Rattle.std.specs.List.Sorted.{IsPermutation}
use Rattle.kube_meta.specs.declared.objects.Obj.{Obj}
use Rattle.kube_meta.specs.declared.resources.Resource.{Resource}
use Rattle.kube_meta.specs.Rows.{RowData}
use Rattle.rev_front.specs.Passes.{FitFrom}
use Rattle.rev_log.specs.Changes.{ChangeData, RevisionData, IsRevision}
use Rattle.rev_log.specs.Logs.{Log, IsLog, end_of}
use Rattle.rev_log.specs.States.{IsStateAt}
use Rattle.select_all.specs.declared.selection.Selection.{Selection}
use Rattle.select_all.specs.Selecting.{selects}
use Rattle.select_all.specs.Streams.{TransitionData, transitions_by}
use Rattle.select_all.specs.Listings.{IsListingBy, row_left}

-- an object passes both tests
abbrev pub both : (Obj → Bool) → (Obj → Bool) → Obj → Bool
both first second obj = first obj && second obj

-- From revision b on, up to its own end, m has of a resource what the peer has of the objects that pass the test: its
-- states are the peer's listings, and a stream of m by another test is the peer's by both. Nothing is said of what m
-- had below b.
pub record IsMirrorBy (test : Obj → Bool) (peer : Log) (resource : Resource) (b : ℕ) (m : Log) : Type 0 where
  pub log : IsLog m
  pub first : m.first ≤ b
  pub begun : b ≤ end_of m
  pub reached : end_of m ≤ end_of peer
  pub states : (r : ℕ) (rows : List RowData) → b ≤ r → r ≤ end_of m →
      IsStateAt m resource r rows ↔ IsListingBy test peer resource r rows
  pub streams : (other : Obj → Bool) (x y : ℕ) → b ≤ x → x ≤ y → y ≤ end_of m →
      transitions_by other m resource x y ≡ transitions_by (both test other) peer resource x y

-- A mirror for a selection.
abbrev pub IsMirrorOf : Log → Selection → ℕ → Log → Type 0
IsMirrorOf peer s b m = IsMirrorBy (selects s) peer s.resource b m

-- The selection u selects exactly what s and t both do, of their one resource.
pub record SelectsBoth (u s t : Selection) : Type 0 where
  pub resource : u.resource ≡ s.resource
  pub one_resource : t.resource ≡ s.resource
  pub exact : (obj : Obj) → selects u obj ≡ both (selects s) (selects t) obj

-- the log of a mirror that begins with rows
abbrev pub opened_log : ℕ → List RowData → Log
opened_log b rows = record { first = b; base = rows; revisions = [] }

-- ---- the revisions of a mirror

-- what a told transition makes of its object in the mirror's log: it is written there, or removed
abbrev pub change_told : Resource → TransitionData → ChangeData
change_told resource t = record { rev = t.rev; resource = resource; key = t.obj.key; new = option_map (λ row. row.obj) (row_left t) }

-- The revision of the mirror with this number, where these transitions were told at it: their changes in the order of
-- revisions, and none where nothing was told.
pub record IsRevisionTold (resource : Resource) (at : ℕ) (told : List TransitionData) (revision : RevisionData) : Type 0 where
  pub number : revision.rev ≡ at
  pub is : IsRevision revision
  pub changes : IsPermutation (map (change_told resource) told) revision.changes

-- those transitions that are of one revision
abbrev pub of_revision : ℕ → List TransitionData → List TransitionData
of_revision at told = filter (λ t. nat_eq t.rev at) told

-- Behind revision `from` these revisions follow, each that of its transitions among those that were told.
abbrev pub AreToldBy : Resource → List TransitionData → ℕ → List RevisionData → Type 0
AreToldBy resource told from revisions = FitFrom (λ at revision. IsRevisionTold resource at (of_revision at told) revision) from revisions
