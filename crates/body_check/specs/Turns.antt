-- What a walk over a body's lines keeps, and what a line makes of it.
use Rattle.std.specs.Prelude.{◌≡◌, ℕ, ◌+◌, ◌<◌, ◌≤◌, ◌⊎◌, IsTrue, List, [], ◌∷◌, ◌++◌, All, Option, Some, None, IsSomeAnd, if◌then◌else◌}
use Rattle.std.specs.BTreeMap.{BTreeMap, get, values}
use Rattle.std.specs.Cmp.Lexicographic.{slice_cmp}
use Rattle.std.specs.Ordering.{nat_cmp}
use Rattle.std.specs.declared.cmp.Ordering.TheVariants.{Less}
use Rattle.kube_meta.specs.declared.objects.Obj.{Obj}
use Rattle.kube_meta.specs.Rows.{RowData, AreRising}
use Rattle.rev_log.specs.Rows.{Follows}
use Rattle.select_all.specs.declared.selection.Kind.{Kind}
use Rattle.select_all.specs.declared.selection.Kind.TheVariants.{Added, Modified, Deleted}
use Rattle.select_all.specs.declared.selection.Selection.{Selection}
use Rattle.select_all.specs.Selecting.{selects}
use Rattle.select_all.specs.Listings.{row_told}
use Rattle.select_all.specs.Streams.{TransitionData}
use Rattle.watch_record.specs.Between.{LaterData}
use Rattle.body_check.specs.declared.held.Held.{Held}
use Rattle.body_check.specs.declared.held.Held.TheVariants.{Left, Bad}
use Rattle.body_check.specs.declared.walk.Last.{Last}
use Rattle.body_check.specs.declared.walk.Walk.{Walk}

-- an object is added where none stood, and modified where one did; what is deleted is the very object that stood
abbrev pub FitsRow : Kind → Obj → Option RowData → Type 0
FitsRow Added obj row = row ≡ None
FitsRow Modified obj row = IsSomeAnd row (λ r. Unit {0})
FitsRow Deleted obj row = IsSomeAnd row (λ r. r.obj ≡ obj)

-- ---- later lists

-- The first of the lists stand below a revision, and each is these rows.
pub record ArePassed (stands : List RowData) (below : ℕ) (left rest : List LaterData) : Type 0 where
  pub gone : List LaterData
  pub parted : left ≡ gone ++ rest
  pub same : All (λ l. (l.at < below) × (l.rows ≡ stands)) gone

-- the first list, if there is one, doesn't stand below it
abbrev pub BeginsFrom : ℕ → List LaterData → Type 0
BeginsFrom below [] = Unit {0}
BeginsFrom below (l ∷ more) = below ≤ l.at

-- The first list is another one, and stands below it.
pub record IsOther (stands : List RowData) (below : ℕ) (left : List LaterData) (place : ℕ) : Type 0 where
  pub list : LaterData
  pub more : List LaterData
  pub before : ArePassed stands below left (list ∷ more)
  pub below_it : list.at < below
  pub differs : ¬ (list.rows ≡ stands)
  pub placed : place ≡ list.place

-- what is left of the lists, of which all below a revision are passed; or the place of the first that is another one
abbrev pub PassesTo : List RowData → ℕ → List LaterData → Held → Type 0
PassesTo stands below left (Left rest) = ArePassed stands below left rest.now × BeginsFrom below rest.now
PassesTo stands below left (Bad place) = IsOther stands below left place

-- what holds already stays
abbrev pub HoldsTo : List RowData → ℕ → Held → Held → Type 0
HoldsTo stands below (Left left) now = PassesTo stands below left.now now
HoldsTo stands below (Bad place) now = now ≡ Bad place

-- ---- events

-- a key may come behind the last one of the same revision, which has room
abbrev pub HasRoomFor : Option Last → List ℕ → Type 0
HasRoomFor None key = ⊥
HasRoomFor (Some last) key = (slice_cmp nat_cmp last.key key ≡ Less) × (last.count < 64)

-- An event may come next.
pub record MayCome (s : Selection) (walk : Walk) (kind : Kind) (obj : Obj) (rev : ℕ) : Type 0 where
  pub selected : IsTrue (selects s obj)
  pub fits : FitsRow kind obj (get (slice_cmp nat_cmp) walk.rows obj.key)
  pub onward : walk.to ≤ rev
  pub room : rev ≡ walk.to → HasRoomFor walk.last obj.key

-- how many events of a revision there are with one more
abbrev pub count_with : Option Last → ℕ
count_with None = 1
count_with (Some last) = last.count + 1

-- What an event makes of what a walk keeps.
pub record TakesTo (t : TransitionData) (old now : Walk) : Type 0 where
  pub held : HoldsTo (values old.rows) t.rev old.held now.held
  pub rows : Follows old.rows now.rows (λ key row. row_told key row t)
  pub to : now.to ≡ t.rev
  pub count : ℕ
  pub last : now.last ≡ Some (record { key = t.obj.key; count = count })
  pub first : old.to < t.rev → count ≡ 1
  pub more : old.to ≡ t.rev → count ≡ count_with old.last

-- What a bookmark makes of it.
pub record MarksTo (at : ℕ) (old now : Walk) : Type 0 where
  pub held : HoldsTo (values old.rows) at old.held now.held
  pub rows : now.rows ≡ old.rows
  pub to : now.to ≡ at
  pub last : now.last ≡ None

-- ---- lists

-- The rows may be a list of the selection at a revision: their keys rise, each is selected, and none is younger.
pub record MayStand (s : Selection) (at : ℕ) (rows : List RowData) : Type 0 where
  pub rising : AreRising rows
  pub selected : All (λ row. IsTrue (selects s row.obj)) rows
  pub within : All (λ row. row.rev ≤ at) rows
