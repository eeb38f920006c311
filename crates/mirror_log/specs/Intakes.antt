-- What a mirror takes in: the lines that it keeps until their revision is whole, and the keys of objects that stand.
use Rattle.std.specs.Prelude.{◌≡◌, ℕ, ◌+◌, ◌≤◌, ◌^◌, Bool, true, false, not, ◌&&◌, ◌||◌, List, [], ◌∷◌, ◌++◌, length, All, AllPairs, is_some, bytes_eq}
use Rattle.std.specs.BTreeSet.{BTreeSet, contains}
use Rattle.std.specs.Cmp.Lexicographic.{slice_cmp}
use Rattle.std.specs.List.{list_any}
use Rattle.std.specs.Ordering.{nat_cmp}
use Rattle.kube_meta.specs.declared.resources.Resource.{Resource}
use Rattle.rev_log.specs.Logs.{Log, end_of}
use Rattle.rev_log.specs.States.{row_at}
use Rattle.select_all.specs.declared.selection.Kind.{Kind}
use Rattle.select_all.specs.declared.selection.Kind.TheVariants.{Added, Modified, Deleted}
use Rattle.select_all.specs.declared.selection.Selection.{Selection}
use Rattle.select_all.specs.Streams.{TransitionData}

-- the most changes of one revision, and so the most lines that are kept
abbrev pub most_kept : ℕ
most_kept = 64

-- ---- kinds

-- the same kind
abbrev pub same_kind : Kind → Kind → Bool
same_kind Added Added = true
same_kind Added Modified = false
same_kind Added Deleted = false
same_kind Modified Added = false
same_kind Modified Modified = true
same_kind Modified Deleted = false
same_kind Deleted Added = false
same_kind Deleted Modified = false
same_kind Deleted Deleted = true

-- an object is added where none stood, and modified or deleted where one did
abbrev pub fits_kind : Kind → Bool → Bool
fits_kind Added stood = not stood
fits_kind Modified stood = stood
fits_kind Deleted stood = stood

-- ---- what is taken in

-- whose lines are taken, how many revisions without a line may lie before one, the end of the mirror's log, the keys of
-- its table, and the lines of the revision behind the end, as they came
pub record IntakeData : Type 0 where
  pub selection : Selection
  pub most_gap : ℕ
  pub to : ℕ
  pub keys : BTreeSet (List ℕ)
  pub kept : List TransitionData

-- the table has the key
abbrev pub has : BTreeSet (List ℕ) → List ℕ → Bool
has keys key = contains (slice_cmp nat_cmp) keys key

-- a line tells of the object with this key
abbrev pub is_of : List ℕ → TransitionData → Bool
is_of key t = bytes_eq t.obj.key key

-- one of the lines does, by this kind
abbrev pub tells : Kind → List TransitionData → List ℕ → Bool
tells kind lines key = list_any (λ t. same_kind t.kind kind && is_of key t) lines

-- What holds of each: all lines that are kept are of the one revision behind the end, no more than it may have changes,
-- and no key comes twice.
pub record IsIntake (intake : IntakeData) : Type 0 where
  pub ends : intake.to ≤ 2 ^ 62
  pub bounded : intake.most_gap ≤ 2 ^ 62
  pub next : All (λ t. t.rev ≡ intake.to + 1) intake.kept
  pub few : length intake.kept ≤ most_kept
  pub distinct : AllPairs (λ t u. is_of u.obj.key t ≡ false) intake.kept

-- It stands at the end of this log: its table has the keys of the objects of a resource that stand there and of those that are
-- kept as added; and the kind of each line that is kept fits what stands there.
pub record IsAtEnd (resource : Resource) (intake : IntakeData) (log : Log) : Type 0 where
  pub end : intake.to ≡ end_of log
  pub keys : (key : List ℕ) → has intake.keys key ≡ is_some (row_at log resource (end_of log) key) || tells Added intake.kept key
  pub fits : All (λ t. fits_kind t.kind (is_some (row_at log resource (end_of log) t.obj.key)) ≡ true) intake.kept

-- ---- what a call leaves

-- only the line is kept beside those before
pub record Keeps (old : IntakeData) (t : TransitionData) (new : IntakeData) : Type 0 where
  pub selection : new.selection ≡ old.selection
  pub most_gap : new.most_gap ≡ old.most_gap
  pub to : new.to ≡ old.to
  pub kept : new.kept ≡ old.kept ++ t ∷ []

-- the end is this, and nothing is kept
pub record IsClear (old : IntakeData) (to : ℕ) (new : IntakeData) : Type 0 where
  pub selection : new.selection ≡ old.selection
  pub most_gap : new.most_gap ≡ old.most_gap
  pub to_is : new.to ≡ to
  pub kept : new.kept ≡ []
