-- Tables that follow a log, and what is made upon them again.
use Rattle.std.proofs.Common.{◌≡◌, ℕ, zero, suc, ◌≤◌, List, [], ◌∷◌, take, fold, Option, refl, sym, ap, ◌∙◌, ◌⊎◌, inl, inr}
use Rattle.std.proofs.Math.Seq.{take-nil}
use Rattle.std.proofs.lemmas.Bool.{cases_Bool}
use Rattle.kube_meta.specs.Rows.{RowData, row_with}
use Rattle.kube_meta.specs.declared.resources.Resource.{Resource}
use Rattle.rev_log.specs.Changes.{ChangeData, RevisionData}
use Rattle.rev_log.specs.Logs.{Log, end_of, between}
use Rattle.rev_log.specs.States.{is_change_of, row_after, row_next}
use Rattle.up_store.specs.Kept.{rows_of, changed, HaveMade, HaveBegun, Replay}
use Rattle.up_store.specs.declared.tables.Tables.{Tables}
use Rattle.up_store.proofs.ChangedLemmas.{fold-changed}

-- ---- a revision that is made upon a beginning of itself

-- a step forgets what stood, or leaves it
abbrev pub Steady : {A B : Type 0} → (B → A → B) → A → Type 0
Steady {A} {B} f c = ((x y : B) → f x c ≡ f y c) ⊎ ((x : B) → f x c ≡ x)

pub fold_again : {A B : Type 0} (f : B → A → B) (xs : List A) (n : ℕ) (x : B) → ((c : A) → Steady f c) → fold f (fold f x (take n xs)) xs ≡ fold f x xs
fold_again f [] n x steady = rw take-nil refl
fold_again f (c ∷ cs) zero x steady = refl
fold_again f (c ∷ cs) (suc n) x steady = elim (steady c) [
  | inl forgets ↦ ap (λ y. fold f y cs) (forgets (fold f (f x c) (take n cs)) x)
  | inr leaves ↦ ap (λ y. fold f y cs) (leaves (fold f (f x c) (take n cs))) ∙ fold_again f cs n (f x c) steady
]

steady_change : (resource : Resource) (key : List ℕ) (rev : ℕ) (change : ChangeData) → Steady (row_after resource key rev) change
steady_change resource key rev change = elim (cases_Bool (is_change_of resource key change)) [
  | inl of ↦ inl (λ x y. rw of refl)
  | inr other ↦ inr (λ x. rw other refl)
]

pub made_again : (resource : Resource) (key : List ℕ) (revision : RevisionData) (n : ℕ) (row : Option RowData) →
    row_next resource key (fold (row_after resource key revision.rev) row (take n revision.changes)) revision ≡ row_next resource key row revision
made_again resource key revision n row = fold_again (row_after resource key revision.rev) revision.changes n row (steady_change resource key revision.rev)

-- ---- tables

-- the rows that a step leaves, where it and what is behind it are made of what was made before
go-on : (log : Log) (from next : ℕ) (resource : Resource) (key : List ℕ) (at : ℕ) (r : RevisionData) (before after : Option RowData) →
    changed log from at ≡ r ∷ changed log next at → row_next resource key after r ≡ row_next resource key before r →
    fold (row_next resource key) after (between log from at) ≡ fold (row_next resource key) before (between log from at)
go-on log from next resource key at r before after parts same =
    sym (fold-changed resource key after (between log from at))
    ∙ ap (fold (row_next resource key) after) parts
    ∙ ap (λ row. fold (row_next resource key) row (changed log next at)) same
    ∙ ap (fold (row_next resource key) before) (sym parts)
    ∙ fold-changed resource key before (between log from at)

-- tables that have made the next revision with changes
pub Replay-made : (log : Log) (from next least : ℕ) (r : RevisionData) (old new : Tables) →
    ((at : ℕ) → least ≤ at → at ≤ end_of log → changed log from at ≡ r ∷ changed log next at) →
    HaveMade r old new → Replay log from least old → Replay log next least new
Replay-made log from next least r old new parts made was = record {
  rising = λ resource. (made resource).rising (was.rising resource);
  replays = λ resource key at later within.
      sym (fold-changed resource key (row_with (rows_of new resource) key) (between log next at))
      ∙ ap (λ row. fold (row_next resource key) row (changed log next at)) ((made resource).reads key)
      ∙ ap (fold (row_next resource key) (row_with (rows_of old resource) key)) (sym (parts at later within))
      ∙ fold-changed resource key (row_with (rows_of old resource) key) (between log from at)
      ∙ was.replays resource key at later within;
}

-- tables that have made the first changes of the next revision, of each resource some
pub Replay-begun : (log : Log) (from next least : ℕ) (r : RevisionData) (old new : Tables) →
    ((at : ℕ) → least ≤ at → at ≤ end_of log → changed log from at ≡ r ∷ changed log next at) →
    HaveBegun r old new → Replay log from least old → Replay log from least new
Replay-begun log from next least r old new parts begun was = record {
  rising = λ resource. (begun resource).1.rising (was.rising resource);
  replays = λ resource key at later within.
      let before : Option RowData = row_with (rows_of old resource) key in
      go-on log from next resource key at r before (row_with (rows_of new resource) key) (parts at later within)
      (ap (λ row. row_next resource key row r) ((begun resource).1.reads key) ∙ made_again resource key r (begun resource).0 before)
      ∙ was.replays resource key at later within;
}

-- tables behind which nothing changes up to a later revision
pub Replay-on : (log : Log) (from next least : ℕ) (tables : Tables) → ((at : ℕ) → least ≤ at → at ≤ end_of log → changed log from at ≡ changed log next at) →
    Replay log from least tables → Replay log next least tables
Replay-on log from next least tables parts was = record {
  rising = was.rising;
  replays = λ resource key at later within.
      let row : Option RowData = row_with (rows_of tables resource) key in
      sym (fold-changed resource key row (between log next at)) ∙ ap (fold (row_next resource key) row) (sym (parts at later within))
      ∙ fold-changed resource key row (between log from at) ∙ was.replays resource key at later within;
}
