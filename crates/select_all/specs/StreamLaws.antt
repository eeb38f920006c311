-- Laws of streams: of the transitions of the objects that pass a test, as those that a selection selects.
use Rattle.std.specs.Prelude.{◌≡◌, ℕ, ◌<◌, ◌≤◌, ◌++◌, max, Bool, IsTrue, List, [], All}
use Rattle.std.specs.List.Sorted.{IsStrictlySortedBy}
use Rattle.kube_meta.specs.declared.objects.Obj.{Obj}
use Rattle.kube_meta.specs.declared.resources.Resource.{Resource}
use Rattle.kube_meta.specs.Rows.{RowData, row_with}
use Rattle.rev_log.specs.Changes.{RevisionData}
use Rattle.rev_log.specs.Logs.{Log, IsLog, grown, end_of}
use Rattle.select_all.specs.Streams.{transition_cmp, transitions_by}
use Rattle.select_all.specs.Listings.{IsListingBy, row_followed}

-- the transitions up to a revision and those from it on are all
abbrev pub TransitionsJoin : Type 0
TransitionsJoin =
    (test : Obj → Bool) (log : Log) (resource : Resource) (a b c : ℕ) → a ≤ b → b ≤ c →
    transitions_by test log resource a b ++ transitions_by test log resource b c ≡ transitions_by test log resource a c

-- those up to the log's end, or up to where they start, stay as the log grows
abbrev pub TransitionsStay : Type 0
TransitionsStay =
    (test : Obj → Bool) (log : Log) (more : List RevisionData) (resource : Resource) (a b : ℕ) → b ≤ max a (end_of log) →
    transitions_by test (grown log more) resource a b ≡ transitions_by test log resource a b

-- there are none up to a revision that isn't above where they start
abbrev pub TransitionsNone : Type 0
TransitionsNone =
    (test : Obj → Bool) (log : Log) (resource : Resource) (a b : ℕ) → b ≤ a →
    transitions_by test log resource a b ≡ []

-- they stand in the order of revisions and then of keys, above a and up to b
abbrev pub TransitionsAreInOrder : Type 0
TransitionsAreInOrder =
    (test : Obj → Bool) (log : Log) (resource : Resource) (a b : ℕ) → IsLog log →
    IsStrictlySortedBy transition_cmp (transitions_by test log resource a b) ×
    All (λ t. (a < t.rev) × (t.rev ≤ b)) (transitions_by test log resource a b)

-- each tells an object that passes
abbrev pub TransitionsAreSelected : Type 0
TransitionsAreSelected =
    (test : Obj → Bool) (log : Log) (resource : Resource) (a b : ℕ) →
    All (λ t. IsTrue (test t.obj)) (transitions_by test log resource a b)

-- the listing at a, with the transitions from there to b applied key by key, is the listing at b
abbrev pub ListingsFollow : Type 0
ListingsFollow =
    (test : Obj → Bool) (log : Log) (resource : Resource) (a b : ℕ) (rows later : List RowData) → IsLog log → a ≤ b →
    IsListingBy test log resource a rows → IsListingBy test log resource b later →
    (key : List ℕ) → row_with later key ≡ row_followed rows (transitions_by test log resource a b) key
