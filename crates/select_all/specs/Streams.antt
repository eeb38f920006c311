-- What a log's revisions are to a watch: events, which know nothing of selections, and the transitions of the objects
-- that pass a test, or that a selection selects.
use Rattle.std.specs.Prelude.{◌≡◌, ℕ, ◌<◌, ◌≤◌, Bool, List, [], ◌∷◌, ◌++◌, Option, Some, None, IfSome, option_map, option_and_then, filter_map, if◌then◌else◌}
use Rattle.std.specs.Cmp.Lexicographic.{slice_cmp}
use Rattle.std.specs.declared.cmp.Ordering.{Ordering}
use Rattle.std.specs.Ordering.{nat_cmp, ordering_then}
use Rattle.kube_meta.specs.declared.objects.Obj.{Obj}
use Rattle.kube_meta.specs.declared.resources.Resource.{Resource}
use Rattle.kube_meta.specs.Resources.{same_resource}
use Rattle.kube_meta.specs.Rows.{RowData, key_of}
use Rattle.rev_log.specs.Changes.{ChangeData, RevisionData}
use Rattle.rev_log.specs.Logs.{Log, between}
use Rattle.rev_log.specs.States.{row_next, row_at}
use Rattle.select_all.specs.declared.selection.Selection.{Selection}
use Rattle.select_all.specs.declared.selection.Kind.{Kind}
use Rattle.select_all.specs.Selecting.{selects, holds_by, kind_of_change, told_of}

-- a change of one object: its row before the change, with the revision that it had, and its row after it, with the
-- revision of the change, where there are such
pub record EventData : Type 0 where
  pub rev : ℕ
  pub key : List ℕ
  pub before : Option RowData
  pub now : Option RowData

-- what is told of a change: its kind, an object, and the revision of the change
pub record TransitionData : Type 0 where
  pub kind : Kind
  pub obj : Obj
  pub rev : ℕ

-- what stands at each key
abbrev pub Standing : Type 0
Standing = List ℕ → Option RowData

-- the event of a change, if it is one of the resource, where these rows stood before
abbrev pub event_of : Resource → Standing → ℕ → ChangeData → Option EventData
event_of resource rows rev change =
    if same_resource change.resource resource
    then Some (record { rev = rev; key = change.key; before = rows change.key; now = option_map (λ obj. record { obj = obj; rev = rev }) change.new })
    else None

-- the events of a revision, in the order of its changes, which is that of the keys
abbrev pub events_in : Resource → Standing → RevisionData → List EventData
events_in resource rows revision = filter_map (event_of resource rows revision.rev) revision.changes

-- those of revisions that follow one another
abbrev pub events_from : Resource → Standing → List RevisionData → List EventData
events_from resource rows [] = []
events_from resource rows (revision ∷ more) =
    events_in resource rows revision ++ events_from resource (λ key. row_next resource key (rows key) revision) more

-- the events of a resource in the revisions above a and up to b
abbrev pub events : Log → Resource → ℕ → ℕ → List EventData
events log resource a b = events_from resource (row_at log resource a) (between log a b)

-- what each event is: above a and up to b, with rows of its key, and the row after it at its revision
pub record IsEventWithin (a b : ℕ) (event : EventData) : Type 0 where
  pub above : a < event.rev
  pub within : event.rev ≤ b
  pub before_keyed : IfSome event.before (λ row. key_of row ≡ event.key)
  pub now_keyed : IfSome event.now (λ row. key_of row ≡ event.key)
  pub now_numbered : IfSome event.now (λ row. row.rev ≡ event.rev)

-- the order of events: by revision, and then by key
abbrev pub event_cmp : EventData → EventData → Ordering
event_cmp a b = ordering_then (nat_cmp a.rev b.rev) (slice_cmp nat_cmp a.key b.key)

-- ---- transitions

-- the object of a row, where there is one
abbrev pub object_of : Option RowData → Option Obj
object_of row = option_map (λ r. r.obj) row

-- an object that no longer passes is told as it was before, and any other as it is now
abbrev pub told_object : Kind → EventData → Option Obj
told_object kind event = told_of kind (object_of event.before) (object_of event.now)

-- what an event is to a watch of the objects that pass a test: nothing, or a transition
abbrev pub transition_by : (Obj → Bool) → EventData → Option TransitionData
transition_by test event =
    option_and_then (λ kind. option_map (λ obj. record { kind = kind; obj = obj; rev = event.rev }) (told_object kind event))
    (kind_of_change (holds_by test (object_of event.before)) (holds_by test (object_of event.now)))

-- the transitions of these objects of a resource in the revisions above a and up to b
abbrev pub transitions_by : (Obj → Bool) → Log → Resource → ℕ → ℕ → List TransitionData
transitions_by test log resource a b = filter_map (transition_by test) (events log resource a b)

-- those of a selection
abbrev pub transitions : Log → Selection → ℕ → ℕ → List TransitionData
transitions log s a b = transitions_by (selects s) log s.resource a b

-- the order of transitions: by revision, and then by the key of the object
abbrev pub transition_cmp : TransitionData → TransitionData → Ordering
transition_cmp a b = ordering_then (nat_cmp a.rev b.rev) (slice_cmp nat_cmp a.obj.key b.obj.key)
