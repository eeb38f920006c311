-- What one change is to a selection, and what revisions leave.
use Rattle.std.specs.Prelude.{ℕ, List, [], ◌∷◌, nat_le, if◌then◌else◌, fold, Option, None, option_and_then}
use Rattle.kube_meta.specs.declared.resources.Resource.{Resource}
use Rattle.rev_log.specs.Changes.{ChangeData, RevisionData}
use Rattle.rev_log.specs.States.{row_next}
use Rattle.select_all.specs.declared.selection.Selection.{Selection}
use Rattle.select_all.specs.Selecting.{selects}
use Rattle.select_all.specs.Streams.{Standing, TransitionData, event_of, transition_by}

-- what a change is to the selection, where these rows stood before
abbrev pub told_change : Selection → Standing → ℕ → ChangeData → Option TransitionData
told_change s rows rev change = option_and_then (transition_by (selects s)) (event_of s.resource rows rev change)

-- what stands at each key after revisions, where nothing stood before
abbrev pub standing : Resource → List RevisionData → Standing
standing resource revisions key = fold (row_next resource key) None revisions

-- the transitions behind the first ones that are at most at a revision
abbrev pub drop_upto : ℕ → List TransitionData → List TransitionData
drop_upto at [] = []
drop_upto at (t ∷ more) = if nat_le t.rev at then drop_upto at more else t ∷ more
