-- What holds of each object of a log holds of each object that is told of it.
use Rattle.std.proofs.Common.{◌≡◌, ℕ, ◌-◌, Bool, true, false, List, [], ◌∷◌, ◌++◌, map, fold, Option, Some, None, IfSome, All, refl, sym, ap, ◌∙◌, subst, inl, inr}
use Rattle.std.specs.Prelude.{bytes_eq, option_map}
use Rattle.std.specs.List.{AllByRecursion}
use Rattle.std.proofs.lemmas.Bool.{cases_Bool, and_parts}
use Rattle.std.proofs.lemmas.List.Elements.{recursion_from_All, All-from_recursion, All-take, All-drop, All-filter, All-map, All-append, All-nil, filter_map-append}
use Rattle.kube_meta.specs.declared.objects.Obj.{Obj}
use Rattle.kube_meta.specs.declared.resources.Resource.{Resource}
use Rattle.kube_meta.specs.Resources.{same_resource}
use Rattle.kube_meta.specs.Rows.{RowData}
use Rattle.rev_log.specs.Changes.{ChangeData, RevisionData}
use Rattle.rev_log.specs.Logs.{Log, between, upto}
use Rattle.rev_log.specs.States.{is_change_of, row_after, row_next, row_in_base, row_at}
use Rattle.select_all.specs.declared.selection.Selection.{Selection}
use Rattle.select_all.specs.Selecting.{selects}
use Rattle.select_all.specs.Streams.{EventData, TransitionData, Standing, event_of, events_in, events_from, events, transition_by, transitions_by, transitions}
use Rattle.select_all.proofs.EventLaws.{all_append}
use Rattle.select_all.proofs.OrderLaws.{all_mapped}
use Rattle.watch_rules.specs.declared.ask.WatchAsk.{WatchAsk}
use Rattle.watch_rules.specs.declared.starts.Start.{Start}
use Rattle.watch_rules.specs.declared.starts.Start.TheVariants.{FromState, FromHere, FromRevision}
use Rattle.watch_rules.specs.Bodies.{Line, Body, initial, told_by, told_in, position_of, IsOpening, BeginsBody}
use Rattle.watch_rules.proofs.BodyLemmas.{streams_are_told}
use Rattle.mirror_law.specs.Objects.{EachObject}
use Rattle.mirror_law.proofs.LineLemmas.{first_part}
use Rattle.mirror_law.proofs.RowLemmas.{of_each}

module _ (P : Obj → Type 0) where
  -- the fact of a row's object, if there is one
  abbrev IsRowOf : Option RowData → Type 0
  IsRowOf row = IfSome row (λ r. P r.obj)

  -- and of what a change writes
  abbrev IsWrite : Resource → ChangeData → Type 0
  IsWrite resource c = same_resource c.resource resource ≡ true → IfSome c.new P

  written : (rev : ℕ) (new : Option Obj) → IfSome new P → IsRowOf (option_map (λ obj. record { obj = obj; rev = rev }) new)
  written rev None fact = tt
  written rev (Some obj) fact = fact

  row_stands : (resource : Resource) (key : List ℕ) (rev : ℕ) (row : Option RowData) (changes : List ChangeData) → AllByRecursion (IsWrite resource) changes → IsRowOf row → IsRowOf (fold (row_after resource key rev) row changes)
  row_stands resource key rev row [] writes fact = fact
  row_stands resource key rev row (c ∷ changes) writes fact =
      row_stands resource key rev (row_after resource key rev row c) changes writes.1 (one (is_change_of resource key c) refl)
    where
      one : (here : Bool) → is_change_of resource key c ≡ here → IsRowOf (row_after resource key rev row c)
      one true is = rw is (written rev c.new (writes.0 (and_parts (same_resource c.resource resource) (bytes_eq c.key key) is).0))
      one false isnt = rw isnt fact

  rows_stand : (resource : Resource) (key : List ℕ) (row : Option RowData) (xs : List RevisionData) → AllByRecursion (λ x. AllByRecursion (IsWrite resource) x.changes) xs → IsRowOf row → IsRowOf (fold (row_next resource key) row xs)
  rows_stand resource key row [] writes fact = fact
  rows_stand resource key row (x ∷ xs) writes fact = rows_stand resource key (row_next resource key row x) xs writes.1 (row_stands resource key x.rev row x.changes writes.0 fact)

  -- of both rows of an event
  abbrev IsEventWith : EventData → Type 0
  IsEventWith event = IsRowOf event.before × IsRowOf event.now

  event_with : (resource : Resource) (rows : Standing) (rev : ℕ) → ((key : List ℕ) → IsRowOf (rows key)) → (c : ChangeData) → IsWrite resource c → IfSome (event_of resource rows rev c) IsEventWith
  event_with resource rows rev stand c write = elim (cases_Bool (same_resource c.resource resource)) [
    | inl here ↦ rw here (stand c.key, written rev c.new (write here))
    | inr elsewhere ↦ rw elsewhere tt
  ]

  events_with : (resource : Resource) (rows : Standing) (xs : List RevisionData) → AllByRecursion (λ x. AllByRecursion (IsWrite resource) x.changes) xs → ((key : List ℕ) → IsRowOf (rows key)) → AllByRecursion IsEventWith (events_from resource rows xs)
  events_with resource rows [] writes stand = tt
  events_with resource rows (x ∷ xs) writes stand =
      let after : Standing = λ key. row_next resource key (rows key) x in
      all_append IsEventWith (events_in resource rows x) (events_from resource after xs)
      (all_mapped (event_of resource rows x.rev) (IsWrite resource) IsEventWith (event_with resource rows x.rev stand) x.changes writes.0)
      (events_with resource after xs writes.1 (λ key. row_stands resource key x.rev (rows key) x.changes writes.0 (stand key)))

  told_with : (test : Obj → Bool) (rev : ℕ) (key : List ℕ) (before now : Option RowData) → IsRowOf before → IsRowOf now
      → IfSome (transition_by test (record { rev = rev; key = key; before = before; now = now })) (λ t. P t.obj)
  told_with test rev key None None was is = tt
  told_with test rev key None (Some n) was is = elim (cases_Bool (test n.obj)) [ inl now ↦ simp now is | inr fails ↦ simp fails tt ]
  told_with test rev key (Some b) None was is = elim (cases_Bool (test b.obj)) [ inl before ↦ simp before was | inr fails ↦ simp fails tt ]
  told_with test rev key (Some b) (Some n) was is = elim (cases_Bool (test b.obj)) [
    | inl before ↦ elim (cases_Bool (test n.obj)) [ inl now ↦ simp (before, now) is | inr fails ↦ simp (before, fails) was ]
    | inr before ↦ elim (cases_Bool (test n.obj)) [ inl now ↦ simp (before, now) is | inr fails ↦ simp (before, fails) tt ]
  ]

  module _ (log : Log) (resource : Resource) (each : EachObject P log resource) where
    writes_of : (x : RevisionData) → All (IsWrite resource) x.changes → AllByRecursion (IsWrite resource) x.changes
    writes_of x all = recursion_from_All (IsWrite resource) x.changes all

    all_writes : (xs : List RevisionData) → All (λ x. All (IsWrite resource) x.changes) xs → AllByRecursion (λ x. AllByRecursion (IsWrite resource) x.changes) xs
    all_writes xs all = inner xs (recursion_from_All (λ x. All (IsWrite resource) x.changes) xs all)
      where
        inner : (ys : List RevisionData) → AllByRecursion (λ y. All (IsWrite resource) y.changes) ys → AllByRecursion (λ y. AllByRecursion (IsWrite resource) y.changes) ys
        inner [] alls = tt
        inner (y ∷ ys) alls = (writes_of y alls.0, inner ys alls.1)

    row_with : (at : ℕ) (key : List ℕ) → IsRowOf (row_at log resource at key)
    row_with at key = rows_stand resource key (row_in_base log.base resource key) (upto log at) (all_writes (upto log at) (All-take (λ x. All (IsWrite resource) x.changes) (at - log.first) log.revisions each.written)) (each.base key)

    transitions_with : (test : Obj → Bool) (a b : ℕ) → AllByRecursion (λ t. P t.obj) (transitions_by test log resource a b)
    transitions_with test a b =
        all_mapped (transition_by test) IsEventWith (λ t. P t.obj) (λ event is. told_with test event.rev event.key event.before event.now is.0 is.1) (events log resource a b)
        (events_with resource (row_at log resource a) (between log a b)
        (all_writes (between log a b) (All-drop (λ x. All (IsWrite resource) x.changes) (a - log.first) (upto log b) (All-take (λ x. All (IsWrite resource) x.changes) (b - log.first) log.revisions each.written)))
        (row_with a))

  opening_with : (log : Log) (s : Selection) (start : Start) (at : ℕ) (rows : List RowData) → EachObject P log s.resource → IsOpening log s start at rows → All (λ row. P row.obj) rows
  opening_with log s (FromState meaning) at rows each opening =
      let listing = opening.0 in
      subst (All (λ row. P row.obj)) (sym listing.selected)
      (All-filter (λ row. selects s row.obj) (λ row. P row.obj) listing.state
      (of_each (λ row. P row.obj) listing.state listing.is_state.rising (λ key. subst IsRowOf (sym (listing.is_state.exact key)) (row_with log s.resource each at key))))
  opening_with log s (FromHere meaning) at rows each opening = subst (All (λ row. P row.obj)) (sym opening.0) (All-nil (λ row. P row.obj))
  opening_with log s (FromRevision revision) at rows each opening = subst (All (λ row. P row.obj)) (sym opening.0) (All-nil (λ row. P row.obj))

  -- what holds of each object of the watched resource holds of each object that the lines of a body tell
  pub told_objects : (log : Log) (log_floor low at : ℕ) (ask : WatchAsk) (lines : List Line) → EachObject P log ask.selection.resource → BeginsBody log log_floor low ask at lines → All (λ t. P t.obj) (told_in lines)
  told_objects log log_floor low at ask lines each begins =
      let tells = begins.2 in
      let body : Body = tells.body in
      let ts : List TransitionData = transitions log ask.selection body.at (position_of body) in
      let rows : All (λ t. P t.obj) (map initial body.rows) = All-map (λ (t : TransitionData). P t.obj) initial body.rows (opening_with log ask.selection ask.start body.at body.rows each tells.lawful.opening) in
      let stream : All (λ t. P t.obj) ts = All-from_recursion (λ t. P t.obj) ts (transitions_with log ask.selection.resource each (selects ask.selection) body.at (position_of body)) in
      let whole : told_in lines ++ told_in begins.0 ≡ map initial body.rows ++ ts =
      sym (filter_map-append told_by lines begins.0) ∙ ap told_in tells.lines_are ∙ streams_are_told log log_floor low ask body tells.lawful in
      All-from_recursion (λ t. P t.obj) (told_in lines)
      (first_part (λ t. P t.obj) (told_in lines) (told_in begins.0)
      (recursion_from_All (λ t. P t.obj) (told_in lines ++ told_in begins.0) (subst (All (λ t. P t.obj)) (sym whole) (All-append (λ t. P t.obj) (map initial body.rows) ts rows stream))))
