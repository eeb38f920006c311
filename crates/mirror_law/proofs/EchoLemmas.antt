-- What is told of a log, made into changes of another one, is told again.
use Rattle.std.proofs.Common.{◌≡◌, ℕ, Bool, true, List, [], ◌∷◌, fold, map, filter_map, Option, Some, None, IfSome, bytes_eq, refl, sym, ap, ◌∙◌, subst, inl, inr}
use Rattle.std.specs.Prelude.{option_map}
use Rattle.std.specs.List.{AllByRecursion, cons_option}
use Rattle.std.proofs.lemmas.Bool.{cases_Bool, eq-eqb}
use Rattle.kube_meta.specs.declared.objects.Obj.{Obj}
use Rattle.kube_meta.specs.declared.resources.Resource.{Resource}
use Rattle.kube_meta.specs.Resources.{place_of, same_resource}
use Rattle.kube_meta.specs.Rows.{RowData, key_of}
use Rattle.rev_log.specs.States.{row_after}
use Rattle.select_all.specs.declared.selection.Kind.{Kind}
use Rattle.select_all.specs.declared.selection.Kind.TheVariants.{Added, Modified, Deleted}
use Rattle.select_all.specs.Streams.{EventData, TransitionData, Standing, event_of, transition_by}
use Rattle.select_all.specs.Listings.{shown_by, row_left, row_told}
use Rattle.mirror_law.specs.Mirrors.{both, change_told}

same_itself : (resource : Resource) → same_resource resource resource ≡ true
same_itself resource = eq-eqb (place_of resource) (place_of resource) refl

-- ---- rows

left : (kind : Kind) (obj : Obj) (rev : ℕ) → option_map (λ obj. record { obj = obj; rev = rev }) (option_map (λ (row : RowData). row.obj) (row_left (record { kind = kind; obj = obj; rev = rev }))) ≡ row_left (record { kind = kind; obj = obj; rev = rev })
left Added obj rev = refl
left Modified obj rev = refl
left Deleted obj rev = refl

-- the change made of a transition does to a row what the transition does
row_changed : (resource : Resource) (key : List ℕ) (rev : ℕ) (row : Option RowData) (t : TransitionData) → t.rev ≡ rev → row_after resource key rev row (change_told resource t) ≡ row_told key row t
row_changed resource key rev row t number = elim (cases_Bool (bytes_eq t.obj.key key)) [
  | inl here ↦ rw (same_itself resource, here, ← number) (left t.kind t.obj t.rev)
  | inr other ↦ rw (same_itself resource, other) refl
]

pub rows_changed : (resource : Resource) (key : List ℕ) (rev : ℕ) (row : Option RowData) (told : List TransitionData) → AllByRecursion (λ t. t.rev ≡ rev) told
    → fold (row_after resource key rev) row (map (change_told resource) told) ≡ fold (row_told key) row told
rows_changed resource key rev row [] number = refl
rows_changed resource key rev row (t ∷ told) number =
    ap (λ (r : Option RowData). fold (row_after resource key rev) r (map (change_told resource) told)) (row_changed resource key rev row t number.0)
    ∙ rows_changed resource key rev (row_told key row t) told number.1

-- ---- streams

-- what each event is in what follows: of its key, and the row before it is the one that stands there
pub record IsEventOf (rows : Standing) (rev : ℕ) (event : EventData) : Type 0 where
  pub number : event.rev ≡ rev
  pub before : event.before ≡ rows event.key
  pub before_keyed : IfSome event.before (λ row. key_of row ≡ event.key)
  pub now_keyed : IfSome event.now (λ row. key_of row ≡ event.key)

module _ (test other : Obj → Bool) (resource : Resource) (rev : ℕ) (shown : Standing) where
  -- the event of the change that is made of a transition, where these rows stood before
  again : TransitionData → EventData
  again t = record { rev = rev; key = t.obj.key; before = shown t.obj.key; now = option_map (λ obj. record { obj = obj; rev = rev }) (option_map (λ (row : RowData). row.obj) (row_left t)) }

  -- what is told of an event by one test is told again by the other one as it is told of the event by both
  Echoes : Option TransitionData → EventData → Type 0
  Echoes None event = transition_by (both test other) event ≡ None
  Echoes (Some t) event = transition_by other (again t) ≡ transition_by (both test other) event

  echo : (key : List ℕ) (before now : Option RowData) → shown key ≡ shown_by test before → IfSome before (λ row. key_of row ≡ key) → IfSome now (λ row. key_of row ≡ key)
      → Echoes (transition_by test (record { rev = rev; key = key; before = before; now = now })) (record { rev = rev; key = key; before = before; now = now })
  unfolding Echoes again
  echo key None None at was is = refl
  echo key None (Some n) at was is =
      let none : shown n.obj.key ≡ None = ap shown is ∙ at in
      elim (cases_Bool (test n.obj)) [ inl now ↦ simp (now, none) refl | inr fails ↦ simp fails refl ]
  echo key (Some b) None at was is =
      let there : shown b.obj.key ≡ shown_by test (Some b) = ap shown was ∙ at in
      elim (cases_Bool (test b.obj)) [
        | inl before ↦ let stood : shown b.obj.key ≡ Some b = there ∙ rw before refl in simp (before, stood) refl
        | inr fails ↦ simp fails refl
      ]
  echo key (Some b) (Some n) at was is =
      let there : shown b.obj.key ≡ shown_by test (Some b) = ap shown was ∙ at in
      let here : shown n.obj.key ≡ shown_by test (Some b) = ap shown is ∙ at in
      elim (cases_Bool (test b.obj)) [
        | inl before ↦
            let stood : shown b.obj.key ≡ Some b = there ∙ rw before refl in
            let stands : shown n.obj.key ≡ Some b = here ∙ rw before refl in
            elim (cases_Bool (test n.obj)) [
              | inl now ↦ simp (before, now, stands) refl
              | inr fails ↦ elim (cases_Bool (other b.obj)) [ inl was_other ↦ simp (before, fails, stood, was_other) refl | inr wasnt ↦ simp (before, fails, stood, wasnt) refl ]
            ]
        | inr before ↦
            let stands : shown n.obj.key ≡ None = here ∙ rw before refl in
            elim (cases_Bool (test n.obj)) [
              | inl now ↦ elim (cases_Bool (other n.obj)) [ inl is_other ↦ simp (before, now, stands, is_other) refl | inr isnt ↦ simp (before, now, stands, isnt) refl ]
              | inr fails ↦ simp (before, fails) refl
            ]
      ]

  -- the transitions of changes made of transitions
  retold : List TransitionData → List TransitionData
  retold told = filter_map (transition_by other) (filter_map (event_of resource shown rev) (map (change_told resource) told))

  one_more : (o : Option TransitionData) (told : List TransitionData) (event : EventData) (rest : List TransitionData) → Echoes o event → retold told ≡ rest
      → retold (cons_option o told) ≡ cons_option (transition_by (both test other) event) rest
  unfolding Echoes again retold
  one_more None told event rest is same = rw is same
  one_more (Some t) told event rest is same =
      rw (same_itself resource) (ap (λ o. cons_option o (retold told)) is ∙ ap (cons_option (transition_by (both test other) event)) same)

  pub all_echo : (rows : Standing) → ((key : List ℕ) → shown key ≡ shown_by test (rows key)) → (events : List EventData) → AllByRecursion (IsEventOf rows rev) events
      → filter_map (transition_by other) (filter_map (event_of resource shown rev) (map (change_told resource) (filter_map (transition_by test) events)))
      ≡ filter_map (transition_by (both test other)) events
  unfolding retold
  all_echo rows stands [] are = refl
  all_echo rows stands (e ∷ events) are =
      one_more (transition_by test e) (filter_map (transition_by test) events) e (filter_map (transition_by (both test other)) events) at (all_echo rows stands events are.1)
    where
      at : Echoes (transition_by test e) e
      at = subst (λ n. Echoes (transition_by test (record { rev = n; key = e.key; before = e.before; now = e.now })) (record { rev = n; key = e.key; before = e.before; now = e.now })) (sym are.0.number)
          (echo e.key e.before e.now (stands e.key ∙ sym (ap (shown_by test) are.0.before)) are.0.before_keyed are.0.now_keyed)
