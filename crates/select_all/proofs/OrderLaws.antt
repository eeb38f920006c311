-- The order of events and of transitions, and what each is.
use Rattle.std.proofs.Common.{◌≡◌, ℕ, ◌+◌, ◌-◌, ◌<◌, ◌≤◌, Bool, true, List, [], ◌∷◌, ◌++◌, length, fold, filter_map, Option, Some, None, IfSome, All, bytes_eq, Less, Equal, Ordering, refl, sym, ap, ◌∙◌, subst, inl, inr, arith}
use Rattle.std.specs.Prelude.{option_map}
use Rattle.std.specs.List.{AllByRecursion, cons_option}
use Rattle.std.specs.List.Sorted.{IsStrictlySortedBy}
use Rattle.std.specs.Cmp.Lexicographic.{slice_cmp}
use Rattle.std.specs.Ordering.{nat_cmp, ordering_then}
use Rattle.std.proofs.lemmas.Bool.{cases_Bool, and_parts, eqb-true, eq-eqb, lt-ltb, le-ltb}
use Rattle.std.proofs.lemmas.List.Elements.{All-from_recursion, recursion_from_All, All-take, All-drop}
use Rattle.std.proofs.lemmas.Slice.Eq.{bytes_eq-Decides}
use Rattle.kube_meta.specs.declared.objects.Obj.{Obj}
use Rattle.kube_meta.specs.declared.resources.Resource.{Resource}
use Rattle.kube_meta.specs.declared.resources.Resource.TheVariants.{Pods}
use Rattle.kube_meta.specs.Resources.{place_of, same_resource}
use Rattle.kube_meta.specs.Rows.{RowData, key_of, row_with}
use Rattle.rev_log.specs.Changes.{ChangeData, RevisionData, HasItsKey, IsRevision, change_cmp}
use Rattle.rev_log.specs.Logs.{Log, IsLog, AreNumbered, between, upto}
use Rattle.rev_log.specs.States.{is_change_of, row_after, row_next, row_in_base, row_at}
use Rattle.select_all.specs.Streams.{EventData, TransitionData, Standing, IsEventWithin, event_cmp, transition_cmp, event_of, events_in, events_from, events, transition_by, transitions_by}
use Rattle.select_all.specs.EventLaws.{EventsAreInOrder}
use Rattle.select_all.specs.StreamLaws.{TransitionsAreInOrder, TransitionsAreSelected}
use Rattle.select_all.proofs.EventLaws.{all_append, all_weaker, are_within, numbers_from, numbered_in, numbered-between}

-- ---- lists

-- a fact of two values, where both are there
abbrev Both : {Y : Type 0} → (Y → Y → Type 0) → Option Y → Option Y → Type 0
Both R None other = Unit {0}
Both R (Some u) None = Unit {0}
Both R (Some u) (Some v) = R u v

module _ {X Y : Type 0} (h : X → Option Y) where
  all_cons : (Q : Y → Type 0) (o : Option Y) (ys : List Y) → IfSome o Q → AllByRecursion Q ys → AllByRecursion Q (cons_option o ys)
  all_cons Q None ys fact all = all
  all_cons Q (Some y) ys fact all = (fact, all)

  -- what each value is that a list is mapped to
  pub all_mapped : (P : X → Type 0) (Q : Y → Type 0) → ((x : X) → P x → IfSome (h x) Q) → (xs : List X) → AllByRecursion P xs → AllByRecursion Q (filter_map h xs)
  all_mapped P Q so [] all = tt
  all_mapped P Q so (x ∷ xs) all = all_cons Q (h x) (filter_map h xs) (so x all.0) (all_mapped P Q so xs all.1)

  module _ (c : X → X → Ordering) (d : Y → Y → Ordering) (P : X → Type 0) (keeps : (x y : X) → P x → P y → c x y ≡ Less → Both (λ u v. d u v ≡ Less) (h x) (h y)) where
    below_cons : (u : Y) (o : Option Y) (ys : List Y) → Both (λ u v. d u v ≡ Less) (Some u) o → AllByRecursion (λ v. d u v ≡ Less) ys → AllByRecursion (λ v. d u v ≡ Less) (cons_option o ys)
    below_cons u None ys fact all = all
    below_cons u (Some v) ys fact all = (fact, all)

    below : (x : X) (u : Y) (xs : List X) → P x → h x ≡ Some u → AllByRecursion P xs → AllByRecursion (λ y. c x y ≡ Less) xs → AllByRecursion (λ v. d u v ≡ Less) (filter_map h xs)
    below x u [] p is all above = tt
    below x u (y ∷ xs) p is all above =
        below_cons u (h y) (filter_map h xs) (subst (λ o. Both (λ a b. d a b ≡ Less) o (h y)) is (keeps x y p all.0 above.0)) (below x u xs p is all.1 above.1)

    sorted_cons : (o : Option Y) (ys : List Y) → IfSome o (λ u. AllByRecursion (λ v. d u v ≡ Less) ys) → IsStrictlySortedBy d ys → IsStrictlySortedBy d (cons_option o ys)
    unfolding IsStrictlySortedBy
    sorted_cons None ys above sorted = sorted
    sorted_cons (Some u) ys above sorted = (above, sorted)

    if_some : (o : Option Y) (Q : Y → Type 0) → ((u : Y) → o ≡ Some u → Q u) → IfSome o Q
    if_some None Q so = tt
    if_some (Some u) Q so = so u refl

    -- a mapping that keeps order maps a list in order to one
    pub sorted_mapped : (xs : List X) → AllByRecursion P xs → IsStrictlySortedBy c xs → IsStrictlySortedBy d (filter_map h xs)
    unfolding IsStrictlySortedBy
    sorted_mapped [] all sorted = tt
    sorted_mapped (x ∷ xs) all sorted =
        sorted_cons (h x) (filter_map h xs) (if_some (h x) (λ u. AllByRecursion (λ v. d u v ≡ Less) (filter_map h xs)) (λ u is. below x u xs all.0 is all.1 sorted.0))
        (sorted_mapped xs all.1 sorted.1)

-- lists in order, the first below the second
sorted_append : {X : Type 0} (c : X → X → Ordering) (xs ys : List X) → IsStrictlySortedBy c xs → IsStrictlySortedBy c ys → AllByRecursion (λ x. AllByRecursion (λ y. c x y ≡ Less) ys) xs → IsStrictlySortedBy c (xs ++ ys)
unfolding IsStrictlySortedBy
sorted_append c [] ys first second before = second
sorted_append c (x ∷ xs) ys first second before = (all_append (λ y. c x y ≡ Less) xs ys first.0 before.0, sorted_append c xs ys first.1 second before.1)

-- two facts of each element are one
all_both : {X : Type 0} (P Q R : X → Type 0) → ((x : X) → P x → Q x → R x) → (xs : List X) → AllByRecursion P xs → AllByRecursion Q xs → AllByRecursion R xs
all_both P Q R so [] all others = tt
all_both P Q R so (x ∷ xs) all others = (so x all.0 others.0, all_both P Q R so xs all.1 others.1)

-- ---- rows have the keys at which they stand

abbrev pub Keyed : Standing → Type 0
Keyed rows = (key : List ℕ) → IfSome (rows key) (λ row. key_of row ≡ key)

module _ (resource : Resource) (key : List ℕ) (rev : ℕ) where
  pub written_keyed : (new : Option Obj) (at : List ℕ) → IfSome new (λ obj. obj.key ≡ at) → at ≡ key → IfSome (option_map (λ obj. record { obj = obj; rev = rev }) new) (λ (row : RowData). key_of row ≡ key)
  written_keyed None at keyed same = tt
  written_keyed (Some obj) at keyed same = keyed ∙ same

  after_keyed : (row : Option RowData) (c : ChangeData) → HasItsKey c → IfSome row (λ r. key_of r ≡ key) → IfSome (row_after resource key rev row c) (λ r. key_of r ≡ key)
  after_keyed row c its keyed = elim (cases_Bool (is_change_of resource key c)) [
    | inl is ↦ rw is (written_keyed c.new c.key its ((bytes_eq-Decides c.key key).0 (and_parts (same_resource c.resource resource) (bytes_eq c.key key) is).1))
    | inr isnt ↦ rw isnt keyed
  ]

  changes_keyed : (row : Option RowData) (changes : List ChangeData) → AllByRecursion HasItsKey changes → IfSome row (λ r. key_of r ≡ key) → IfSome (fold (row_after resource key rev) row changes) (λ r. key_of r ≡ key)
  changes_keyed row [] its keyed = keyed
  changes_keyed row (c ∷ changes) its keyed = changes_keyed (row_after resource key rev row c) changes its.1 (after_keyed row c its.0 keyed)

pub next_keyed : (resource : Resource) (rows : Standing) (x : RevisionData) → IsRevision x → Keyed rows → Keyed (λ key. row_next resource key (rows key) x)
next_keyed resource rows x is keyed key = changes_keyed resource key x.rev (rows key) x.changes (recursion_from_All HasItsKey x.changes is.keyed) (keyed key)

rows_keyed : (rows : List RowData) (key : List ℕ) → IfSome (row_with rows key) (λ row. key_of row ≡ key)
rows_keyed [] key = tt
rows_keyed (row ∷ rows) key = elim (cases_Bool (bytes_eq key (key_of row))) [
  | inl here ↦ rw here (sym ((bytes_eq-Decides key (key_of row)).0 here))
  | inr past ↦ rw past (rows_keyed rows key)
]

base_keyed : (base : List RowData) (resource : Resource) → Keyed (row_in_base base resource)
base_keyed base Pods key = rows_keyed base key
base_keyed base resource key = tt

folded_keyed : (resource : Resource) (rows : Standing) (xs : List RevisionData) → AllByRecursion IsRevision xs → Keyed rows → Keyed (λ key. fold (row_next resource key) (rows key) xs)
folded_keyed resource rows [] all keyed = keyed
folded_keyed resource rows (x ∷ xs) all keyed = folded_keyed resource (λ key. row_next resource key (rows key) x) xs all.1 (next_keyed resource rows x all.0 keyed)

pub stands_keyed : (log : Log) (resource : Resource) (at : ℕ) → All IsRevision log.revisions → Keyed (row_at log resource at)
stands_keyed log resource at all = folded_keyed resource (row_in_base log.base resource) (upto log at) (recursion_from_All IsRevision (upto log at) (All-take IsRevision (at - log.first) log.revisions all)) (base_keyed log.base resource)

-- ---- what each event is

record IsKeyed (event : EventData) : Type 0 where
  before_keyed : IfSome event.before (λ row. key_of row ≡ event.key)
  now_keyed : IfSome event.now (λ row. key_of row ≡ event.key)
  now_numbered : IfSome event.now (λ row. row.rev ≡ event.rev)

pub numbered_now : (rev : ℕ) (new : Option Obj) → IfSome (option_map (λ obj. record { obj = obj; rev = rev }) new) (λ (row : RowData). row.rev ≡ rev)
numbered_now rev None = tt
numbered_now rev (Some obj) = refl

keyed_in : (resource : Resource) (rows : Standing) (x : RevisionData) → IsRevision x → Keyed rows → AllByRecursion IsKeyed (events_in resource rows x)
keyed_in resource rows x is keyed =
    all_mapped (event_of resource rows x.rev) HasItsKey IsKeyed one x.changes (recursion_from_All HasItsKey x.changes is.keyed)
  where
    one : (c : ChangeData) → HasItsKey c → IfSome (event_of resource rows x.rev c) IsKeyed
    one c its = elim (cases_Bool (same_resource c.resource resource)) [
      | inl here ↦ rw here (record { before_keyed = keyed c.key; now_keyed = written_keyed resource c.key x.rev c.new c.key its refl; now_numbered = numbered_now x.rev c.new })
      | inr elsewhere ↦ rw elsewhere tt
    ]

keyed_from : (resource : Resource) (rows : Standing) (xs : List RevisionData) → AllByRecursion IsRevision xs → Keyed rows → AllByRecursion IsKeyed (events_from resource rows xs)
keyed_from resource rows [] all keyed = tt
keyed_from resource rows (x ∷ xs) all keyed =
    let after : Standing = λ key. row_next resource key (rows key) x in
    all_append IsKeyed (events_in resource rows x) (events_from resource after xs) (keyed_in resource rows x all.0 keyed)
    (keyed_from resource after xs all.1 (next_keyed resource rows x all.0 keyed))

pub revisions_between : (log : Log) (a b : ℕ) → All IsRevision log.revisions → AllByRecursion IsRevision (between log a b)
revisions_between log a b all =
    recursion_from_All IsRevision (between log a b) (All-drop IsRevision (a - log.first) (upto log b) (All-take IsRevision (b - log.first) log.revisions all))

pub events_are : (log : Log) (resource : Resource) (a b : ℕ) → IsLog log → AllByRecursion (IsEventWithin a b) (events log resource a b)
events_are log resource a b is =
    all_both (λ event. (a < event.rev) × (event.rev ≤ b)) IsKeyed (IsEventWithin a b)
    (λ event within keyed. record { above = within.0; within = within.1; before_keyed = keyed.before_keyed; now_keyed = keyed.now_keyed; now_numbered = keyed.now_numbered })
    (events log resource a b) (are_within log resource is.numbered a b)
    (keyed_from resource (row_at log resource a) (between log a b) (revisions_between log a b is.revisions) (stands_keyed log resource a is.revisions))

-- ---- their order

pub same_number : (n : ℕ) → nat_cmp n n ≡ Equal
same_number n = rw (le-ltb n n (omega arith), eq-eqb n n refl) refl

lesser : (m n : ℕ) → m < n → nat_cmp m n ≡ Less
lesser m n lt = rw (lt-ltb m n lt) refl

sorted_in : (resource : Resource) (rows : Standing) (x : RevisionData) → IsRevision x → IsStrictlySortedBy event_cmp (events_in resource rows x)
sorted_in resource rows x is = sorted_mapped (event_of resource rows x.rev) change_cmp event_cmp (λ _. Unit {0}) keeps x.changes (any x.changes) is.rising
  where
    any : (changes : List ChangeData) → AllByRecursion (λ (c : ChangeData). Unit {0}) changes
    any [] = tt
    any (c ∷ changes) = (tt, any changes)

    keeps : (c d : ChangeData) → Unit {0} → Unit {0} → change_cmp c d ≡ Less → Both (λ u v. event_cmp u v ≡ Less) (event_of resource rows x.rev c) (event_of resource rows x.rev d)
    keeps c d _ _ less = elim (cases_Bool (same_resource c.resource resource)) [
      | inl here ↦ elim (cases_Bool (same_resource d.resource resource)) [
        | inl there ↦
            let places : place_of c.resource ≡ place_of d.resource = eqb-true (place_of c.resource) (place_of resource) here ∙ sym (eqb-true (place_of d.resource) (place_of resource) there) in
            let tie : nat_cmp (place_of c.resource) (place_of d.resource) ≡ Equal = ap (λ n. nat_cmp n (place_of d.resource)) places ∙ same_number (place_of d.resource) in
            let keys : slice_cmp nat_cmp c.key d.key ≡ Less = sym (ap (λ o. ordering_then o (slice_cmp nat_cmp c.key d.key)) tie) ∙ less in
            rw (here, there) (ap (λ o. ordering_then o (slice_cmp nat_cmp c.key d.key)) (same_number x.rev) ∙ keys)
        | inr elsewhere ↦ rw (here, elsewhere) tt
      ]
      | inr elsewhere ↦ rw elsewhere tt
    ]

sorted_from : (resource : Resource) (rows : Standing) (m : ℕ) (xs : List RevisionData) → AreNumbered m xs → AllByRecursion IsRevision xs → IsStrictlySortedBy event_cmp (events_from resource rows xs)
unfolding IsStrictlySortedBy
sorted_from resource rows m [] numbered all = tt
sorted_from resource rows m (x ∷ xs) numbered all =
    let after : Standing = λ key. row_next resource key (rows key) x in
    let rest : List EventData = events_from resource after xs in
    sorted_append event_cmp (events_in resource rows x) rest (sorted_in resource rows x all.0) (sorted_from resource after (m + 1) xs numbered.1 all.1)
    (all_weaker (λ u. u.rev ≡ x.rev) (λ u. AllByRecursion (λ v. event_cmp u v ≡ Less) rest)
    (λ u is. all_weaker (λ v. (m + 1 < v.rev) × (v.rev ≤ m + 1 + length xs)) (λ v. event_cmp u v ≡ Less)
    (λ v above. ap (λ o. ordering_then o (slice_cmp nat_cmp u.key v.key)) (lesser u.rev v.rev (omega (arith, is, numbered.0, above.0))))
    rest (numbers_from resource after (m + 1) xs numbered.1))
    (events_in resource rows x) (numbered_in resource rows x.rev x.changes))

pub events_sorted : (log : Log) (resource : Resource) (a b : ℕ) → IsLog log → IsStrictlySortedBy event_cmp (events log resource a b)
events_sorted log resource a b is =
    sorted_from resource (row_at log resource a) (log.first + (a - log.first)) (between log a b) (numbered-between log a b is.numbered) (revisions_between log a b is.revisions)

pub events_in_order : EventsAreInOrder
events_in_order log resource a b is = (events_sorted log resource a b is, All-from_recursion (IsEventWithin a b) (events log resource a b) (events_are log resource a b is))

-- ---- transitions

module _ (test : Obj → Bool) where
  told_selected : (rev : ℕ) (key : List ℕ) (before now : Option RowData) → IfSome (transition_by test (record { rev = rev; key = key; before = before; now = now })) (λ t. test t.obj ≡ true)
  told_selected rev key None None = tt
  told_selected rev key None (Some n) = elim (cases_Bool (test n.obj)) [ inl does ↦ rw does does | inr not ↦ rw not tt ]
  told_selected rev key (Some b) None = elim (cases_Bool (test b.obj)) [ inl does ↦ rw does does | inr not ↦ rw not tt ]
  told_selected rev key (Some b) (Some n) = elim (cases_Bool (test b.obj)) [
    | inl was ↦ elim (cases_Bool (test n.obj)) [ inl is ↦ rw (was, is) is | inr not ↦ rw (was, not) was ]
    | inr wasnt ↦ elim (cases_Bool (test n.obj)) [ inl is ↦ rw (wasnt, is) is | inr not ↦ rw (wasnt, not) tt ]
  ]

  -- a transition has the revision and the key of its event
  pub told_keyed : (rev : ℕ) (key : List ℕ) (before now : Option RowData) → IfSome before (λ row. key_of row ≡ key) → IfSome now (λ row. key_of row ≡ key)
      → IfSome (transition_by test (record { rev = rev; key = key; before = before; now = now })) (λ t. (t.rev ≡ rev) × (t.obj.key ≡ key))
  told_keyed rev key None None was is = tt
  told_keyed rev key None (Some n) was is = elim (cases_Bool (test n.obj)) [ inl does ↦ rw does (refl, is) | inr not ↦ rw not tt ]
  told_keyed rev key (Some b) None was is = elim (cases_Bool (test b.obj)) [ inl does ↦ rw does (refl, was) | inr not ↦ rw not tt ]
  told_keyed rev key (Some b) (Some n) was is = elim (cases_Bool (test b.obj)) [
    | inl before ↦ elim (cases_Bool (test n.obj)) [ inl now ↦ rw (before, now) (refl, is) | inr not ↦ rw (before, not) (refl, was) ]
    | inr before ↦ elim (cases_Bool (test n.obj)) [ inl now ↦ rw (before, now) (refl, is) | inr not ↦ rw (before, not) tt ]
  ]

  pub event_told : (a b : ℕ) (event : EventData) → IsEventWithin a b event → IfSome (transition_by test event) (λ t. (t.rev ≡ event.rev) × (t.obj.key ≡ event.key))
  event_told a b event is = told_keyed event.rev event.key event.before event.now is.before_keyed is.now_keyed

both_told : (rev other : ℕ) (key other_key : List ℕ) (o p : Option TransitionData) → IfSome o (λ t. (t.rev ≡ rev) × (t.obj.key ≡ key)) → IfSome p (λ t. (t.rev ≡ other) × (t.obj.key ≡ other_key))
    → ordering_then (nat_cmp rev other) (slice_cmp nat_cmp key other_key) ≡ Less → Both (λ u v. transition_cmp u v ≡ Less) o p
both_told rev other key other_key None p first second less = tt
both_told rev other key other_key (Some t) None first second less = tt
both_told rev other key other_key (Some t) (Some u) first second less = rw (first.0, first.1, second.0, second.1) less

if_some_weaker : {X : Type 0} (o : Option X) (P Q : X → Type 0) → ((x : X) → P x → Q x) → IfSome o P → IfSome o Q
if_some_weaker None P Q so fact = tt
if_some_weaker (Some x) P Q so fact = so x fact

pub transitions_in_order : TransitionsAreInOrder
transitions_in_order test log resource a b is = (
  sorted_mapped (transition_by test) event_cmp transition_cmp (IsEventWithin a b)
      (λ x y first second less. both_told x.rev y.rev x.key y.key (transition_by test x) (transition_by test y) (event_told test a b x first) (event_told test a b y second) less)
      (events log resource a b) (events_are log resource a b is) (events_sorted log resource a b is),
  All-from_recursion (λ t. (a < t.rev) × (t.rev ≤ b)) (transitions_by test log resource a b)
      (all_mapped (transition_by test) (IsEventWithin a b) (λ t. (a < t.rev) × (t.rev ≤ b))
      (λ event within. if_some_weaker (transition_by test event) (λ t. (t.rev ≡ event.rev) × (t.obj.key ≡ event.key)) (λ t. (a < t.rev) × (t.rev ≤ b))
      (λ t told. (omega (arith, told.0, within.above), omega (arith, told.0, within.within))) (event_told test a b event within))
      (events log resource a b) (events_are log resource a b is)),
)

pub are_selected : TransitionsAreSelected
are_selected test log resource a b =
    All-from_recursion (λ t. test t.obj ≡ true) (transitions_by test log resource a b)
    (all_mapped (transition_by test) (λ _. Unit {0}) (λ t. test t.obj ≡ true) (λ event _. told_selected test event.rev event.key event.before event.now) (events log resource a b) (any (events log resource a b)))
  where
    any : (xs : List EventData) → AllByRecursion (λ (e : EventData). Unit {0}) xs
    any [] = tt
    any (e ∷ xs) = (tt, any xs)
