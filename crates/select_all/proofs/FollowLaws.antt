-- A listing with the transitions after it applied key by key.
use Rattle.std.proofs.Common.{◌≡◌, ℕ, Bool, true, false, List, [], ◌∷◌, fold, filter_map, Option, Some, None, IfSome, bytes_eq, Less, Equal, refl, sym, ap, ◌∙◌, inl, inr}
use Rattle.std.specs.Prelude.{◌&&◌, option_map}
use Rattle.std.specs.List.{AllByRecursion, cons_option}
use Rattle.std.specs.List.Sorted.{IsStrictlySortedBy}
use Rattle.std.specs.Cmp.Lexicographic.{slice_cmp}
use Rattle.std.specs.Ordering.{nat_cmp, ordering_then}
use Rattle.std.proofs.lemmas.Bool.{cases_Bool, and_parts, eqb-true, false_from_ne_true}
use Rattle.std.proofs.lemmas.List.Elements.{recursion_from_All, filter_map-append}
use Rattle.std.proofs.lemmas.List.Sums.{fold-append}
use Rattle.std.proofs.lemmas.Slice.Eq.{bytes_eq-Decides}
use Rattle.kube_meta.specs.declared.objects.Obj.{Obj}
use Rattle.kube_meta.specs.declared.resources.Resource.{Resource}
use Rattle.kube_meta.specs.Resources.{place_of, same_resource}
use Rattle.kube_meta.specs.Rows.{RowData, key_of}
use Rattle.rev_log.specs.Changes.{ChangeData, RevisionData, HasItsKey, IsRevision, change_cmp}
use Rattle.rev_log.specs.Logs.{between}
use Rattle.rev_log.specs.States.{is_change_of, row_after, row_next, row_at}
use Rattle.rev_log.proofs.GrowthLemmas.{row_at-between}
use Rattle.select_all.specs.Streams.{EventData, TransitionData, Standing, event_of, events_in, events_from, transition_by, transitions_by}
use Rattle.select_all.specs.Listings.{shown_by, row_told}
use Rattle.select_all.specs.StreamLaws.{ListingsFollow}
use Rattle.select_all.proofs.ListingLaws.{listing_by_key, before_self}
use Rattle.select_all.proofs.OrderLaws.{Keyed, next_keyed, stands_keyed, revisions_between, written_keyed, told_keyed, same_number, numbered_now}

differ : (a b : List ℕ) → (a ≡ b → ⊥) → bytes_eq a b ≡ false
differ a b apart = false_from_ne_true (bytes_eq a b) (λ same. apart ((bytes_eq-Decides a b).0 same))

at_its_number : (row : RowData) (rev : ℕ) → row.rev ≡ rev → ◌≡◌ {A = Option RowData} (Some (record { obj = row.obj; rev = rev })) (Some row)
at_its_number row rev numbered = λ i. Some (record { obj = row.obj; rev = sym numbered i })

split_first : (f : Option RowData → TransitionData → Option RowData) (row : Option RowData) (o : Option TransitionData) (ts : List TransitionData) → fold f row (cons_option o ts) ≡ fold f (fold f row (cons_option o [])) ts
split_first f row None ts = refl
split_first f row (Some t) ts = refl

if_some_weaker : {X : Type 0} (o : Option X) (P Q : X → Type 0) → ((x : X) → P x → Q x) → IfSome o P → IfSome o Q
if_some_weaker None P Q so fact = tt
if_some_weaker (Some x) P Q so fact = so x fact

module _ (test : Obj → Bool) (key : List ℕ) where
  -- a transition of another key leaves the row
  leaves : (row : Option RowData) (o : Option TransitionData) (ts : List TransitionData) → IfSome o (λ t. bytes_eq t.obj.key key ≡ false) → fold (row_told key) row (cons_option o ts) ≡ fold (row_told key) row ts
  leaves row None ts other = refl
  leaves row (Some t) ts other = ap (λ (r : Option RowData). fold (row_told key) r ts) (rw other refl)

  -- the transition of an event of the key takes the shown row before it to that after it
  takes : (rev : ℕ) (at : List ℕ) (before now : Option RowData) → at ≡ key → IfSome before (λ row. key_of row ≡ at) → IfSome now (λ row. key_of row ≡ at) → IfSome now (λ row. row.rev ≡ rev)
      → fold (row_told key) (shown_by test before) (cons_option (transition_by test (record { rev = rev; key = at; before = before; now = now })) []) ≡ shown_by test now
  takes rev at None None same was is numbered = refl
  takes rev at None (Some n) same was is numbered =
      let here : bytes_eq n.obj.key key ≡ true = (bytes_eq-Decides n.obj.key key).1 (is ∙ same) in
      elim (cases_Bool (test n.obj)) [ inl now ↦ rw (now, here) (at_its_number n rev numbered) | inr fails ↦ rw fails refl ]
  takes rev at (Some b) None same was is numbered =
      let here : bytes_eq b.obj.key key ≡ true = (bytes_eq-Decides b.obj.key key).1 (was ∙ same) in
      elim (cases_Bool (test b.obj)) [ inl before ↦ rw (before, here) refl | inr fails ↦ rw fails refl ]
  takes rev at (Some b) (Some n) same was is numbered =
      let here : bytes_eq n.obj.key key ≡ true = (bytes_eq-Decides n.obj.key key).1 (is ∙ same) in
      let there : bytes_eq b.obj.key key ≡ true = (bytes_eq-Decides b.obj.key key).1 (was ∙ same) in
      elim (cases_Bool (test b.obj)) [
        | inl before ↦ elim (cases_Bool (test n.obj)) [ inl now ↦ rw (before, now, here) (at_its_number n rev numbered) | inr fails ↦ rw (before, fails, there) refl ]
        | inr before ↦ elim (cases_Bool (test n.obj)) [ inl now ↦ rw (before, now, here) (at_its_number n rev numbered) | inr fails ↦ rw (before, fails) refl ]
      ]

  module _ (resource : Resource) (rows : Standing) (keyed : Keyed rows) (rev : ℕ) where
    event_at : ChangeData → EventData
    event_at c = record { rev = rev; key = c.key; before = rows c.key; now = option_map (λ obj. record { obj = obj; rev = rev }) c.new }

    told : List ChangeData → List TransitionData
    told changes = filter_map (transition_by test) (filter_map (event_of resource rows rev) changes)

    elsewhere : (c : ChangeData) → HasItsKey c → bytes_eq c.key key ≡ false → IfSome (transition_by test (event_at c)) (λ t. bytes_eq t.obj.key key ≡ false)
    unfolding event_at
    elsewhere c its other =
        if_some_weaker (transition_by test (event_at c)) (λ t. (t.rev ≡ rev) × (t.obj.key ≡ c.key)) (λ t. bytes_eq t.obj.key key ≡ false)
        (λ t is. ap (λ k. bytes_eq k key) is.1 ∙ other)
        (told_keyed test rev c.key (rows c.key) (option_map (λ obj. record { obj = obj; rev = rev }) c.new) (keyed c.key) (written_keyed resource c.key rev c.new c.key its refl))

    -- changes of other objects leave the row
    leaves_row : (row : Option RowData) (changes : List ChangeData) → AllByRecursion (λ c. is_change_of resource key c ≡ false) changes → fold (row_after resource key rev) row changes ≡ row
    leaves_row row [] other = refl
    leaves_row row (c ∷ changes) other = rw other.0 (leaves_row row changes other.1)

    passes_by : (row : Option RowData) (c : ChangeData) (changes : List ChangeData) (here : Bool) → same_resource c.resource resource ≡ here → HasItsKey c → is_change_of resource key c ≡ false
        → fold (row_told key) row (told changes) ≡ row → fold (row_told key) row (told (c ∷ changes)) ≡ row
    unfolding told event_at
    passes_by row c changes false h its other rest = rw h rest
    passes_by row c changes true h its other rest =
        let apart : bytes_eq c.key key ≡ false = sym (ap (λ b. b && bytes_eq c.key key) h) ∙ other in
        rw h (leaves row (transition_by test (event_at c)) (told changes) (elsewhere c its apart) ∙ rest)

    leaves_shown : (row : Option RowData) (changes : List ChangeData) → AllByRecursion HasItsKey changes → AllByRecursion (λ c. is_change_of resource key c ≡ false) changes → fold (row_told key) row (told changes) ≡ row
    unfolding told
    leaves_shown row [] its other = refl
    leaves_shown row (c ∷ changes) its other = passes_by row c changes (same_resource c.resource resource) refl its.0 other.0 (leaves_shown row changes its.1 other.1)

    -- behind the change of an object stand changes of others
    others : (c : ChangeData) (changes : List ChangeData) → same_resource c.resource resource ≡ true → c.key ≡ key → AllByRecursion (λ d. change_cmp c d ≡ Less) changes → AllByRecursion (λ d. is_change_of resource key d ≡ false) changes
    others c [] here same above = tt
    others c (d ∷ changes) here same above = (false_from_ne_true (is_change_of resource key d) apart, others c changes here same above.1)
      where
        apart : is_change_of resource key d ≡ true → ⊥
        apart is =
            let both = and_parts (same_resource d.resource resource) (bytes_eq d.key key) is in
            let places : place_of c.resource ≡ place_of d.resource = eqb-true (place_of c.resource) (place_of resource) here ∙ sym (eqb-true (place_of d.resource) (place_of resource) both.0) in
            let tie : nat_cmp (place_of c.resource) (place_of d.resource) ≡ Equal = ap (λ n. nat_cmp n (place_of d.resource)) places ∙ same_number (place_of d.resource) in
            let less : slice_cmp nat_cmp c.key d.key ≡ Less = sym (ap (λ o. ordering_then o (slice_cmp nat_cmp c.key d.key)) tie) ∙ above.0 in
            before_self c.key d.key less (same ∙ sym ((bytes_eq-Decides d.key key).0 both.1))

    -- the transitions of a revision take the shown row before it to that after it
    Follows : List ChangeData → Type 0
    Follows changes = fold (row_told key) (shown_by test (rows key)) (told changes) ≡ shown_by test (fold (row_after resource key rev) (rows key) changes)

    follows_one : (c : ChangeData) (changes : List ChangeData) (here same : Bool) → same_resource c.resource resource ≡ here → bytes_eq c.key key ≡ same
        → HasItsKey c → AllByRecursion HasItsKey changes → AllByRecursion (λ d. change_cmp c d ≡ Less) changes → Follows changes → Follows (c ∷ changes)
    unfolding Follows told event_at
    follows_one c changes false same h e its all above rest = rw h rest
    follows_one c changes true false h e its all above rest = rw (h, e) (leaves (shown_by test (rows key)) (transition_by test (event_at c)) (told changes) (elsewhere c its e) ∙ rest)
    follows_one c changes true true h e its all above rest =
        let at : c.key ≡ key = (bytes_eq-Decides c.key key).0 e in
        let now : Option RowData = option_map (λ obj. record { obj = obj; rev = rev }) c.new in
        let other = others c changes h at above in
        let step : fold (row_told key) (shown_by test (rows key)) (cons_option (transition_by test (event_at c)) []) ≡ shown_by test now =
        ap (λ (k : List ℕ). fold (row_told key) (shown_by test (rows k)) (cons_option (transition_by test (event_at c)) [])) (sym at)
        ∙ takes rev c.key (rows c.key) now at (keyed c.key) (written_keyed resource c.key rev c.new c.key its refl) (numbered_now rev c.new) in
        rw (h, e) (
        split_first (row_told key) (shown_by test (rows key)) (transition_by test (event_at c)) (told changes)
        ∙ ap (λ (r : Option RowData). fold (row_told key) r (told changes)) step
        ∙ leaves_shown (shown_by test now) changes all other
        ∙ sym (ap (shown_by test) (leaves_row now changes other))
        )

    follows_in : (changes : List ChangeData) → AllByRecursion HasItsKey changes → IsStrictlySortedBy change_cmp changes → Follows changes
    unfolding Follows told IsStrictlySortedBy
    follows_in [] its sorted = refl
    follows_in (c ∷ changes) its sorted = follows_one c changes (same_resource c.resource resource) (bytes_eq c.key key) refl refl its.0 its.1 sorted.0 (follows_in changes its.1 sorted.1)

  follows_revision : (resource : Resource) (rows : Standing) (x : RevisionData) → IsRevision x → Keyed rows → fold (row_told key) (shown_by test (rows key)) (filter_map (transition_by test) (events_in resource rows x)) ≡ shown_by test (row_next resource key (rows key) x)
  unfolding Follows told
  follows_revision resource rows x is keyed = follows_in resource rows keyed x.rev x.changes (recursion_from_All HasItsKey x.changes is.keyed) is.rising

  follows_from : (resource : Resource) (rows : Standing) (xs : List RevisionData) → AllByRecursion IsRevision xs → Keyed rows
      → fold (row_told key) (shown_by test (rows key)) (filter_map (transition_by test) (events_from resource rows xs)) ≡ shown_by test (fold (row_next resource key) (rows key) xs)
  follows_from resource rows [] all keyed = refl
  follows_from resource rows (x ∷ xs) all keyed =
      let after : Standing = λ other. row_next resource other (rows other) x in
      let first : List TransitionData = filter_map (transition_by test) (events_in resource rows x) in
      let rest : List TransitionData = filter_map (transition_by test) (events_from resource after xs) in
      ap (fold (row_told key) (shown_by test (rows key))) (filter_map-append (transition_by test) (events_in resource rows x) (events_from resource after xs))
      ∙ fold-append (row_told key) (shown_by test (rows key)) first rest
      ∙ ap (λ (r : Option RowData). fold (row_told key) r rest) (follows_revision resource rows x all.0 keyed)
      ∙ follows_from resource after xs all.1 (next_keyed resource rows x all.0 keyed)

pub listings_are_followed : ListingsFollow
listings_are_followed test log resource a b rows later is le first second key =
    let before = listing_by_key test log resource a rows first in
    let after = listing_by_key test log resource b later second in
    after.exact key
    ∙ ap (shown_by test) (row_at-between log resource key a b le)
    ∙ sym (follows_from test key resource (row_at log resource a) (between log a b) (revisions_between log a b is.revisions) (stands_keyed log resource a is.revisions))
    ∙ ap (λ (r : Option RowData). fold (row_told key) r (transitions_by test log resource a b)) (sym (before.exact key))
