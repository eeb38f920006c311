-- Events: how many there are, those above a revision, and what they say of what stood before them.
use Rattle.std.proofs.Common.{◌≡◌, ℕ, suc, ◌+◌, ◌-◌, ◌<◌, ◌≤◌, Bool, true, false, ltb, cond, ◌⊎◌, zero, List, [], ◌∷◌, ◌++◌, length, take, drop, fold, filter_map, Option, Some, None, bytes_eq, refl, sym, ap, ◌∙◌, subst, inl, inr, arith}
use Rattle.std.specs.Prelude.{count_by, sum_by, filter, find, option_map}
use Rattle.std.specs.Option.{option_map_or, option_or}
use Rattle.std.specs.List.{AllByRecursion, cons_option}
use Rattle.std.proofs.Math.Seq.{take-nil, drop-nil}
use Rattle.std.proofs.lemmas.Bool.{cases_Bool, cases_lt, lt-ltb, le-ltb}
use Rattle.std.proofs.lemmas.List.{length-append, length-take, length-drop}
use Rattle.std.proofs.lemmas.List.Elements.{filter-append}
use Rattle.std.proofs.lemmas.List.Folds.{find-append}
use Rattle.std.proofs.lemmas.List.Sums.{sum_by-cons}
use Rattle.std.proofs.lemmas.Slice.Eq.{bytes_eq-Decides}
use Rattle.kube_meta.specs.declared.resources.Resource.{Resource}
use Rattle.kube_meta.specs.Resources.{same_resource}
use Rattle.kube_meta.specs.Rows.{RowData}
use Rattle.rev_log.specs.Changes.{ChangeData, RevisionData}
use Rattle.rev_log.specs.Logs.{Log, AreNumbered, between}
use Rattle.rev_log.specs.States.{row_after, row_next, row_at}
use Rattle.rev_log.proofs.GrowthLemmas.{row_at-between}
use Rattle.select_all.specs.Streams.{EventData, Standing, event_of, events_in, events_from, events}
use Rattle.select_all.specs.Floors.{changes_in}
use Rattle.select_all.specs.EventLaws.{EventsAreCounted, EventsAbove, EventsUndo, row_undone}
use Rattle.select_all.proofs.StreamLaws.{events_join, no_events}

-- ---- their number

module _ (resource : Resource) (rows : Standing) (rev : ℕ) where
  pub count_in : (changes : List ChangeData) → length (filter_map (event_of resource rows rev) changes) ≡ count_by (λ change. same_resource change.resource resource) changes
  count_in [] = refl
  count_in (c ∷ changes) =
      let rest : List EventData = filter_map (event_of resource rows rev) changes in
      let event : EventData = record { rev = rev; key = c.key; before = rows c.key; now = option_map (λ obj. record { obj = obj; rev = rev }) c.new } in
      let told : (b : Bool) → length (cons_option (cond b (Some event) None) rest) ≡ cond b 1 0 + length rest = one event rest in
      told (same_resource c.resource resource)
      ∙ ap (λ n. cond (same_resource c.resource resource) 1 0 + n) (count_in changes)
      ∙ sym (sum_by-cons (λ change. cond (same_resource change.resource resource) 1 0) c changes)
    where
      one : (event : EventData) (rest : List EventData) (b : Bool) → length (cons_option (cond b (Some event) None) rest) ≡ cond b 1 0 + length rest
      one event rest true = omega arith
      one event rest false = omega arith

count_from : (resource : Resource) (rows : Standing) (xs : List RevisionData) → length (events_from resource rows xs) ≡ sum_by (changes_in resource) xs
count_from resource rows [] = refl
count_from resource rows (x ∷ xs) =
    let after : Standing = λ key. row_next resource key (rows key) x in
    rw (length-append, sum_by-cons) (omega (arith, count_in resource rows x.rev x.changes, count_from resource after xs))

pub are_counted : EventsAreCounted
are_counted log resource a b = count_from resource (row_at log resource a) (between log a b)

-- ---- their revisions

-- what each element of two lists is, each element of both is
pub all_append : {X : Type 0} (P : X → Type 0) (xs ys : List X) → AllByRecursion P xs → AllByRecursion P ys → AllByRecursion P (xs ++ ys)
all_append P [] ys first second = second
all_append P (x ∷ xs) ys first second = (first.0, all_append P xs ys first.1 second)

pub all_weaker : {X : Type 0} (P Q : X → Type 0) → ((x : X) → P x → Q x) → (xs : List X) → AllByRecursion P xs → AllByRecursion Q xs
all_weaker P Q so [] all = tt
all_weaker P Q so (x ∷ xs) all = (so x all.0, all_weaker P Q so xs all.1)

pub numbered_in : (resource : Resource) (rows : Standing) (rev : ℕ) (changes : List ChangeData) → AllByRecursion (λ event. event.rev ≡ rev) (filter_map (event_of resource rows rev) changes)
numbered_in resource rows rev [] = tt
numbered_in resource rows rev (c ∷ changes) = elim (cases_Bool (same_resource c.resource resource)) [
  | inl here ↦ rw here (refl, numbered_in resource rows rev changes)
  | inr elsewhere ↦ rw elsewhere (numbered_in resource rows rev changes)
]

-- revisions that are numbered from a number on have events above it
pub numbers_from : (resource : Resource) (rows : Standing) (m : ℕ) (xs : List RevisionData) → AreNumbered m xs → AllByRecursion (λ event. (m < event.rev) × (event.rev ≤ m + length xs)) (events_from resource rows xs)
numbers_from resource rows m [] numbered = tt
numbers_from resource rows m (x ∷ xs) numbered =
    let after : Standing = λ key. row_next resource key (rows key) x in
    all_append (λ event. (m < event.rev) × (event.rev ≤ m + length (x ∷ xs))) (events_in resource rows x) (events_from resource after xs)
    (all_weaker (λ event. event.rev ≡ x.rev) (λ event. (m < event.rev) × (event.rev ≤ m + length (x ∷ xs))) (λ event is. (omega (arith, is, numbered.0), omega (arith, is, numbered.0))) (events_in resource rows x) (numbered_in resource rows x.rev x.changes))
    (all_weaker (λ event. (m + 1 < event.rev) × (event.rev ≤ m + 1 + length xs)) (λ event. (m < event.rev) × (event.rev ≤ m + length (x ∷ xs))) (λ event is. (omega (arith, is.0), omega (arith, is.1))) (events_from resource after xs) (numbers_from resource after (m + 1) xs numbered.1))

-- a part of numbered revisions is numbered
numbered-take : (first n : ℕ) (xs : List RevisionData) → AreNumbered first xs → AreNumbered first (take n xs)
numbered-take first n [] numbered = rw take-nil tt
numbered-take first zero (x ∷ xs) numbered = tt
numbered-take first (suc n) (x ∷ xs) numbered = (numbered.0, numbered-take (first + 1) n xs numbered.1)

numbered-drop : (first n : ℕ) (xs : List RevisionData) → AreNumbered first xs → AreNumbered (first + n) (drop n xs)
numbered-drop first n [] numbered = rw drop-nil tt
numbered-drop first zero (x ∷ xs) numbered = subst (λ m. AreNumbered m (x ∷ xs)) (omega arith) numbered
numbered-drop first (suc n) (x ∷ xs) numbered = subst (λ m. AreNumbered m (drop n xs)) (omega arith) (numbered-drop (first + 1) n xs numbered.1)

pub numbered-between : (log : Log) (a b : ℕ) → AreNumbered log.first log.revisions → AreNumbered (log.first + (a - log.first)) (between log a b)
numbered-between log a b numbered = numbered-drop log.first (a - log.first) (take (b - log.first) log.revisions) (numbered-take log.first (b - log.first) log.revisions numbered)

-- ---- those above a revision

all_kept : (b : ℕ) (xs : List EventData) → AllByRecursion (λ event. b < event.rev) xs → filter (λ event. ltb b event.rev) xs ≡ xs
all_kept b [] all = refl
all_kept b (x ∷ xs) all = rw (lt-ltb b x.rev all.0) (ap (λ rest. x ∷ rest) (all_kept b xs all.1))

none_kept : (b : ℕ) (xs : List EventData) → AllByRecursion (λ event. event.rev ≤ b) xs → filter (λ event. ltb b event.rev) xs ≡ []
none_kept b [] all = refl
none_kept b (x ∷ xs) all = rw (le-ltb b x.rev all.0) (none_kept b xs all.1)

module _ (log : Log) (resource : Resource) (numbered : AreNumbered log.first log.revisions) where
  -- the events above a and up to b are of revisions above a and up to b
  pub are_within : (a b : ℕ) → AllByRecursion (λ event. (a < event.rev) × (event.rev ≤ b)) (events log resource a b)
  are_within a b =
      let first : ℕ = log.first + (a - log.first) in
      let xs : List RevisionData = between log a b in
      let short : length xs ≡ length (take (b - log.first) log.revisions) - (a - log.first) = length-drop (a - log.first) (take (b - log.first) log.revisions) in
      let shorter = length-take (b - log.first) log.revisions in
      all_weaker (λ event. (first < event.rev) × (event.rev ≤ first + length xs)) (λ event. (a < event.rev) × (event.rev ≤ b))
      (λ event is. (omega (arith, is.0), omega (arith, is.0, is.1, short, shorter)))
      (events log resource a b) (numbers_from resource (row_at log resource a) first xs (numbered-between log a b numbered))

  below : (a b c : ℕ) → b ≤ c → filter (λ event. ltb c event.rev) (events log resource a b) ≡ []
  below a b c le = none_kept c (events log resource a b) (all_weaker (λ event. (a < event.rev) × (event.rev ≤ b)) (λ event. event.rev ≤ c) (λ event is. omega (arith, is.1, le)) (events log resource a b) (are_within a b))

  above : (b c : ℕ) → filter (λ event. ltb b event.rev) (events log resource b c) ≡ events log resource b c
  above b c = all_kept b (events log resource b c) (all_weaker (λ event. (b < event.rev) × (event.rev ≤ c)) (λ event. b < event.rev) (λ event is. is.0) (events log resource b c) (are_within b c))

pub are_above : EventsAbove
are_above log resource a b c numbered le = elim (cases_lt c b) [
  | inl past ↦ below log resource numbered a c b (omega (arith, past)) ∙ sym (no_events log resource b c (omega (arith, past)))
  | inr within ↦
      ap (filter (λ event. ltb b event.rev)) (sym (events_join log resource a b c le within))
      ∙ filter-append (λ event. ltb b event.rev) (events log resource a b) (events log resource b c)
      ∙ ap (λ first. first ++ filter (λ event. ltb b event.rev) (events log resource b c)) (below log resource numbered a b b (omega arith))
      ∙ above log resource numbered b c
]

-- ---- what stood before them

-- of a key, the changes of a revision have no event and leave the row, or the first event says what stood
module _ (resource : Resource) (rows : Standing) (key : List ℕ) (rev : ℕ) where
  Told : List ChangeData → Type 0
  Told changes =
      let first : Option EventData = find (λ event. bytes_eq event.key key) (filter_map (event_of resource rows rev) changes) in
      ((first ≡ None) × ((row : Option RowData) → fold (row_after resource key rev) row changes ≡ row))
      ⊎ ((event : EventData) × (first ≡ Some event) × (event.before ≡ rows key))

  first_by : (c : ChangeData) (changes : List ChangeData) (here same : Bool) → same_resource c.resource resource ≡ here → bytes_eq c.key key ≡ same → Told changes → Told (c ∷ changes)
  unfolding Told
  first_by c changes false same h e rest = rw h rest
  first_by c changes true false h e rest = rw (h, e) rest
  first_by c changes true true h e rest =
      let event : EventData = record { rev = rev; key = c.key; before = rows c.key; now = option_map (λ obj. record { obj = obj; rev = rev }) c.new } in
      rw (h, e) (inr (event, refl, ap rows ((bytes_eq-Decides c.key key).0 e)))

  first_of : (changes : List ChangeData) → Told changes
  unfolding Told
  first_of [] = inl (refl, λ row. refl)
  first_of (c ∷ changes) = first_by c changes (same_resource c.resource resource) (bytes_eq c.key key) refl refl (first_of changes)

undo_from : (resource : Resource) (rows : Standing) (key : List ℕ) (xs : List RevisionData) → rows key ≡ row_undone (events_from resource rows xs) key (fold (row_next resource key) (rows key) xs)
unfolding Told
undo_from resource rows key [] = refl
undo_from resource rows key (x ∷ xs) =
    let after : Standing = λ other. row_next resource other (rows other) x in
    let test : EventData → Bool = λ event. bytes_eq event.key key in
    let this : List EventData = events_in resource rows x in
    let rest : List EventData = events_from resource after xs in
    let last : Option RowData = fold (row_next resource key) (after key) xs in
    let whole : find test (this ++ rest) ≡ option_or (find test this) (find test rest) = find-append test this rest in
    elim (first_of resource rows key x.rev x.changes) [
      | inl none ↦
          let found : find test (this ++ rest) ≡ find test rest = whole ∙ ap (λ o. option_or o (find test rest)) none.0 in
          sym (none.1 (rows key)) ∙ undo_from resource after key xs ∙ sym (ap (λ o. option_map_or (λ event. event.before) o last) found)
      | inr first ↦
          let found : find test (this ++ rest) ≡ Some first.0 = whole ∙ ap (λ o. option_or o (find test rest)) first.1 in
          sym first.2 ∙ sym (ap (λ o. option_map_or (λ event. event.before) o last) found)
    ]

pub undo : EventsUndo
undo log resource a b key le =
    undo_from resource (row_at log resource a) key (between log a b)
    ∙ ap (row_undone (events log resource a b) key) (sym (row_at-between log resource key a b le))
