-- What an intake keeps, and where it stands by a log.
use Rattle.std.proofs.Common.{◌≡◌, ◌⊎◌, ℕ, zero, suc, ◌+◌, Option, drop, ◌^◌, ◌<◌, ◌≤◌, Bool, true, false, not, eqb, leb, ltb, ◌-◌, List, [], ◌∷◌, ◌++◌, length, get_or, map, fold, filter, All, bytes_eq, is_some, refl, sym, ap, ◌∙◌, subst, inl, inr, arith}
use Rattle.std.specs.Prelude.{◌&&◌, ◌||◌, AllPairs}
use Rattle.std.specs.List.{AllByRecursion}
use Rattle.std.proofs.Math.Seq.{take-nil}
use Rattle.std.proofs.lemmas.Bool.{cases_eq, eq-eqb, ne_eqb, le-leb, lt-leb, lt-ltb, le-ltb, or_parts}
use Rattle.std.proofs.lemmas.List.{length-append, drop_at}
use Rattle.std.proofs.lemmas.List.Elements.{All-nil, All-push, All-map, recursion_from_All}
use Rattle.std.proofs.lemmas.List.Folds.{list_any-append}
use Rattle.std.proofs.lemmas.List.Kept.{AllPairs-cons}
use Rattle.kube_meta.specs.declared.resources.Resource.{Resource}
use Rattle.kube_meta.specs.declared.resources.Resource.TheVariants.{Pods, ConfigMaps, Deployments}
use Rattle.kube_meta.specs.Rows.{RowData, row_with}
use Rattle.rev_log.specs.Changes.{ChangeData, RevisionData, same_object, AreOfDistinctObjects}
use Rattle.rev_front.specs.Passes.{quiets}
use Rattle.rev_log.specs.Logs.{Log, end_of, grown, between, quiet_at}
use Rattle.rev_log.proofs.GrowthLemmas.{upto-end, row_at-grown, row_at-between}
use Rattle.rev_log.specs.States.{row_next, row_at, row_in_base}
use Rattle.select_all.specs.declared.selection.Kind.TheVariants.{Added, Deleted}
use Rattle.select_all.specs.Listings.{row_told}
use Rattle.select_all.specs.Streams.{TransitionData, Standing}
use Rattle.mirror_law.specs.Mirrors.{change_told, IsRevisionTold, opened_log}
use Rattle.mirror_law.specs.Taking.{row_before}
use Rattle.mirror_law.proofs.ListLemmas.{none_kept, all_kept}
use Rattle.mirror_log.specs.Intakes.{most_kept, same_kind, fits_kind, IntakeData, has, is_of, tells, IsIntake, IsAtEnd}
use Rattle.mirror_log.specs.Faults.{last_of, is_full_at, is_repeated}
use Rattle.mirror_log.proofs.KindLemmas.{or_false, apart, stood_before, stood_after, AllFit}
use Rattle.mirror_log.proofs.RowLemmas.{committed}

-- ---- tests

pub when_known : (known told answer : Bool) → known ≡ true → (known && not told) ≡ answer → not told ≡ answer
when_known true told answer is same = same
when_known false told answer is same = cc

pub when_unknown : (known told answer : Bool) → known ≡ false → (known && not told) ≡ answer → known ≡ answer
when_unknown true told answer is same = cc
when_unknown false told answer is same = same

-- ---- the lines of one revision

module _ (to rev : ℕ) (kept : List TransitionData) (next : All (λ t. t.rev ≡ to + 1) kept) where
  numbers : AllByRecursion (λ t. t.rev ≡ to + 1) kept
  numbers = recursion_from_All (λ t. t.rev ≡ to + 1) kept next

  each : (P Q : TransitionData → Type 0) → ((t : TransitionData) → P t → Q t) → (lines : List TransitionData) → AllByRecursion P lines → AllByRecursion Q lines
  each P Q so [] all = tt
  each P Q so (t ∷ lines) all = (so t all.0, each P Q so lines all.1)

  here : rev ≡ to + 1 → filter (λ t. eqb t.rev rev) kept ≡ kept
  here same = all_kept (λ t. eqb t.rev rev) kept (each (λ t. t.rev ≡ to + 1) (λ t. eqb t.rev rev ≡ true) (λ t number. eq-eqb t.rev rev (omega (arith, number, same))) kept numbers)

  elsewhere : (rev ≡ to + 1 → ⊥) → filter (λ t. eqb t.rev rev) kept ≡ []
  elsewhere other = none_kept (λ t. eqb t.rev rev) kept (each (λ t. t.rev ≡ to + 1) (λ t. eqb t.rev rev ≡ false) (λ t number. ne_eqb t.rev rev (λ same. other (sym same ∙ number))) kept numbers)

  pub full_at : 64 ≤ length kept → eqb rev (to + 1) ≡ is_full_at kept rev
  full_at many = elim (cases_eq rev (to + 1)) [
    | inl same ↦ eq-eqb rev (to + 1) same ∙ sym (ap (λ (l : List TransitionData). leb 64 (length l)) (here same) ∙ le-leb 64 (length kept) many)
    | inr other ↦ ne_eqb rev (to + 1) other ∙ sym (ap (λ (l : List TransitionData). leb 64 (length l)) (elsewhere other))
  ]

  pub not_full_at : length kept < 64 → false ≡ is_full_at kept rev
  not_full_at few = elim (cases_eq rev (to + 1)) [
    | inl same ↦ sym (ap (λ (l : List TransitionData). leb 64 (length l)) (here same) ∙ lt-leb 64 (length kept) few)
    | inr other ↦ sym (ap (λ (l : List TransitionData). leb 64 (length l)) (elsewhere other))
  ]

pub last_bound : (to : ℕ) (kept : List TransitionData) → to ≤ 2 ^ 62 → All (λ t. t.rev ≡ to + 1) kept → last_of to kept ≤ 2 ^ 62 + 1
last_bound to [] within next = omega (arith, within)
last_bound to (t ∷ kept) within next = omega (arith, within, (recursion_from_All (λ u. u.rev ≡ to + 1) (t ∷ kept) next).0)

-- ---- what stands

-- where nothing is kept, and the keys are those that stand
pub anew : {resource : Resource} (new : IntakeData) (log : Log) → new.to ≡ end_of log → new.kept ≡ [] → ((key : List ℕ) → has new.keys key ≡ is_some (row_at log resource (end_of log) key)) → IsAtEnd resource new log
anew {resource} new log end none keys = record {
  end = end;
  keys = λ key. keys key ∙ sym (or_false (is_some (row_at log resource (end_of log) key)))
      ∙ ap (λ (l : List TransitionData). is_some (row_at log resource (end_of log) key) || tells Added l key) (sym none);
  fits = subst (All (λ t. fits_kind t.kind (is_some (row_at log resource (end_of log) t.obj.key)) ≡ true)) (sym none)
      (All-nil (λ t. fits_kind t.kind (is_some (row_at log resource (end_of log) t.obj.key)) ≡ true));
}

module _ {resource : Resource} (i : IntakeData) (is : IsIntake i) (log : Log) (at : IsAtEnd resource i log) where
  rows : Standing
  rows = row_at log resource (end_of log)

  fit : AllFit (row_at log resource (end_of log)) i.kept
  fit = recursion_from_All (λ t. fits_kind t.kind (is_some (row_at log resource (end_of log) t.obj.key)) ≡ true) i.kept at.fits

  pub stands : (key : List ℕ) → (has i.keys key && not (tells Added i.kept key)) ≡ is_some (row_at log resource (end_of log) key)
  stands key = ap (λ b. b && not (tells Added i.kept key)) (at.keys key) ∙ stood_before (row_at log resource (end_of log)) key i.kept fit

  pub will_stand : (key : List ℕ) → (has i.keys key && not (tells Deleted i.kept key)) ≡ is_some (fold (row_told key) (row_at log resource (end_of log) key) i.kept)
  will_stand key = ap (λ b. b && not (tells Deleted i.kept key)) (at.keys key) ∙ stood_after (row_at log resource (end_of log)) key i.kept (apart i.kept is.distinct) fit

  pub stood_later : (key : List ℕ) (rev : ℕ) → i.to + 1 < rev → is_some (fold (row_told key) (row_at log resource (end_of log) key) i.kept) ≡ is_some (row_before log resource i.kept rev key)
  stood_later key rev later =
      ap (λ (l : List TransitionData). is_some (fold (row_told key) (row_at log resource (end_of log) key) l))
      (sym (all_kept (λ t. ltb t.rev rev) i.kept (each i.to rev i.kept is.next (λ t. t.rev ≡ i.to + 1) (λ t. ltb t.rev rev ≡ true) (λ t number. lt-ltb t.rev rev (omega (arith, number, later))) i.kept (numbers i.to rev i.kept is.next))))

  pub stood_here : (key : List ℕ) (rev : ℕ) → rev ≤ i.to + 1 → is_some (row_at log resource (end_of log) key) ≡ is_some (row_before log resource i.kept rev key)
  stood_here key rev within =
      ap (λ (l : List TransitionData). is_some (fold (row_told key) (row_at log resource (end_of log) key) l))
      (sym (none_kept (λ t. ltb t.rev rev) i.kept (each i.to rev i.kept is.next (λ t. t.rev ≡ i.to + 1) (λ t. ltb t.rev rev ≡ false) (λ t number. le-ltb t.rev rev (omega (arith, number, within))) i.kept (numbers i.to rev i.kept is.next))))

  -- ---- what a call leaves

  -- a log that has the revision of the lines
  pub commits : (new : IntakeData) (revision : RevisionData) → IsRevisionTold resource (i.to + 1) i.kept revision → new.to ≡ i.to + 1 → new.kept ≡ []
      → ((key : List ℕ) → has new.keys key ≡ (has i.keys key && not (tells Deleted i.kept key))) → IsAtEnd resource new (grown log (revision ∷ []))
  commits new revision told to none keys =
      let end : end_of (grown log (revision ∷ [])) ≡ end_of log + 1 = omega (arith, length-append log.revisions (revision ∷ [])) in
      record {
        end = omega (arith, to, at.end, end);
        keys = λ key. keys key ∙ ap (λ b. b && not (tells Deleted i.kept key)) (at.keys key)
            ∙ sym (committed log key i.kept revision fit (subst (λ (n : ℕ). IsRevisionTold resource (n + 1) i.kept revision) at.end told))
            ∙ ap (λ (n : ℕ). is_some (row_at (grown log (revision ∷ [])) resource n key)) (sym end)
            ∙ sym (or_false (is_some (row_at (grown log (revision ∷ [])) resource (end_of (grown log (revision ∷ []))) key)))
            ∙ ap (λ (l : List TransitionData). is_some (row_at (grown log (revision ∷ [])) resource (end_of (grown log (revision ∷ []))) key) || tells Added l key) (sym none);
        fits = subst (All (λ t. fits_kind t.kind (is_some (row_at (grown log (revision ∷ [])) resource (end_of (grown log (revision ∷ []))) t.obj.key)) ≡ true)) (sym none)
            (All-nil (λ t. fits_kind t.kind (is_some (row_at (grown log (revision ∷ [])) resource (end_of (grown log (revision ∷ []))) t.obj.key)) ≡ true));
      }

  pub forgets : (new : IntakeData) → new.to ≡ i.to → new.kept ≡ [] → ((key : List ℕ) → has new.keys key ≡ (has i.keys key && not (tells Added i.kept key))) → IsAtEnd resource new log
  forgets new to none keys = anew new log (to ∙ at.end) none (λ key. keys key ∙ stands key)

  or_assoc : (a b c : Bool) → ((a || b) || c) ≡ (a || (b || c))
  or_assoc true b c = refl
  or_assoc false b c = refl

  pub keeps : (new : IntakeData) (t : TransitionData) → new.to ≡ i.to → new.kept ≡ i.kept ++ t ∷ [] → fits_kind t.kind (is_some (row_at log resource (end_of log) t.obj.key)) ≡ true
      → ((key : List ℕ) → has new.keys key ≡ (has i.keys key || (same_kind t.kind Added && bytes_eq t.obj.key key))) → IsAtEnd resource new log
  keeps new t to kept fits keys = record {
    end = to ∙ at.end;
    keys = λ key. keys key
        ∙ ap (λ b. b || (same_kind t.kind Added && is_of key t)) (at.keys key)
        ∙ or_assoc (is_some (row_at log resource (end_of log) key)) (tells Added i.kept key) (same_kind t.kind Added && is_of key t)
        ∙ ap (λ b. is_some (row_at log resource (end_of log) key) || (tells Added i.kept key || b)) (sym (or_false (same_kind t.kind Added && is_of key t)))
        ∙ ap (λ b. is_some (row_at log resource (end_of log) key) || b) (sym (list_any-append (λ u. same_kind u.kind Added && is_of key u) i.kept (t ∷ [])))
        ∙ ap (λ (l : List TransitionData). is_some (row_at log resource (end_of log) key) || tells Added l key) (sym kept);
    fits = subst (All (λ u. fits_kind u.kind (is_some (row_at log resource (end_of log) u.obj.key)) ≡ true)) (sym kept)
        (All-push (λ u. fits_kind u.kind (is_some (row_at log resource (end_of log) u.obj.key)) ≡ true) i.kept t at.fits fits);
  }

-- ---- quiet revisions

quiet_rows : (resource : Resource) (key : List ℕ) (row : Option RowData) (from n : ℕ) → fold (row_next resource key) row (quiets quiet_at from n) ≡ row
quiet_rows resource key row from zero = refl
quiet_rows resource key row from (suc n) = quiet_rows resource key row (from + 1) n

quiet_length : (from n : ℕ) → length (quiets quiet_at from n) ≡ n
quiet_length from zero = refl
quiet_length from (suc n) = ap suc (quiet_length (from + 1) n)

-- what stands behind them is what stood before
pub quiet_row : (resource : Resource) (log : Log) (key : List ℕ) (n : ℕ) → row_at (grown log (quiets quiet_at (end_of log) n)) resource (end_of log + n) key ≡ row_at log resource (end_of log) key
quiet_row resource log key n =
    let more : List RevisionData = quiets quiet_at (end_of log) n in
    let whole : end_of (grown log more) ≡ end_of log + n = omega (arith, length-append log.revisions more, quiet_length (end_of log) n) in
    let behind : between (grown log more) (end_of log) (end_of log + n) ≡ more =
    ap (drop (end_of log - log.first)) (upto-end (grown log more) (end_of log + n) (omega (arith, whole))) ∙ drop_at log.revisions more (end_of log - log.first) (omega arith) in
    row_at-between (grown log more) resource key (end_of log) (end_of log + n) (omega arith)
    ∙ ap (fold (row_next resource key) (row_at (grown log more) resource (end_of log) key)) behind
    ∙ quiet_rows resource key (row_at (grown log more) resource (end_of log) key) (end_of log) n
    ∙ row_at-grown log more resource (end_of log) key (omega arith)

-- so an intake that stands before them stands behind them
pub passed_over : {resource : Resource} (old new : IntakeData) (log : Log) (n : ℕ) → new.to ≡ old.to + n → old.kept ≡ [] → new.kept ≡ [] → ((key : List ℕ) → has new.keys key ≡ has old.keys key) →
    IsAtEnd resource old log → IsAtEnd resource new (grown log (quiets quiet_at (end_of log) n))
passed_over {resource} old new log n to none still keys at =
    let more : List RevisionData = quiets quiet_at (end_of log) n in
    let end : end_of (grown log more) ≡ end_of log + n = omega (arith, length-append log.revisions more, quiet_length (end_of log) n) in
    anew new (grown log more) (omega (arith, to, at.end, end)) still
    (λ key. keys key ∙ at.keys key
    ∙ ap (λ (l : List TransitionData). is_some (row_at log resource (end_of log) key) || tells Added l key) none
    ∙ or_false (is_some (row_at log resource (end_of log) key))
    ∙ ap (λ (r : Option RowData). is_some r) (sym (quiet_row resource log key n))
    ∙ ap (λ (m : ℕ). is_some (row_at (grown log more) resource m key)) (sym end))

-- base rows are of pods, or there are none
based : (resource : Resource) (listed : List RowData) (key : List ℕ) → (resource ≡ Pods) ⊎ (listed ≡ []) → row_in_base listed resource key ≡ row_with listed key
based resource listed key (inl pods) = rw pods refl
based Pods listed key (inr none) = refl
based ConfigMaps listed key (inr none) = rw none refl
based Deployments listed key (inr none) = rw none refl

-- an intake that begins
pub begins : (resource : Resource) (new : IntakeData) (base : ℕ) (listed : List RowData) → (resource ≡ Pods) ⊎ (listed ≡ []) → new.to ≡ base → new.kept ≡ []
    → ((key : List ℕ) → has new.keys key ≡ is_some (row_with listed key)) → IsAtEnd resource new (opened_log base listed)
begins resource new base listed alone to none keys = record {
  end = omega (arith, to);
  keys = λ key. keys key
      ∙ ap (λ (r : Option RowData). is_some r) (sym (based resource listed key alone))
      ∙ ap (λ (l : List RevisionData). is_some (fold (row_next resource key) (row_in_base listed resource key) l)) (sym (take-nil (base + 0 - base)))
      ∙ sym (or_false (is_some (row_at (opened_log base listed) resource (base + 0) key)))
      ∙ ap (λ (l : List TransitionData). is_some (row_at (opened_log base listed) resource (base + 0) key) || tells Added l key) (sym none);
  fits = subst (All (λ t. fits_kind t.kind (is_some (row_at (opened_log base listed) resource (base + 0) t.obj.key)) ≡ true)) (sym none)
      (All-nil (λ t. fits_kind t.kind (is_some (row_at (opened_log base listed) resource (base + 0) t.obj.key)) ≡ true));
}

-- ---- one line more

unlike : (rev : ℕ) (key : List ℕ) (kept : List TransitionData) → AllByRecursion (λ t. t.rev ≡ rev) kept → is_repeated kept rev key ≡ false → AllByRecursion (λ t. is_of key t ≡ false) kept
unlike rev key [] numbered none = tt
unlike rev key (t ∷ kept) numbered none =
    let both = or_parts (eqb t.rev rev && is_of key t) (is_repeated kept rev key) none in
    let first : is_of key t ≡ false = sym (ap (λ b. b && is_of key t) (eq-eqb t.rev rev numbered.0)) ∙ both.0 in
    (first, unlike rev key kept numbered.1 both.1)

pushed : (kept : List TransitionData) (t : TransitionData) → AllPairs (λ u v. is_of v.obj.key u ≡ false) kept → AllByRecursion (λ u. is_of t.obj.key u ≡ false) kept → AllPairs (λ u v. is_of v.obj.key u ≡ false) (kept ++ t ∷ [])
pushed [] t pairs apart_from = λ i j d less inside. absurd (omega (arith, less, inside))
pushed (u ∷ kept) t pairs apart_from =
    AllPairs-cons (λ u v. is_of v.obj.key u ≡ false) u (kept ++ t ∷ [])
    (All-push (λ v. is_of v.obj.key u ≡ false) kept t (λ k d inside. pairs zero (suc k) d (omega arith) (omega (arith, inside))) apart_from.0)
    (pushed kept t (λ i j d less inside. pairs (suc i) (suc j) d (omega (arith, less)) (omega (arith, inside))) apart_from.1)

pub one_more : (old new : IntakeData) (t : TransitionData) → IsIntake old → t.rev ≡ old.to + 1 → length old.kept < most_kept → is_repeated old.kept t.rev t.obj.key ≡ false
    → new.most_gap ≡ old.most_gap → new.to ≡ old.to → new.kept ≡ old.kept ++ t ∷ [] → IsIntake new
one_more old new t is number few new_key gap to kept =
    let numbers_now : AllByRecursion (λ u. u.rev ≡ t.rev) old.kept = each old.to t.rev old.kept is.next (λ u. u.rev ≡ old.to + 1) (λ u. u.rev ≡ t.rev) (λ u n. n ∙ sym number) old.kept (numbers old.to t.rev old.kept is.next) in
    record {
      ends = omega (arith, to, is.ends);
      bounded = omega (arith, gap, is.bounded);
      next = subst (All (λ u. u.rev ≡ new.to + 1)) (sym kept) (subst (λ (n : ℕ). All (λ u. u.rev ≡ n + 1) (old.kept ++ t ∷ [])) (sym to) (All-push (λ u. u.rev ≡ old.to + 1) old.kept t is.next number));
      few = omega (arith, ap (λ (l : List TransitionData). length l) kept, length-append old.kept (t ∷ []), few);
      distinct = subst (AllPairs (λ u v. is_of v.obj.key u ≡ false)) (sym kept) (pushed old.kept t is.distinct (unlike t.rev t.obj.key old.kept numbers_now new_key));
    }

-- ---- their changes

-- of one resource, changes of distinct keys are of distinct objects
apart_told : (resource : Resource) (t u : TransitionData) → is_of u.obj.key t ≡ false → same_object (change_told resource t) (change_told resource u) ≡ false
apart_told Pods t u apart = apart
apart_told ConfigMaps t u apart = apart
apart_told Deployments t u apart = apart

pub distinct_changes : (resource : Resource) (kept : List TransitionData) → AllPairs (λ t u. is_of u.obj.key t ≡ false) kept → AreOfDistinctObjects (map (change_told resource) kept)
distinct_changes resource [] pairs = λ i j d less inside. absurd (omega (arith, inside))
distinct_changes resource (t ∷ kept) pairs =
    AllPairs-cons (λ a b. same_object a b ≡ false) (change_told resource t) (map (change_told resource) kept)
    (All-map (λ c. same_object (change_told resource t) c ≡ false) (change_told resource) kept (λ k d inside. apart_told resource t (get_or kept k d) (pairs zero (suc k) d (omega arith) (omega (arith, inside)))))
    (distinct_changes resource kept (λ i j d less inside. pairs (suc i) (suc j) d (omega (arith, less)) (omega (arith, inside))))

pub numbered_changes : (resource : Resource) (to : ℕ) (kept : List TransitionData) → All (λ t. t.rev ≡ to + 1) kept → All (λ c. c.rev ≡ to + 1) (map (change_told resource) kept)
numbered_changes resource to kept next = All-map (λ (c : ChangeData). c.rev ≡ to + 1) (change_told resource) kept next

-- an intake with the end and the lines of another one
pub as_before : (old new : IntakeData) → IsIntake old → new.most_gap ≡ old.most_gap → new.to ≡ old.to → new.kept ≡ old.kept → IsIntake new
as_before old new is gap to kept = record {
  ends = omega (arith, to, is.ends);
  bounded = omega (arith, gap, is.bounded);
  next = subst (All (λ t. t.rev ≡ new.to + 1)) (sym kept) (subst (λ (n : ℕ). All (λ t. t.rev ≡ n + 1) old.kept) (sym to) is.next);
  few = omega (arith, ap (λ (l : List TransitionData). length l) kept, is.few);
  distinct = subst (AllPairs (λ t u. is_of u.obj.key t ≡ false)) (sym kept) is.distinct;
}
