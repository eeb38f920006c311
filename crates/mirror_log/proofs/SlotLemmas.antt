-- Slots go on holding what is added to them.
use Rattle.std.proofs.Common.{◌≡◌, ℕ, zero, suc, ◌+◌, ◌-◌, ◌*◌, ◌<◌, ◌≤◌, Bool, true, false, cond, ltb, eqb, List, [], ◌∷◌, ◌++◌, length, take, get_or, map, All, Option, Some, None, refl, sym, ap, ◌∙◌, subst, inl, inr, append_assoc, append-nil, length-append, arith}
use Rattle.std.specs.Prelude.{IsSome}
use Rattle.std.specs.List.{AllByRecursion}
use Rattle.std.specs.Ordering.{is_eq, nat_cmp}
use Rattle.std.proofs.lemmas.Bool.{cases_Bool, lt-ltb, le-ltb, eq-eqb, ne_eqb, eqb-true}
use Rattle.std.proofs.lemmas.List.{take_more}
use Rattle.std.proofs.lemmas.List.Elements.{filter-append, All-push, All-from_recursion}
use Rattle.std.proofs.lemmas.List.Kept.{AllPairs-filter}
use Rattle.kube_meta.specs.Rows.{RowData, key_of}
use Rattle.kube_meta.specs.declared.resources.Resource.{Resource}
use Rattle.rev_log.specs.Changes.{ChangeData, RevisionData, same_object, AreOfDistinctObjects}
use Rattle.rev_log.proofs.MapLemmas.{take_all}
use Rattle.mirror_log.specs.Bridges.{written_at}
use Rattle.mirror_log.specs.Slots.{SlotsData, of_rev, slot_of, slot_at, changes_in, Hold, Adds, puts, put_of, removal_of, IsRemoval, Remove, IsOfSlot, AreMadeOf}
use Rattle.mirror_log.proofs.CountLemmas.{many, count_puts, one_of}

pub is_eq-nat_cmp : (a b : ℕ) → is_eq (nat_cmp a b) ≡ eqb a b
is_eq-nat_cmp a b = grind (arith)

pub none_held : Hold [] []
none_held = record { has = λ rev. refl; some = λ rev there. absurd (none_there there) }
  where
    none_there : IsSome {T = List ChangeData} None → ⊥
    none_there e = cc

-- ---- a change is added

-- what was taken out and put back with the change
put_own : (old between new : SlotsData) (c : ChangeData) (before changes : List ChangeData) → before ≡ slot_at old c.rev → changes ≡ before ++ c ∷ []
    → ((q : ℕ) → slot_of between q ≡ cond (is_eq (nat_cmp c.rev q)) None (slot_of old q))
    → ((q : ℕ) → slot_of new q ≡ cond (is_eq (nat_cmp c.rev q)) (Some changes) (slot_of between q)) → Adds old c new
put_own old between new c before changes was is taken puts rev = elim (cases_Bool (eqb c.rev rev)) [
  | inl same ↦
      rw same (puts rev ∙ ap (λ (b : Bool). cond b (Some changes) (slot_of between rev)) (is_eq-nat_cmp c.rev rev ∙ same)
      ∙ ap (λ (l : List ChangeData). Some l) (is ∙ ap (λ (l : List ChangeData). l ++ c ∷ []) was))
  | inr other ↦
      rw other (puts rev ∙ ap (λ (b : Bool). cond b (Some changes) (slot_of between rev)) (is_eq-nat_cmp c.rev rev ∙ other)
      ∙ taken rev ∙ ap (λ (b : Bool). cond b None (slot_of old rev)) (is_eq-nat_cmp c.rev rev ∙ other))
]

pub put_again : (old between new : SlotsData) (c : ChangeData) (n : ℕ) (before changes : List ChangeData) → n ≡ c.rev → before ≡ slot_at old n → changes ≡ before ++ c ∷ []
    → ((q : ℕ) → slot_of between q ≡ cond (is_eq (nat_cmp n q)) None (slot_of old q))
    → ((q : ℕ) → slot_of new q ≡ cond (is_eq (nat_cmp n q)) (Some changes) (slot_of between q)) → Adds old c new
put_again old between new c n before changes number was is taken puts =
    put_own old between new c before changes (was ∙ ap (slot_at old) number) is
    (subst (λ (m : ℕ). (q : ℕ) → slot_of between q ≡ cond (is_eq (nat_cmp m q)) None (slot_of old q)) number taken)
    (subst (λ (m : ℕ). (q : ℕ) → slot_of new q ≡ cond (is_eq (nat_cmp m q)) (Some changes) (slot_of between q)) number puts)

at_own : (rev : ℕ) (given : List ChangeData) (c : ChangeData) → eqb c.rev rev ≡ true → of_rev rev (given ++ c ∷ []) ≡ of_rev rev given ++ c ∷ []
at_own rev given c own = filter-append (λ x. eqb x.rev rev) given (c ∷ []) ∙ rw own refl

at_other : (rev : ℕ) (given : List ChangeData) (c : ChangeData) → eqb c.rev rev ≡ false → of_rev rev (given ++ c ∷ []) ≡ of_rev rev given
at_other rev given c other = filter-append (λ x. eqb x.rev rev) given (c ∷ []) ∙ rw other (append-nil (of_rev rev given))

module _ (old new : SlotsData) (given : List ChangeData) (c : ChangeData) (hold : Hold old given) (adds : Adds old c new) where
  now_own : (rev : ℕ) → eqb c.rev rev ≡ true → slot_of new rev ≡ Some (slot_at old c.rev ++ c ∷ [])
  now_own rev same = rw same at (adds rev)

  now_other : (rev : ℕ) → eqb c.rev rev ≡ false → slot_of new rev ≡ slot_of old rev
  now_other rev other = rw other at (adds rev)

  pub added : Hold new (given ++ c ∷ [])
  added = record { has = has; some = some }
    where
      has : (rev : ℕ) → slot_at new rev ≡ of_rev rev (given ++ c ∷ [])
      has rev = elim (cases_Bool (eqb c.rev rev)) [
        | inl same ↦
            ap changes_in (now_own rev same) ∙ ap (λ (l : List ChangeData). l ++ c ∷ []) (ap (slot_at old) (eqb-true c.rev rev same) ∙ hold.has rev)
            ∙ sym (at_own rev given c same)
        | inr other ↦ ap changes_in (now_other rev other) ∙ hold.has rev ∙ sym (at_other rev given c other)
      ]

      some : (rev : ℕ) → IsSome (slot_of new rev) → 0 < length (slot_at new rev)
      some rev there = elim (cases_Bool (eqb c.rev rev)) [
        | inl same ↦ omega (arith, ap (λ (s : Option (List ChangeData)). length (changes_in s)) (now_own rev same), length-append (slot_at old c.rev) (c ∷ []))
        | inr other ↦
            subst (λ (s : Option (List ChangeData)). 0 < length (changes_in s)) (sym (now_other rev other))
            (hold.some rev (subst (λ (s : Option (List ChangeData)). IsSome s) (now_other rev other) there))
      ]

-- ---- rows are put

pub put_young : (resource : Resource) (from : ℕ) (rows : List RowData) (k : ℕ) (row : RowData) → k < length rows → row ≡ get_or rows k row → from < row.rev → puts resource from (take (k + 1) rows) ≡ puts resource from (take k rows) ++ put_of resource row ∷ []
put_young resource from rows k row inside is young =
    let next : take (k + 1) rows ≡ take k rows ++ row ∷ [] = take_more rows k row inside ∙ ap (λ r. take k rows ++ r ∷ []) (sym is) in
    let pass : ltb from row.rev ≡ true = lt-ltb from row.rev young in
    ap (puts resource from) next ∙ push (take k rows) pass
  where
    push : (xs : List RowData) → ltb from row.rev ≡ true → puts resource from (xs ++ row ∷ []) ≡ puts resource from xs ++ put_of resource row ∷ []
    push [] pass = rw pass refl
    push (x ∷ xs) pass = elim (cases_Bool (ltb from x.rev)) [
      | inl y ↦ rw y (ap (λ rest. put_of resource x ∷ rest) (push xs pass))
      | inr o ↦ rw o (push xs pass)
    ]

pub put_old : (resource : Resource) (from : ℕ) (rows : List RowData) (k : ℕ) (row : RowData) → k < length rows → row ≡ get_or rows k row → row.rev ≤ from → puts resource from (take (k + 1) rows) ≡ puts resource from (take k rows)
put_old resource from rows k row inside is old =
    let next : take (k + 1) rows ≡ take k rows ++ row ∷ [] = take_more rows k row inside ∙ ap (λ r. take k rows ++ r ∷ []) (sym is) in
    let fail : ltb from row.rev ≡ false = le-ltb from row.rev old in
    ap (puts resource from) next ∙ push (take k rows) fail
  where
    push : (xs : List RowData) → ltb from row.rev ≡ false → puts resource from (xs ++ row ∷ []) ≡ puts resource from xs
    push [] fail = rw fail refl
    push (x ∷ xs) fail = elim (cases_Bool (ltb from x.rev)) [
      | inl y ↦ rw y (ap (λ rest. put_of resource x ∷ rest) (push xs fail))
      | inr o ↦ rw o (push xs fail)
    ]

-- the next row is put
pub put_step : (resource : Resource) (from : ℕ) (rows : List RowData) (k : ℕ) (row : RowData) (c : ChangeData) (old new : SlotsData) → k < length rows → row ≡ get_or rows k row → from < row.rev → c ≡ put_of resource row
    → Hold old (puts resource from (take k rows)) → Adds old c new → Hold new (puts resource from (take (k + 1) rows))
put_step resource from rows k row c old new inside is young change hold adds =
    subst (Hold new) (sym (put_young resource from rows k row inside is young)) (added old new (puts resource from (take k rows)) (put_of resource row) hold (subst (λ x. Adds old x new) change adds))

-- where its revision has no room, that has too many
pub put_full : (resource : Resource) (from : ℕ) (rows : List RowData) (k : ℕ) (row : RowData) (c : ChangeData) (old : SlotsData) → k < length rows → row ≡ get_or rows k row → from < row.rev → c ≡ put_of resource row
    → Hold old (puts resource from (take k rows)) → 64 ≤ length (slot_at old c.rev) → (rev : ℕ) × (from < rev) × (64 < length (written_at rev rows))
put_full resource from rows k row c old inside is young change hold full =
    let number : c.rev ≡ row.rev = ap (λ (x : ChangeData). x.rev) change in
    let holds : slot_at old c.rev ≡ of_rev row.rev (puts resource from (take k rows)) = ap (slot_at old) number ∙ hold.has row.rev in
    let so_far : length (of_rev row.rev (puts resource from (take k rows))) ≡ length (written_at row.rev (take k rows)) = count_puts resource from row.rev (take k rows) young in
    let one : length (written_at row.rev (take k rows)) < length (written_at row.rev rows) = one_of (λ r. eqb r.rev row.rev) rows k row inside is (eq-eqb row.rev row.rev refl) in
    (row.rev, young, omega (arith, ap length holds, so_far, one, full))

-- ---- rows are removed

map-push : (f : RowData → List ℕ) (xs : List RowData) (x : RowData) → map f (xs ++ x ∷ []) ≡ map f xs ++ f x ∷ []
map-push f [] x = refl
map-push f (y ∷ xs) x = ap (λ rest. f y ∷ rest) (map-push f xs x)

keys-push : (xs : List ChangeData) (x : ChangeData) → map (λ c. c.key) (xs ++ x ∷ []) ≡ map (λ c. c.key) xs ++ x.key ∷ []
keys-push [] x = refl
keys-push (y ∷ xs) x = ap (λ rest. y.key ∷ rest) (keys-push xs x)

pub one_removed : {resource : Resource} (from to : ℕ) (changes : List ChangeData) (rows : List RowData) (k : ℕ) (row : RowData) (old new : SlotsData) (rev : ℕ)
    → k < length rows → row ≡ get_or rows k row → Remove resource from to changes (take k rows) old → Adds old (removal_of resource row rev) new → from < rev → rev ≤ to → Remove resource from to changes (take (k + 1) rows) new
one_removed {resource} from to changes rows k row old new rev inside is before adds above within =
    let next : take (k + 1) rows ≡ take k rows ++ row ∷ [] = take_more rows k row inside ∙ ap (λ r. take k rows ++ r ∷ []) (sym is) in
    record {
      removed = before.removed ++ removal_of resource row rev ∷ [];
      hold = subst (Hold new) (append_assoc changes before.removed (removal_of resource row rev ∷ [])) (added old new (changes ++ before.removed) (removal_of resource row rev) before.hold adds);
      keys = keys-push before.removed (removal_of resource row rev) ∙ ap (λ (l : List (List ℕ)). l ++ key_of row ∷ []) before.keys ∙ sym (map-push key_of (take k rows) row) ∙ ap (map key_of) (sym next);
      removals = All-push (IsRemoval resource from to) before.removed (removal_of resource row rev) before.removals (record { alone = refl; none = refl; above = above; within = within });
    }

-- the revisions before the one that is added to have no room still
pub still_full : (from at : ℕ) (old new : SlotsData) (c : ChangeData) → Adds old c new → c.rev ≡ at → ((rev : ℕ) → from < rev → rev < at → 64 ≤ length (slot_at old rev))
    → (rev : ℕ) → from < rev → rev < at → 64 ≤ length (slot_at new rev)
still_full from at old new c adds place full rev above before =
    let other : eqb c.rev rev ≡ false = ne_eqb c.rev rev (λ e. absurd (omega (arith, e, place, before))) in
    let same : slot_of new rev ≡ slot_of old rev = rw other at (adds rev) in
    subst (λ (s : Option (List ChangeData)). 64 ≤ length (changes_in s)) (sym same) (full rev above before)

length-map : (xs : List RowData) → length (map key_of xs) ≡ length xs
length-map [] = refl
length-map (x ∷ xs) = ap suc (length-map xs)

length-keys : (xs : List ChangeData) → length (map (λ c. c.key) xs) ≡ length xs
length-keys [] = refl
length-keys (x ∷ xs) = ap suc (length-keys xs)

pub count_removed : (removed : List ChangeData) (rows : List RowData) → map (λ c. c.key) removed ≡ map key_of rows → length removed ≡ length rows
count_removed removed rows keys = sym (length-keys removed) ∙ ap length keys ∙ length-map rows

length-take : (rows : List RowData) (k : ℕ) → k ≤ length rows → length (take k rows) ≡ k
length-take rows zero inside = take_none rows
  where
    take_none : (xs : List RowData) → length (take 0 xs) ≡ 0
    take_none [] = refl
    take_none (x ∷ xs) = refl
length-take [] (suc k) inside = absurd (omega (arith, inside))
length-take (x ∷ rows) (suc k) inside = ap suc (length-take rows k (omega (arith, inside)))

-- where no revision between has room there is none for all removals
pub no_room : {resource : Resource} (from to : ℕ) (changes : List ChangeData) (rows : List RowData) (k : ℕ) (slots : SlotsData) → from ≤ to → k < length rows → Remove resource from to changes (take k rows) slots
    → ((rev : ℕ) → from < rev → rev ≤ to → 64 ≤ length (slot_at slots rev)) → 64 * (to - from) < length changes + length rows
no_room {resource} from to changes rows k slots onward inside before full =
    let all : 64 * (to - from) ≤ length (changes ++ before.removed) =
    many from (to - from) (changes ++ before.removed)
    (λ i within. subst (λ (s : List ChangeData). 64 ≤ length s) (before.hold.has (from + 1 + i)) (full (from + 1 + i) (omega arith) (omega (arith, within, onward)))) in
    let count : length before.removed ≡ k = count_removed before.removed (take k rows) before.keys ∙ length-take rows k (omega (arith, inside)) in
    let sum : length (changes ++ before.removed) ≡ length changes + length before.removed = length-append changes before.removed in
    omega (arith, all, count, sum, inside)

pub take_whole : (rows : List RowData) (k : ℕ) → length rows ≤ k → take k rows ≡ rows
take_whole rows k past = take_all rows k past

-- ---- a slot on its own

pub slot_own : (slots : SlotsData) (given : List ChangeData) (rev : ℕ) (slot : List ChangeData) → Hold slots given → slot_of slots rev ≡ Some slot → slot ≡ of_rev rev given
slot_own slots given rev slot hold at = sym (ap changes_in at) ∙ hold.has rev

pub slot_distinct : (slots : SlotsData) (given : List ChangeData) (rev : ℕ) (slot : List ChangeData) → Hold slots given → slot_of slots rev ≡ Some slot → AreOfDistinctObjects given → AreOfDistinctObjects slot
slot_distinct slots given rev slot hold at distinct =
    subst AreOfDistinctObjects (sym (slot_own slots given rev slot hold at)) (AllPairs-filter (λ a b. same_object a b ≡ false) (λ c. eqb c.rev rev) given distinct)

of_its_number : (at : ℕ) (given : List ChangeData) → AllByRecursion (λ c. c.rev ≡ at) (of_rev at given)
of_its_number at [] = tt
of_its_number at (c ∷ given) = elim (cases_Bool (eqb c.rev at)) [
  | inl own ↦ rw own (eqb-true c.rev at own, of_its_number at given)
  | inr other ↦ rw other (of_its_number at given)
]

pub slot_numbered : (slots : SlotsData) (given : List ChangeData) (rev : ℕ) (slot : List ChangeData) → Hold slots given → slot_of slots rev ≡ Some slot → All (λ c. c.rev ≡ rev) slot
slot_numbered slots given rev slot hold at =
    subst (All (λ c. c.rev ≡ rev)) (sym (slot_own slots given rev slot hold at)) (All-from_recursion (λ c. c.rev ≡ rev) (of_rev rev given) (of_its_number rev given))

-- one more is made
pub made_more : (slots : SlotsData) (revisions : List RevisionData) (slot : ℕ × List ChangeData) (revision : RevisionData) → AreMadeOf slots revisions → IsOfSlot slot revision → AreMadeOf (slots ++ slot ∷ []) (revisions ++ revision ∷ [])
made_more [] [] slot revision made is = (is, tt)
made_more [] (r ∷ revisions) slot revision made is = absurd made
made_more (s ∷ slots) [] slot revision made is = absurd made
made_more (s ∷ slots) (r ∷ revisions) slot revision made is = (made.0, made_more slots revisions slot revision made.1 is)

pub map_same : (slots : SlotsData) → map (λ (slot : ℕ × List ChangeData). slot) slots ≡ slots
map_same [] = refl
map_same (slot ∷ slots) = ap (λ (rest : SlotsData). slot ∷ rest) (map_same slots)
