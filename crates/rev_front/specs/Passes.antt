-- One log that only grows, its one writer, and passes, each of which knows a beginning of it.
use Rattle.std.specs.Prelude.{◌≡◌, ℕ, zero, suc, ◌+◌, ◌<◌, ◌≤◌, ◌^◌, max, List, [], ◌∷◌, ◌++◌, length, All, Some, slice_get, nat_lt, if◌then◌else◌}
use Rattle.std.specs.List.Sorted.{IsNonDecreasing}
use mathlib.Core.List.{IsPrefix}
use Rattle.atomic_table.specs.Seated.{TableId}

-- which log it is: the table that has its numbers, its first revision, and the names of the ledgers in which its commits
-- and the orders on it are counted
pub record LogId : Type 0 where
  pub table : TableId
  pub first : ℕ
  pub commits : ℕ
  pub orders : ℕ

-- the name of no log
abbrev pub no_log : LogId
no_log = record { table = record { words = 0; slots = 0; views_name = 0; atom = 0; block = 0; offset = 0; slot_names = [] }; first = 0; commits = 0; orders = 0 }

-- the revision of the last entry. The entry at place i, from 0, has revision first + 1 + i
abbrev pub end_from : {E : Type 0} → ℕ → List E → ℕ
end_from first log = first + length log

-- each entry fits its revision
abbrev pub FitFrom : {E : Type 0} → (ℕ → E → Type 0) → ℕ → List E → Type 0
FitFrom {E} fits first log = (i : ℕ) (e : E) → slice_get log i ≡ Some e → fits (first + 1 + i) e

-- the entries of so many revisions behind this one, at which nothing happens
abbrev pub quiets : {E : Type 0} → (ℕ → E) → ℕ → ℕ → List E
quiets quiet from zero = []
quiets quiet from (suc n) = quiet (from + 1) ∷ quiets quiet (from + 1) n

-- the longer of two logs
abbrev pub longer : {E : Type 0} → List E → List E → List E
longer xs ys = if nat_lt (length xs) (length ys) then ys else xs

-- the last of these numbers, or n where there is none
abbrev pub last_or : ℕ → List ℕ → ℕ
last_or n [] = n
last_or n (m ∷ ms) = last_or m ms

-- What one caller knows of the log: a beginning of it (`seen`), the greatest revision that it was told (`shown`),
-- what its own loads of the revision gave, oldest first (`loads`), the greatest compaction floor and feed generation that
-- it knows, and its seat, which never changes.
-- Nothing equates the seats of two passes, so a load by another pass is never a load of this one.
pub record Pass (E : Type 0) : Type 0 where
  pub first : ℕ
  pub seen : List E
  pub shown : ℕ
  pub loads : List ℕ
  pub floor : ℕ
  pub gen : ℕ
  pub seat : ℕ

-- what its last load gave, or 0 where it made none
abbrev pub last_of : {E : Type 0} → Pass E → ℕ
last_of p = last_or 0 p.loads

-- what holds of every pass
pub record IsPass {E : Type 0} (fits : ℕ → E → Type 0) (p : Pass E) : Type 0 where
  pub rising : IsNonDecreasing p.loads
  pub told : All (λ n. n ≤ p.shown) p.loads
  pub within : end_from p.first p.seen ≤ p.shown
  pub from : p.first ≤ p.floor
  pub bounded : (p.shown ≤ 2 ^ 62) × (p.floor ≤ 2 ^ 62) × (p.gen ≤ 2 ^ 62)
  pub fitting : FitFrom fits p.first p.seen

-- the pass q goes on from p: nothing is forgotten, and nothing goes back
pub record Extends {E : Type 0} (p q : Pass E) : Type 0 where
  pub log_is : q.first ≡ p.first
  pub seat_is : q.seat ≡ p.seat
  pub seen_on : IsPrefix p.seen q.seen
  pub loads_on : IsPrefix p.loads q.loads
  pub shown_on : p.shown ≤ q.shown
  pub floor_on : p.floor ≤ q.floor
  pub gen_on : p.gen ≤ q.gen

-- one more load of the revision, which gave n
abbrev pub looked : {E : Type 0} → Pass E → ℕ → Pass E
looked p n = record p { shown = n; loads = p.loads ++ n ∷ [] }

-- q is p after it met o: it has seen the longer log, which both logs begin, and knows the greater numbers
pub record Met {E : Type 0} (p o q : Pass E) : Type 0 where
  pub is : q ≡ record p { seen = longer p.seen o.seen; shown = max p.shown o.shown; floor = max p.floor o.floor; gen = max p.gen o.gen }
  pub mine : IsPrefix p.seen q.seen
  pub theirs : IsPrefix o.seen q.seen

-- what follows a look has made its load, and has it as its last where no other load was made since
abbrev pub LooksStand : Type 0 → Type 0
LooksStand E =
    (p q : Pass E) (n : ℕ) → Extends (looked p n) q →
    (length p.loads < length q.loads) × (q.loads ≡ p.loads ++ n ∷ [] → last_of q ≡ n)

-- a pass that has seen all that it was told of has seen all that its loads gave
abbrev pub LoadsAreSeen : {E : Type 0} → (ℕ → E → Type 0) → Type 0
LoadsAreSeen {E} fits =
    (p : Pass E) → IsPass fits p → p.shown ≡ end_from p.first p.seen →
    All (λ n. n ≤ end_from p.first p.seen) p.loads × (last_of p ≤ end_from p.first p.seen)

-- the whole log and its numbers, as the one writer has them
pub record Whole (E : Type 0) : Type 0 where
  pub first : ℕ
  pub log : List E
  pub gen : ℕ
  pub floor : ℕ

-- the revision that the log has reached
abbrev pub revision : {E : Type 0} → Whole E → ℕ
revision w = end_from w.first w.log

-- a new log
abbrev pub empty_log : {E : Type 0} → ℕ → Whole E
empty_log first = record { first = first; log = []; gen = 0; floor = first }

-- an author: its parts of the right to change the log, how many revisions were committed by them, and how many orders
-- were given
pub record Authored : Type 0 where
  pub parts : ℕ
  pub own : ℕ
  pub orders : ℕ

-- all parts of the right to change a log
abbrev pub whole_right : ℕ
whole_right = 2 ^ 62

-- who has so many parts, and did nothing yet
abbrev pub idle_author : ℕ → Authored
idle_author parts = record { parts = parts; own = 0; orders = 0 }

-- the author of so many revisions more
abbrev pub credited : Authored → ℕ → Authored
credited a n = record a { own = a.own + n }

-- the author of one order more
abbrev pub ordered : Authored → Authored
ordered a = record a { orders = a.orders + 1 }

-- what two authors did together
abbrev pub joined : Authored → Authored → Authored
joined a b = record { parts = a.parts + b.parts; own = a.own + b.own; orders = a.orders + b.orders }

-- what holds of every writer
pub record IsWhole {E : Type 0} (fits : ℕ → E → Type 0) (w : Whole E) : Type 0 where
  pub from : w.first ≤ w.floor
  pub reached : w.floor ≤ revision w
  pub bounded : (revision w ≤ 2 ^ 62) × (w.gen ≤ 2 ^ 62)
  pub fitting : FitFrom fits w.first w.log

-- the pass with this seat that knows all that the writer knows, and has made no load
abbrev pub pass_from : {E : Type 0} → Whole E → ℕ → Pass E
pass_from w seat = record { first = w.first; seen = w.log; shown = revision w; loads = []; floor = w.floor; gen = w.gen; seat = seat }

-- the pass with all that the writer knows, and its own loads
abbrev pub briefed : {E : Type 0} → Whole E → Pass E → Pass E
briefed w p = record p { seen = w.log; shown = revision w; floor = w.floor; gen = w.gen }

-- the writer knows all that the pass knows: the pass has seen a beginning of its log, and was told of no greater number
pub record Covers {E : Type 0} (w : Whole E) (p : Pass E) : Type 0 where
  pub first_is : p.first ≡ w.first
  pub seen : IsPrefix p.seen w.log
  pub shown : p.shown ≤ revision w
  pub floor : p.floor ≤ w.floor
  pub gen : p.gen ≤ w.gen
