-- The rule of the table: what holds of its three words and of what all seats know, at every moment. And what each step tells.
use Rattle.std.specs.Prelude.{◌≡◌, ℕ, ◌+◌, ◌-◌, ◌≤◌, ◌^◌, max, List, [], ◌∷◌, ◌++◌}
use mathlib.Core.Option.{some}
use mathlib.Core.List.{IsPrefix}
use lib.ListN.{get_elem?}
use Rattle.atomic_table.specs.Table.{State, Me, Step}
use Rattle.rev_front.specs.declared.sight.Role.TheVariants.{Writer, Reader, Gone}
use Rattle.rev_front.specs.declared.sight.Sight.{Sight}
use Rattle.rev_front.specs.Passes.{Pass, IsPass, Whole, IsWhole, end_from, longer, quiets}

module _ {E : Type 0} (first : ℕ) where
  -- a seat that reads, as a pass
  abbrev pub pass_of : ℕ → Sight E → Pass E
  pass_of seat v = record { first = first; seen = v.seen; shown = v.shown; loads = v.loads; floor = v.floor; gen = v.generation; seat = seat }

  -- the seat that writes, as the whole log
  abbrev pub whole_of : Sight E → Whole E
  whole_of v = record { first = first; log = v.seen; gen = v.generation; floor = v.floor }

  -- what the first seat knows of a new log
  abbrev pub opening_sight : Sight E
  opening_sight = record { role = Writer; seen = []; shown = first; loads = []; floor = first; generation = 0; own = []; brought = []; known_shown = 0; known_floor = 0; known_generation = 0 }

-- the pen: its log and numbers are lawful, it has made no load, and it has all that its joins brought
pub record Leads {E : Type 0} (fits : ℕ → E → Type 0) (first : ℕ) (pen : Sight E) : Type 0 where
  pub role : pen.role ≡ Writer
  pub whole : IsWhole fits (whole_of first pen)
  pub shown : pen.shown ≡ end_from first pen.seen
  pub bare : (pen.loads ≡ []) × (pen.own ≡ [])
  pub brought : IsPrefix pen.brought pen.seen
  pub known : (pen.known_shown ≤ pen.shown) × (pen.known_floor ≤ pen.floor) × (pen.known_generation ≤ pen.generation)

-- a pass beside the pen: it has seen a beginning of the pen's log, which begins with the logs that it met, and its numbers are at most the pen's
pub record Follows {E : Type 0} (pen v : Sight E) : Type 0 where
  pub seen : IsPrefix v.seen pen.seen
  pub own : IsPrefix v.own v.seen
  pub brought : IsPrefix v.brought v.seen
  pub shown : v.shown ≤ pen.shown
  pub floor : v.floor ≤ pen.floor
  pub gen : v.generation ≤ pen.generation

-- The words are the pen's numbers. Its seat is the first one. Each seat that reads has a pass that follows it; of one that was joined away nothing is said
pub record Rule {E : Type 0} (fits : ℕ → E → Type 0) (first : ℕ) (s : State E (Sight E)) : Type 0 where
  pub pen : Sight E
  pub at : get_elem? s.views 0 ≡ some pen
  pub leads : Leads fits first pen
  pub words : s.words ≡ pen.shown ∷ pen.generation ∷ pen.floor ∷ []
  pub passes : (seat : ℕ) (v : Sight E) → get_elem? s.views seat ≡ some v → v.role ≡ Reader → IsPass fits (pass_of first seat v) × Follows pen v

-- The words and the whole log stand in a state that meets the rule
pub record Stands {E : Type 0} (fits : ℕ → E → Type 0) (w : Whole E) (words : List ℕ) : Type 0 where
  pub state : State E (Sight E)
  pub rule : Rule fits w.first state
  pub pen_is : whole_of w.first rule.pen ≡ w
  pub words_are : state.words ≡ words

module _ {E : Type 0} where
  -- the log grows by the entry that the step announces
  abbrev pub commits : Step E → Me E (Sight E) → ℕ → Me E (Sight E) → Type 0
  commits st m n m' = (n ≡ st.first) × ((e : E) → st.said ≡ some e → m' ≡ (record m.0 { seen = m.0.seen ++ e ∷ []; shown = m.0.shown + 1 }, m.1))

  -- the log grows by the quiet entries from the word that was there up to the one that is stored
  abbrev pub passes_over : (ℕ → E) → Step E → Me E (Sight E) → ℕ → Me E (Sight E) → Type 0
  passes_over quiet st m n m' = (n ≡ st.first) × (m' ≡ (record m.0 { seen = m.0.seen ++ quiets quiet st.first (st.second - st.first); shown = st.second }, m.1))

  -- the generation, or the floor, is the number that is stored
  abbrev pub sets_gen : Step E → Me E (Sight E) → ℕ → Me E (Sight E) → Type 0
  sets_gen st m n m' = m' ≡ (record m.0 { generation = n }, m.1)

  abbrev pub sets_floor : Step E → Me E (Sight E) → ℕ → Me E (Sight E) → Type 0
  sets_floor st m n m' = m' ≡ (record m.0 { floor = n }, m.1)

  -- one more load of the revision, which is at least what was shown
  abbrev pub looks : Step E → Me E (Sight E) → ℕ → Me E (Sight E) → Type 0
  looks st m n m' = (m.0.shown ≤ n) × (n ≤ 2 ^ 62) × (m' ≡ (record m.0 { loads = m.0.loads ++ n ∷ []; shown = n }, m.1))

  -- a load of the generation, or of the floor
  abbrev pub reads_gen : Step E → Me E (Sight E) → ℕ → Me E (Sight E) → Type 0
  reads_gen st m n m' = (m.0.generation ≤ n) × (n ≤ 2 ^ 62) × (m' ≡ (record m.0 { generation = n }, m.1))

  abbrev pub reads_floor : Step E → Me E (Sight E) → ℕ → Me E (Sight E) → Type 0
  reads_floor st m n m' = (m.0.floor ≤ n) × (n ≤ 2 ^ 62) × (m' ≡ (record m.0 { floor = n }, m.1))

  -- the new seat is a pass that knows the same
  abbrev pub copied : Sight E → Sight E
  copied v = record v { role = Reader }

  -- a pass that another one joins has the longer log and the greater numbers, and keeps its own loads
  abbrev pub met : Sight E → Sight E → Sight E
  met v w = record v { seen = longer v.seen w.seen; shown = max v.shown w.shown; floor = max v.floor w.floor; generation = max v.generation w.generation; own = v.seen; brought = w.seen }

  -- the pen that a pass joins remembers its log and its numbers
  abbrev pub learnt : Sight E → Sight E → Sight E
  learnt v w = record v { brought = w.seen; known_shown = max v.known_shown w.shown; known_floor = max v.known_floor w.floor; known_generation = max v.known_generation w.generation }

  -- what is left of a seat that was joined away
  abbrev pub gone : Sight E
  gone = record { role = Gone; seen = []; shown = 0; loads = []; floor = 0; generation = 0; own = []; brought = []; known_shown = 0; known_floor = 0; known_generation = 0 }

  -- nothing changes, and what the last join brought is told: of a pass, and of the pen
  abbrev pub recalls_pass : Step E → Me E (Sight E) → ℕ → Me E (Sight E) → Type 0
  recalls_pass st m n m' = (m' ≡ m) × IsPrefix m.0.own m.0.seen × IsPrefix m.0.brought m.0.seen

  abbrev pub recalls_pen : Step E → Me E (Sight E) → ℕ → Me E (Sight E) → Type 0
  recalls_pen st m n m' = (m' ≡ m) × IsPrefix m.0.brought m.0.seen × (m.0.known_shown ≤ m.0.shown) × (m.0.known_floor ≤ m.0.floor) × (m.0.known_generation ≤ m.0.generation)
