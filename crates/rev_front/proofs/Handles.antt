-- What the types of the table's handles keep stays true over a step.
use Rattle.std.proofs.Common.{◌≡◌, ℕ, zero, suc, ◌+◌, ◌-◌, ◌<◌, ◌≤◌, ◌^◌, max, List, [], ◌∷◌, ◌++◌, length, refl, ap, sym, ◌∙◌, subst, arith, length-append}
use mathlib.Core.Option.{none, some, some-injective}
use lib.ListN.{get_elem?}
use Rattle.atomic_table.specs.Seated.{TableId}
use Rattle.atomic_table.specs.Table.{State, Me, step}
use Rattle.rev_front.specs.declared.sight.Sight.{Sight}
use Rattle.rev_front.specs.Passes.{LogId, Pass, Extends, Met, Whole, Covers, briefed, pass_from, revision, longer, looked, quiets}
use Rattle.rev_front.specs.Rule.{looks, pass_of, whole_of, Rule, Stands, Leads}
use Rattle.rev_front.specs.Kept.{Sits, Comes, Writes, IsReaderOf}
use Rattle.rev_front.proofs.Beginnings.{prefix_self, prefix_grown, longer_of_prefix, last_push}
use Rattle.rev_front.proofs.Passing.{looked_on, commit_leads, quiet_leads}

-- so many quiet entries are so many
pub quiets_count : {E : Type 0} (quiet : ℕ → E) (from n : ℕ) → length (quiets quiet from n) ≡ n
quiets_count quiet from zero = refl
quiets_count quiet from (suc n) = ap suc (quiets_count quiet (from + 1) n)

-- a seat that sits at the table may step there
pub seated : {E : Type 0} (id : LogId) (table : TableId) (key : ℕ) (seat : TableId) (carried : List (ℕ × E)) (at : TableId) → Sits id table key seat carried → at ≡ table → (seat ≡ at) × (0 < at.words) × (1 < at.words) × (2 < at.words)
seated id table key seat carried at s e =
    let three : at.words ≡ 3 = ap (λ (t : TableId). t.words) e ∙ s.words in
    (s.seat_is ∙ sym e, omega arith, omega arith, omega arith)

-- a seat that comes from the log's table may be joined at it
pub together : {E F : Type 0} (id : LogId) (table : TableId) (key : ℕ) (seat seat' : TableId) (carried : List (ℕ × E)) (carried' : List (ℕ × F)) (at : TableId)
    → Sits id table key seat carried → Comes id seat' carried' → at ≡ table → seat' ≡ at
together id table key seat seat' carried carried' at s t e = t.seat_is ∙ (sym s.table_is ∙ sym e)

module _ {E : Type 0} where
  -- a step keeps the table of a seat
  pub sits_on : (id : LogId) (table : TableId) (key : ℕ) (seat seat' : TableId) (carried carried' : List (ℕ × E)) → Sits id table key seat carried → seat' ≡ seat → carried' ≡ carried → Sits id table key seat' carried'
  sits_on id table key seat seat' carried carried' s e c = record { table_is = s.table_is; key_is = s.key_is; words = s.words; slots = s.slots; seat_is = e ∙ s.seat_is; bare = c ∙ s.bare }

  -- a pass after a look
  pub looks_view : (first j k n : ℕ) (m m' : Me E (Sight E)) → k ≡ j → looks (step 0 0 0 0 none) m n m' → pass_of first k m'.0 ≡ looked (pass_of first j m.0) n
  looks_view first j k n m m' same e =
      λ i. pass_of first (same i) (e.2 i).0

  pub looks_reads : (fits : ℕ → E → Type 0) (first j k n : ℕ) (m m' : Me E (Sight E)) (end last told floor : ℕ) → k ≡ j → looks (step 0 0 0 0 none) m n m' → IsReaderOf fits first j m.0 end last told floor → IsReaderOf fits first k m'.0 end n told floor
  looks_reads fits first j k n m m' end last told floor same e r =
      let was = r.shown_is in
      let later = e.0 in
      let v = m.0 in
      let w : Sight E = record v { loads = v.loads ++ n ∷ []; shown = n } in
      let now : IsReaderOf fits first j w end n told floor = record { role = r.role; lawful = looked_on fits first j n v r.lawful e.0 e.1; end_is = r.end_is; last_is = sym (last_push 0 n v.loads); shown_is = omega arith; floor_is = r.floor_is } in
      subst (λ (z : ℕ × Sight E). IsReaderOf fits first z.0 z.1 end n told floor) (λ i. (sym same i, sym (ap (λ (x : Me E (Sight E)). x.0) e.2) i)) now

  -- the pen after a commit
  pub commit_writes : (fits : ℕ → E → Type 0) (first j k : ℕ) (m m' : Me E (Sight E)) (e : E) (reached gen floor booked : ℕ) → k ≡ j → m' ≡ (record m.0 { seen = m.0.seen ++ e ∷ []; shown = m.0.shown + 1 }, m.1)
      → m.0.shown + 1 ≤ 2 ^ 62 → fits (m.0.shown + 1) e → Writes fits first j m.0 reached gen floor booked → Writes fits first k m'.0 (reached + 1) gen floor (booked + 1)
  commit_writes fits first j k m m' e reached gen floor booked same is room fit w =
      let v : Sight E = record m.0 { seen = m.0.seen ++ e ∷ []; shown = m.0.shown + 1 } in
      let now : Writes fits first j v (reached + 1) gen floor (booked + 1) = record {
        first_seat = w.first_seat;
        leads = commit_leads fits first m.0 e w.leads room fit;
        revision_is = ap (λ (n : ℕ). n + 1) w.revision_is;
        gen_is = w.gen_is;
        floor_is = w.floor_is;
        booked_is = ap (λ (n : ℕ). n + 1) w.booked_is ∙ sym (length-append m.0.seen (e ∷ []));
      } in
      subst (λ (z : ℕ × Sight E). Writes fits first z.0 z.1 (reached + 1) gen floor (booked + 1)) (λ i. (sym same i, sym (ap (λ (x : Me E (Sight E)). x.0) is) i)) now

  -- the pen behind quiet entries
  pub pass_over_writes : (fits : ℕ → E → Type 0) (quiet : ℕ → E) → ((r : ℕ) → fits r (quiet r)) → (first j k : ℕ) (m m' : Me E (Sight E)) (reached upto gen floor booked : ℕ) → k ≡ j
      → m' ≡ (record m.0 { seen = m.0.seen ++ quiets quiet reached (upto - reached); shown = upto }, m.1) → reached ≤ upto → upto ≤ 2 ^ 62 → Writes fits first j m.0 reached gen floor booked → Writes fits first k m'.0 upto gen floor (booked + (upto - reached))
  pass_over_writes fits quiet all first j k m m' reached upto gen floor booked same is on room w =
      let at = w.revision_is in
      let far : m.0.shown + (upto - reached) ≡ upto = omega (arith, at) in
      let v : Sight E = record m.0 { seen = m.0.seen ++ quiets quiet reached (upto - reached); shown = upto } in
      let grown = quiet_leads fits first quiet all m.0 (upto - reached) w.leads (omega (arith, far)) in
      let leads : Leads fits first v = subst (Leads fits first) (λ i. record m.0 { seen = m.0.seen ++ quiets quiet (sym at i) (upto - reached); shown = far i }) grown in
      let more = length-append m.0.seen (quiets quiet reached (upto - reached)) in
      let count = quiets_count quiet reached (upto - reached) in
      let was = w.booked_is in
      let all_booked : booked + (upto - reached) ≡ length v.seen = omega (arith, more, count) in
      let now : Writes fits first j v upto gen floor (booked + (upto - reached)) = record { first_seat = w.first_seat; leads = leads; revision_is = refl; gen_is = w.gen_is; floor_is = w.floor_is; booked_is = all_booked } in
      subst (λ (z : ℕ × Sight E). Writes fits first z.0 z.1 upto gen floor (booked + (upto - reached))) (λ i. (sym same i, sym (ap (λ (x : Me E (Sight E)). x.0) is) i)) now

  -- the words of a closed table stand in a state that meets the rule
  pub closes : (fits : ℕ → E → Type 0) (key j : ℕ) (v : Sight E) (ws : List ℕ) (a b c : ℕ) → j ≡ 0 → (s : State E (Sight E)) → Rule fits key s → get_elem? s.views j ≡ some v → s.words ≡ ws
      → get_elem? ws 0 ≡ some a → get_elem? ws 1 ≡ some b → get_elem? ws 2 ≡ some c → Stands fits (whole_of key v) (a ∷ b ∷ c ∷ [])
  closes fits key j v ws a b c z s r at are one two three =
      let at0 : get_elem? s.views 0 ≡ some v = subst (λ (k : ℕ). get_elem? s.views k ≡ some v) z at in
      let same : r.pen ≡ v = some-injective r.pen v (sym r.at ∙ at0) in
      let row : ws ≡ r.pen.shown ∷ r.pen.generation ∷ r.pen.floor ∷ [] = sym are ∙ r.words in
      let x = some-injective r.pen.shown a (sym (ap (λ (l : List ℕ). get_elem? l 0) row) ∙ one) in
      let y = some-injective r.pen.generation b (sym (ap (λ (l : List ℕ). get_elem? l 1) row) ∙ two) in
      let w = some-injective r.pen.floor c (sym (ap (λ (l : List ℕ). get_elem? l 2) row) ∙ three) in
      record { state = s; rule = r; pen_is = ap (whole_of key) same; words_are = r.words ∙ (λ i. x i ∷ y i ∷ w i ∷ []) }

-- each pass goes on from itself by a load
pub looked_extends : {E : Type 0} (p : Pass E) (n : ℕ) → p.shown ≤ n → Extends p (looked p n)
looked_extends p n later = record { log_is = refl; seat_is = refl; seen_on = prefix_self p.seen; loads_on = prefix_grown p.loads (n ∷ []); shown_on = later; floor_on = omega arith; gen_on = omega arith }

-- what the writer knows of a pass speaks of no seat
pub covers_reseated : {E : Type 0} (w : Whole E) (p : Pass E) (seat : ℕ) → Covers w (record p { seat = seat }) → Covers w p
covers_reseated w p seat c = record { first_is = c.first_is; seen = c.seen; shown = c.shown; floor = c.floor; gen = c.gen }

-- a pass that meets one that knows all of the log is briefed
pub briefed_by : {E : Type 0} (w : Whole E) (p q : Pass E) (seat : ℕ) → Covers w p → Met p (pass_from w seat) q → q ≡ briefed w p
briefed_by {E} w p q seat c m =
    let log : longer p.seen w.log ≡ w.log = longer_of_prefix p.seen w.log c.seen in
    let shown : max p.shown (revision w) ≡ revision w = let h = c.shown in omega arith in
    let floor : max p.floor w.floor ≡ w.floor = let h = c.floor in omega arith in
    let gen : max p.gen w.gen ≡ w.gen = let h = c.gen in omega arith in
    m.is ∙ (λ i. record p { seen = log i; shown = shown i; floor = floor i; gen = gen i })
