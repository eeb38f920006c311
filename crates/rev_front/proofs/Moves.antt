-- Each step keeps the rule of the table.
use Rattle.std.proofs.Common.{◌≡◌, ◌≢◌, ℕ, ◌+◌, ◌-◌, ◌<◌, ◌≤◌, ◌^◌, ◌==◌, eqb, Bool, true, false, List, [], ◌∷◌, ◌++◌, length, get_or, set, refl, ap, sym, ◌∙◌, subst, ⊎_elim, arith, eq-eqb}
use mathlib.Core.Option.{some, none, some-injective}
use mathlib.Core.List.{IsPrefix}
use lib.ListN.{get_elem?}
use lib.Seq.{set-get_or}
use prog.Atomic.{either}
use Rattle.atomic_table.specs.Table.{State, Me, step, keeps, Allows, Splits, Joins, opening}
use Rattle.atomic_table.proofs.Lists.{at_set, set_else, set_again, at_longer, at_snoc}
use Rattle.rev_front.specs.declared.sight.Role.TheVariants.{Reader, Gone}
use Rattle.rev_front.specs.declared.sight.Sight.{Sight}
use Rattle.rev_front.specs.Passes.{IsPass, quiets}
use Rattle.rev_front.specs.Rule.{pass_of, opening_sight, Leads, Follows, Rule, commits, passes_over, sets_gen, sets_floor, looks, reads_gen, reads_floor, copied, met, learnt, gone, recalls_pass, recalls_pen}
use Rattle.rev_front.proofs.Beginnings.{prefix_self, prefix_trans, prefix_grown}
use Rattle.rev_front.proofs.Passing.{looked_on, gen_on, floor_on, copied_on, copied_pen, met_on, met_follows, learnt_leads, commit_leads, quiet_leads, gen_leads, floor_leads}

module _ {E : Type 0} (fits : ℕ → E → Type 0) (first : ℕ) where
  abbrev St : Type 0
  St = State E (Sight E)

  abbrev Passes : Sight E → List (Sight E) → Type 0
  Passes pen views = (seat : ℕ) (v : Sight E) → get_elem? views seat ≡ some v → v.role ≡ Reader → IsPass fits (pass_of first seat v) × Follows pen v

  -- the rule, at the pen's view v
  pub record Led (s : St) (v : Sight E) : Type 0 where
    pub leads : Leads fits first v
    pub words : s.words ≡ v.shown ∷ v.generation ∷ v.floor ∷ []
    pub passes : Passes v s.views

  pub led : (s : St) (r : Rule fits first s) (v : Sight E) → get_elem? s.views 0 ≡ some v → Led s v
  led s r v at = subst (Led s) (some-injective r.pen v (sym r.at ∙ at)) record { leads = r.leads; words = r.words; passes = r.passes }

  -- a pass is not in the pen's seat
  apart : (s : St) (r : Rule fits first s) (j : ℕ) (v : Sight E) → get_elem? s.views j ≡ some v → v.role ≡ Reader → j ≢ 0
  apart s r j v at reads e =
      let same : r.pen ≡ v = some-injective r.pen v (sym r.at ∙ subst (λ (k : ℕ). get_elem? s.views k ≡ some v) e at) in
      let writes = r.leads.role in
      let role = ap (λ (x : Sight E). x.role) same in
      absurd (cc)

  -- a seat that is not the pen's has a new view
  seat_moves : (s : St) (r : Rule fits first s) (j : ℕ) (w : Sight E) → j ≢ 0 → (w.role ≡ Reader → IsPass fits (pass_of first j w) × Follows r.pen w) → Rule fits first record { words = s.words; homes = s.homes; views = set s.views j w }
  seat_moves s r j w other mine = record {
    pen = r.pen;
    at = set_else s.views j 0 w (λ e. other (sym e)) ∙ r.at;
    leads = r.leads;
    words = r.words;
    passes = λ k v e reads. ⊎_elim
        (λ (t : (k ≡ j) × (w ≡ v)). subst (λ (z : ℕ × Sight E). IsPass fits (pass_of first z.0 z.1) × Follows r.pen z.1) (λ i. (sym t.0 i, t.1 i)) (mine (ap (λ (x : Sight E). x.role) t.1 ∙ reads)))
        (λ (t : (k ≢ j) × (get_elem? s.views k ≡ some v)). r.passes k v t.1 reads)
        (at_set s.views j k w v e);
  }

  -- the pen goes on from v to w
  pen_moves : (s : St) (v w : Sight E) → Led s v → get_elem? s.views 0 ≡ some v → (words' : List ℕ) → words' ≡ w.shown ∷ w.generation ∷ w.floor ∷ [] → Leads fits first w
      → IsPrefix v.seen w.seen → (v.shown ≤ w.shown) × (v.floor ≤ w.floor) × (v.generation ≤ w.generation) → Rule fits first record { words = words'; homes = s.homes; views = set s.views 0 w }
  pen_moves s v w l at words' are leads more up = record {
    pen = w;
    at = here s.views at;
    leads = leads;
    words = are;
    passes = λ k u e reads. ⊎_elim
        (λ (t : (k ≡ 0) × (w ≡ u)). let writes = leads.role in let role = ap (λ (x : Sight E). x.role) t.1 in absurd (cc))
        (λ (t : (k ≢ 0) × (get_elem? s.views k ≡ some u)). let p = l.passes k u t.1 reads in (p.0, later u p.1))
        (at_set s.views 0 k w u e);
  }
    where
      here : (views : List (Sight E)) → get_elem? views 0 ≡ some v → get_elem? (set views 0 w) 0 ≡ some w
      here [] none_there = absurd (mathlib.Core.Option.some-ne-none v (sym none_there))
      here (x ∷ xs) there = refl

      later : (u : Sight E) → Follows v u → Follows w u
      later u f = record {
        seen = prefix_trans u.seen v.seen w.seen f.seen more;
        own = f.own;
        brought = f.brought;
        shown = let a = f.shown in let b = up in omega arith;
        floor = let a = f.floor in let b = up in omega arith;
        gen = let a = f.gen in let b = up in omega arith;
      }

  -- a seat more, of a pass
  seat_added : (s : St) (r : Rule fits first s) (w : Sight E) → ((k : ℕ) → IsPass fits (pass_of first k w)) → Follows r.pen w → Rule fits first record { words = s.words; homes = s.homes; views = s.views ++ w ∷ [] }
  seat_added s r w lawful follows = record {
    pen = r.pen;
    at = at_longer s.views (w ∷ []) 0 r.pen r.at;
    leads = r.leads;
    words = r.words;
    passes = λ k v e reads. ⊎_elim (λ (t : get_elem? s.views k ≡ some v). r.passes k v t reads)
        (λ (t : w ≡ v). subst (λ (z : Sight E). IsPass fits (pass_of first k z) × Follows r.pen z) t (lawful k, follows)) (at_snoc s.views w v k e);
  }

  -- a load writes back what it found
  reloaded : (s : St) (i : ℕ) (views : List (Sight E)) → Rule fits first record { words = s.words; homes = s.homes; views = views } → Rule fits first record { words = set s.words i (get_or s.words i 0); homes = s.homes; views = views }
  reloaded s i views r = subst (λ (ws : List ℕ). Rule fits first record { words = ws; homes = s.homes; views = views }) (sym (set-get_or s.words i 0)) r

  -- the words of a new log, and the view of its first seat
  pub begins : first ≤ 2 ^ 62 → Rule fits first (opening (first ∷ 0 ∷ first ∷ []) [] (opening_sight first))
  begins small = record {
    pen = opening_sight first;
    at = refl;
    leads = record {
      role = refl;
      whole = record { from = omega arith; reached = omega arith; bounded = (omega arith, omega arith); fitting = λ i e h. absurd (cc) };
      shown = omega arith;
      bare = (refl, refl);
      brought = prefix_self [];
      known = (omega arith, omega arith, omega arith);
    };
    words = refl;
    passes = one;
  }
    where
      one : Passes (opening_sight first) (opening_sight first ∷ [])
      one Rattle.std.proofs.Common.zero v e reads = let same = some-injective (opening_sight first) v e in let role = ap (λ (x : Sight E). x.role) same in absurd (cc)
      one (Rattle.std.proofs.Common.suc k) v e reads = absurd (mathlib.Core.Option.some-ne-none v (sym e))

  module _ (slots : ℕ) where
    pub look_allowed : (id : ℕ) (m : Me E (Sight E)) → m.0.role ≡ Reader → Allows (Rule fits first) slots id m 0 (λ n. n) (looks (step slots 0 0 0 none) m)
    look_allowed id m reads s r deep at small =
        let n : ℕ = get_or s.words 0 0 in
        let is : n ≡ r.pen.shown = ap (λ (ws : List ℕ). get_or ws 0 0) r.words in
        let mine = r.passes id m.0 at reads in
        let f = mine.1 in
        let was = f.shown in
        let whole = r.leads.shown in
        let most = r.leads.whole.bounded in
        let later : m.0.shown ≤ n = omega arith in
        let bounded : n ≤ 2 ^ 62 = omega arith in
        let w : Sight E = record m.0 { loads = m.0.loads ++ n ∷ []; shown = n } in (
          w,
          keeps,
          tt,
          reloaded s 0 (set s.views id w) (seat_moves s r id w (apart s r id m.0 at reads)
              (λ _. (looked_on fits first id n m.0 mine.0 later bounded, record { seen = f.seen; own = f.own; brought = f.brought; shown = omega arith; floor = f.floor; gen = f.gen }))),
          (later, bounded, refl),
        )

    pub read_gen_allowed : (id : ℕ) (m : Me E (Sight E)) → m.0.role ≡ Reader → Allows (Rule fits first) slots id m 1 (λ n. n) (reads_gen (step slots 1 0 0 none) m)
    read_gen_allowed id m reads s r deep at small =
        let n : ℕ = get_or s.words 1 0 in
        let is : n ≡ r.pen.generation = ap (λ (ws : List ℕ). get_or ws 1 0) r.words in
        let mine = r.passes id m.0 at reads in
        let f = mine.1 in
        let was = f.gen in
        let most = r.leads.whole.bounded in
        let later : m.0.generation ≤ n = omega arith in
        let bounded : n ≤ 2 ^ 62 = omega arith in
        let w : Sight E = record m.0 { generation = n } in (
          w,
          keeps,
          tt,
          reloaded s 1 (set s.views id w) (seat_moves s r id w (apart s r id m.0 at reads)
              (λ _. (gen_on fits first id n m.0 mine.0 bounded, record { seen = f.seen; own = f.own; brought = f.brought; shown = f.shown; floor = f.floor; gen = omega arith }))),
          (later, bounded, refl),
        )

    pub read_floor_allowed : (id : ℕ) (m : Me E (Sight E)) → m.0.role ≡ Reader → Allows (Rule fits first) slots id m 2 (λ n. n) (reads_floor (step slots 2 0 0 none) m)
    read_floor_allowed id m reads s r deep at small =
        let n : ℕ = get_or s.words 2 0 in
        let is : n ≡ r.pen.floor = ap (λ (ws : List ℕ). get_or ws 2 0) r.words in
        let mine = r.passes id m.0 at reads in
        let f = mine.1 in
        let was = f.floor in
        let most = r.leads.whole.bounded in
        let reached = r.leads.whole.reached in
        let later : m.0.floor ≤ n = omega arith in
        let bounded : n ≤ 2 ^ 62 = omega arith in
        let w : Sight E = record m.0 { floor = n } in (
          w,
          keeps,
          tt,
          reloaded s 2 (set s.views id w) (seat_moves s r id w (apart s r id m.0 at reads)
              (λ _. (floor_on fits first id n m.0 mine.0 later bounded, record { seen = f.seen; own = f.own; brought = f.brought; shown = f.shown; floor = omega arith; gen = f.gen }))),
          (later, bounded, refl),
        )

    pub recall_pass_allowed : (id : ℕ) (m : Me E (Sight E)) → m.0.role ≡ Reader → Allows (Rule fits first) slots id m 0 (λ n. n) (recalls_pass (step slots 0 0 0 none) m)
    recall_pass_allowed id m reads s r deep at small =
        let mine = r.passes id m.0 at reads in (
          m.0,
          keeps,
          tt,
          reloaded s 0 (set s.views id m.0) (seat_moves s r id m.0 (apart s r id m.0 at reads) (λ _. mine)),
          (refl, mine.1.own, mine.1.brought),
        )

    recall_pen_at : (m : Me E (Sight E)) → Allows (Rule fits first) slots 0 m 0 (λ n. n) (recalls_pen (step slots 0 0 0 none) m)
    recall_pen_at m s r deep at small =
        let l = led s r m.0 at in
        let k = l.leads.known in (
          m.0,
          keeps,
          tt,
          reloaded s 0 (set s.views 0 m.0) (pen_moves s m.0 m.0 l at s.words l.words l.leads (prefix_self m.0.seen) (omega arith, omega arith, omega arith)),
          (refl, l.leads.brought, k.0, k.1, k.2),
        )

    set_gen_at : (m : Me E (Sight E)) (n : ℕ) → m.0.generation ≤ n → n ≤ 2 ^ 62 → Allows (Rule fits first) slots 0 m 1 (λ _. n) (λ _. sets_gen (step slots 1 n 0 none) m n)
    set_gen_at m n later bounded s r deep at small =
        let l = led s r m.0 at in
        let w : Sight E = record m.0 { generation = n } in (
          w,
          keeps,
          tt,
          pen_moves s m.0 w l at (set s.words 1 n) (ap (λ (ws : List ℕ). set ws 1 n) l.words) (gen_leads fits first m.0 n l.leads later bounded) (prefix_self m.0.seen) (omega arith, omega arith, later),
          refl,
        )

    set_floor_at : (m : Me E (Sight E)) (n : ℕ) → m.0.floor ≤ n → n ≤ m.0.shown → Allows (Rule fits first) slots 0 m 2 (λ _. n) (λ _. sets_floor (step slots 2 n 0 none) m n)
    set_floor_at m n later reached s r deep at small =
        let l = led s r m.0 at in
        let w : Sight E = record m.0 { floor = n } in (
          w,
          keeps,
          tt,
          pen_moves s m.0 w l at (set s.words 2 n) (ap (λ (ws : List ℕ). set ws 2 n) l.words) (floor_leads fits first m.0 n l.leads later reached) (prefix_self m.0.seen) (omega arith, later, omega arith),
          refl,
        )

    commit_at : (m : Me E (Sight E)) (e : E) (old : ℕ) → old ≡ m.0.shown → m.0.shown + 1 ≤ 2 ^ 62 → fits (m.0.shown + 1) e
        → Allows (Rule fits first) slots 0 m 0 (λ n. either (n == old) (old + 1) n) (commits (step slots 0 old (old + 1) (some e)) m)
    commit_at m e old is room fit s r deep at small =
        let l = led s r m.0 at in
        let w : Sight E = record m.0 { seen = m.0.seen ++ e ∷ []; shown = m.0.shown + 1 } in
        let n : ℕ = get_or s.words 0 0 in
        let found : n ≡ old = ap (λ (ws : List ℕ). get_or ws 0 0) l.words ∙ sym is in
        let new : either (n == old) (old + 1) n ≡ m.0.shown + 1 = ap (λ (b : Bool). either b (old + 1) n) (eq-eqb n old found) ∙ ap (λ (k : ℕ). k + 1) is in (
          w,
          keeps,
          tt,
          pen_moves s m.0 w l at (set s.words 0 (either (n == old) (old + 1) n)) (ap (λ (k : ℕ). set s.words 0 k) new ∙ ap (λ (ws : List ℕ). set ws 0 (m.0.shown + 1)) l.words) (commit_leads fits first m.0 e l.leads room fit)
              (prefix_grown m.0.seen (e ∷ [])) (omega arith, omega arith, omega arith),
          (found, λ x same. ap (λ (y : E). (record m.0 { seen = m.0.seen ++ y ∷ []; shown = m.0.shown + 1 }, m.1)) (some-injective e x same)),
        )

    pass_over_at : (quiet : ℕ → E) → ((r : ℕ) → fits r (quiet r)) → (m : Me E (Sight E)) (old new : ℕ) → old ≡ m.0.shown → old ≤ new → new ≤ 2 ^ 62
        → Allows (Rule fits first) slots 0 m 0 (λ n. either (n == old) new n) (passes_over quiet (step slots 0 old new none) m)
    pass_over_at quiet all m old new is on room s r deep at small =
        let l = led s r m.0 at in
        let w : Sight E = record m.0 { seen = m.0.seen ++ quiets quiet old (new - old); shown = new } in
        let n : ℕ = get_or s.words 0 0 in
        let found : n ≡ old = ap (λ (ws : List ℕ). get_or ws 0 0) l.words ∙ sym is in
        let stored : either (n == old) new n ≡ new = ap (λ (b : Bool). either b new n) (eq-eqb n old found) in
        let far : m.0.shown + (new - old) ≡ new = omega (arith, is) in
        let grown = quiet_leads fits first quiet all m.0 (new - old) l.leads (omega (arith, far)) in
        let leads : Leads fits first w = subst (Leads fits first) (λ i. record m.0 { seen = m.0.seen ++ quiets quiet (sym is i) (new - old); shown = far i }) grown in (
          w,
          keeps,
          tt,
          pen_moves s m.0 w l at (set s.words 0 (either (n == old) new n)) (ap (λ (k : ℕ). set s.words 0 k) stored ∙ ap (λ (ws : List ℕ). set ws 0 new) l.words) leads
              (prefix_grown m.0.seen (quiets quiet old (new - old))) (omega (arith, is), omega arith, omega arith),
          (found, refl),
        )

    pub pass_over_allowed : (quiet : ℕ → E) → ((r : ℕ) → fits r (quiet r)) → (id : ℕ) (m : Me E (Sight E)) (old new : ℕ) → id ≡ 0 → old ≡ m.0.shown → old ≤ new → new ≤ 2 ^ 62
        → Allows (Rule fits first) slots id m 0 (λ n. either (n == old) new n) (passes_over quiet (step slots 0 old new none) m)
    pass_over_allowed quiet all id m old new z is on room =
        subst (λ (k : ℕ). Allows (Rule fits first) slots k m 0 (λ n. either (n == old) new n) (passes_over quiet (step slots 0 old new none) m)) (sym z) (pass_over_at quiet all m old new is on room)

    pub recall_pen_allowed : (id : ℕ) (m : Me E (Sight E)) → id ≡ 0 → Allows (Rule fits first) slots id m 0 (λ n. n) (recalls_pen (step slots 0 0 0 none) m)
    recall_pen_allowed id m z = subst (λ (k : ℕ). Allows (Rule fits first) slots k m 0 (λ n. n) (recalls_pen (step slots 0 0 0 none) m)) (sym z) (recall_pen_at m)

    pub set_gen_allowed : (id : ℕ) (m : Me E (Sight E)) (n : ℕ) → id ≡ 0 → m.0.generation ≤ n → n ≤ 2 ^ 62 → Allows (Rule fits first) slots id m 1 (λ _. n) (λ _. sets_gen (step slots 1 n 0 none) m n)
    set_gen_allowed id m n z later bounded = subst (λ (k : ℕ). Allows (Rule fits first) slots k m 1 (λ _. n) (λ _. sets_gen (step slots 1 n 0 none) m n)) (sym z) (set_gen_at m n later bounded)

    pub set_floor_allowed : (id : ℕ) (m : Me E (Sight E)) (n : ℕ) → id ≡ 0 → m.0.floor ≤ n → n ≤ m.0.shown → Allows (Rule fits first) slots id m 2 (λ _. n) (λ _. sets_floor (step slots 2 n 0 none) m n)
    set_floor_allowed id m n z later reached = subst (λ (k : ℕ). Allows (Rule fits first) slots k m 2 (λ _. n) (λ _. sets_floor (step slots 2 n 0 none) m n)) (sym z) (set_floor_at m n later reached)

    pub commit_allowed : (id : ℕ) (m : Me E (Sight E)) (e : E) (old : ℕ) → id ≡ 0 → old ≡ m.0.shown → m.0.shown + 1 ≤ 2 ^ 62 → fits (m.0.shown + 1) e
        → Allows (Rule fits first) slots id m 0 (λ n. either (n == old) (old + 1) n) (commits (step slots 0 old (old + 1) (some e)) m)
    commit_allowed id m e old z is room fit = subst (λ (k : ℕ). Allows (Rule fits first) slots k m 0 (λ n. either (n == old) (old + 1) n) (commits (step slots 0 old (old + 1) (some e)) m)) (sym z) (commit_at m e old is room fit)

  pub split_pass_allowed : (id : ℕ) (v : Sight E) → v.role ≡ Reader → Splits (Rule fits first) id v v (copied v)
  split_pass_allowed id v reads s r at =
      let mine = r.passes id v at reads in
      let f = mine.1 in
      subst (λ (vs : List (Sight E)). Rule fits first record { words = s.words; homes = s.homes; views = vs ++ copied v ∷ [] }) (sym (set_again s.views id v at))
      (seat_added s r (copied v) (λ k. copied_on fits first id k v mine.0) record { seen = f.seen; own = f.own; brought = f.brought; shown = f.shown; floor = f.floor; gen = f.gen })

  split_pen_at : (v : Sight E) → Splits (Rule fits first) 0 v v (copied v)
  split_pen_at v s r at =
      let l = led s r v at in
      let same : r.pen ≡ v = some-injective r.pen v (sym r.at ∙ at) in
      let own : IsPrefix v.own v.seen = subst (λ (xs : List E). IsPrefix xs v.seen) (sym l.leads.bare.1) (v.seen, refl) in
      let f : Follows v (copied v) = record { seen = prefix_self v.seen; own = own; brought = l.leads.brought; shown = omega arith; floor = omega arith; gen = omega arith } in
      subst (λ (vs : List (Sight E)). Rule fits first record { words = s.words; homes = s.homes; views = vs ++ copied v ∷ [] }) (sym (set_again s.views 0 v at))
      (seat_added s r (copied v) (λ k. copied_pen fits first k v l.leads) (subst (λ (p : Sight E). Follows p (copied v)) (sym same) f))

  pub split_pen_allowed : (id : ℕ) (v : Sight E) → id ≡ 0 → Splits (Rule fits first) id v v (copied v)
  split_pen_allowed id v z = subst (λ (k : ℕ). Splits (Rule fits first) k v v (copied v)) (sym z) (split_pen_at v)

  -- the seat that is joined away
  spends : (s : St) (r : Rule fits first s) (j : ℕ) (w : Sight E) → get_elem? s.views j ≡ some w → w.role ≡ Reader → Rule fits first record { words = s.words; homes = s.homes; views = set s.views j gone }
  spends s r j w at reads = seat_moves s r j gone (apart s r j w at reads) (λ (bad : Gone ≡ Reader). absurd (cc))

  pub meet_allowed : (id : ℕ) (v : Sight E) (other : ℕ) (w : Sight E) → v.role ≡ Reader → w.role ≡ Reader → Joins (Rule fits first) id v other w (met v w) gone
  meet_allowed id v other w reads too s r at ne at' =
      let mine = r.passes id v at reads in
      let was : get_elem? s.views other ≡ some w = sym (set_else s.views id other (met v w) ne) ∙ at' in
      let theirs = r.passes other w was too in
      let moved = seat_moves s r id (met v w) (apart s r id v at reads) (λ _. (met_on fits first id other v w mine.0 theirs.0, met_follows fits first r.pen v w mine.1 theirs.1)) in
      spends record { words = s.words; homes = s.homes; views = set s.views id (met v w) } moved other w at' too

  learn_at : (v : Sight E) (other : ℕ) (w : Sight E) → w.role ≡ Reader → Joins (Rule fits first) 0 v other w (learnt v w) gone
  learn_at v other w too s r at ne at' =
      let l = led s r v at in
      let was : get_elem? s.views other ≡ some w = sym (set_else s.views 0 other (learnt v w) ne) ∙ at' in
      let theirs = l.passes other w was too in
      let moved = pen_moves s v (learnt v w) l at s.words l.words (learnt_leads fits first v w l.leads theirs.1) (prefix_self v.seen) (omega arith, omega arith, omega arith) in
      spends record { words = s.words; homes = s.homes; views = set s.views 0 (learnt v w) } moved other w at' too

  pub learn_allowed : (id : ℕ) (v : Sight E) (other : ℕ) (w : Sight E) → id ≡ 0 → w.role ≡ Reader → Joins (Rule fits first) id v other w (learnt v w) gone
  learn_allowed id v other w z too = subst (λ (k : ℕ). Joins (Rule fits first) k v other w (learnt v w) gone) (sym z) (learn_at v other w too)
