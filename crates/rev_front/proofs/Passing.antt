-- What stays true of a pass, and of the pen, over a step.
use Rattle.std.proofs.Common.{◌≡◌, ℕ, zero, suc, ◌+◌, ◌-◌, ◌≤◌, ◌^◌, max, List, [], ◌∷◌, ◌++◌, length, length-append, append_assoc, refl, ap, sym, ◌∙◌, subst, arith}
use Rattle.std.specs.Prelude.{All}
use Rattle.std.proofs.lemmas.List.{append-nil}
use Rattle.std.specs.List.Sorted.{IsNonDecreasing}
use Rattle.std.proofs.lemmas.List.Elements.{All-push, All-nil}
use Rattle.std.proofs.lemmas.List.Sorted.{IsNonDecreasingBy-push, IsNonDecreasingBy-short}
use Rattle.rev_front.specs.declared.sight.Sight.{Sight}
use Rattle.rev_front.specs.Passes.{Pass, IsPass, Extends, LooksStand, LoadsAreSeen, FitFrom, end_from, last_or, quiets}
use Rattle.rev_front.specs.Rule.{pass_of, Leads, Follows, met, learnt, copied}
use Rattle.rev_front.proofs.Beginnings.{prefix_self, prefix_trans, prefix_grown, prefix_length, last_push, last_within, longer_is, longer_begins, longer_first, longer_second, fit_push}

pub told_more : (ns : List ℕ) (m n : ℕ) → m ≤ n → All (λ k. k ≤ m) ns → All (λ k. k ≤ n) ns
told_more ns m n le all k d lt = let h = all k d lt in omega arith

pub told_push : (ns : List ℕ) (m n : ℕ) → m ≤ n → All (λ k. k ≤ m) ns → All (λ k. k ≤ n) (ns ++ n ∷ [])
told_push ns m n le all = All-push (λ k. k ≤ n) ns n (told_more ns m n le all) (omega arith)

pub rising_push : (ns : List ℕ) (m n : ℕ) → m ≤ n → All (λ k. k ≤ m) ns → IsNonDecreasing ns → IsNonDecreasing (ns ++ n ∷ [])
rising_push ns m n le all up = IsNonDecreasingBy-push (λ x. x) ns n up (λ d some. let h = all (length ns - 1) d (omega arith) in omega arith)

-- each pass goes on from itself, and from what it went on from
pub extends_self : {E : Type 0} (p : Pass E) → Extends p p
extends_self p = record { log_is = refl; seat_is = refl; seen_on = prefix_self p.seen; loads_on = prefix_self p.loads; shown_on = omega arith; floor_on = omega arith; gen_on = omega arith }

pub extends_trans : {E : Type 0} (p q r : Pass E) → Extends p q → Extends q r → Extends p r
extends_trans p q r a b = record {
  log_is = b.log_is ∙ a.log_is;
  seat_is = b.seat_is ∙ a.seat_is;
  seen_on = prefix_trans p.seen q.seen r.seen a.seen_on b.seen_on;
  loads_on = prefix_trans p.loads q.loads r.loads a.loads_on b.loads_on;
  shown_on = let x = a.shown_on in let y = b.shown_on in omega arith;
  floor_on = let x = a.floor_on in let y = b.floor_on in omega arith;
  gen_on = let x = a.gen_on in let y = b.gen_on in omega arith;
}

-- what follows a look, and what has seen all
pub looks_hold : {E : Type 0} → LooksStand E
looks_hold p q n later = (
  omega (arith, prefix_length (p.loads ++ n ∷ []) q.loads later.loads_on, length-append p.loads (n ∷ [])),
  λ stays. ap (last_or 0) stays ∙ last_push 0 n p.loads,
)

pub loads_hold : {E : Type 0} (fits : ℕ → E → Type 0) → LoadsAreSeen fits
loads_hold fits p lawful all =
    let seen = told_more p.loads p.shown (end_from p.first p.seen) (omega (arith, all)) lawful.told in
    (seen, last_within 0 (end_from p.first p.seen) p.loads (omega arith) seen)

module _ {E : Type 0} (fits : ℕ → E → Type 0) (first : ℕ) where
  pub looked_on : (j n : ℕ) (v : Sight E) → IsPass fits (pass_of first j v) → v.shown ≤ n → n ≤ 2 ^ 62 → IsPass fits (pass_of first j (record v { loads = v.loads ++ n ∷ []; shown = n }))
  looked_on j n v p later small = record {
    rising = rising_push v.loads v.shown n later p.told p.rising;
    told = told_push v.loads v.shown n later p.told;
    within = let h = p.within in omega arith;
    from = p.from;
    bounded = (small, p.bounded.1, p.bounded.2);
    fitting = p.fitting;
  }

  pub gen_on : (j n : ℕ) (v : Sight E) → IsPass fits (pass_of first j v) → n ≤ 2 ^ 62 → IsPass fits (pass_of first j (record v { generation = n }))
  gen_on j n v p small = record { rising = p.rising; told = p.told; within = p.within; from = p.from; bounded = (p.bounded.0, p.bounded.1, small); fitting = p.fitting }

  pub floor_on : (j n : ℕ) (v : Sight E) → IsPass fits (pass_of first j v) → v.floor ≤ n → n ≤ 2 ^ 62 → IsPass fits (pass_of first j (record v { floor = n }))
  floor_on j n v p later small = record { rising = p.rising; told = p.told; within = p.within; from = let h = p.from in omega arith; bounded = (p.bounded.0, small, p.bounded.2); fitting = p.fitting }

  pub copied_on : (j k : ℕ) (v : Sight E) → IsPass fits (pass_of first j v) → IsPass fits (pass_of first k (copied v))
  copied_on j k v p = record { rising = p.rising; told = p.told; within = p.within; from = p.from; bounded = p.bounded; fitting = p.fitting }

  -- the pen as a pass
  pub copied_pen : (k : ℕ) (v : Sight E) → Leads fits first v → IsPass fits (pass_of first k (copied v))
  copied_pen k v p = record {
    rising = subst IsNonDecreasing (sym p.bare.0) (IsNonDecreasingBy-short (λ x. x) [] (omega arith));
    told = subst (All (λ n. n ≤ v.shown)) (sym p.bare.0) (All-nil (λ n. n ≤ v.shown));
    within = let h = p.shown in omega arith;
    from = p.whole.from;
    bounded = let h = p.shown in let a = p.whole.bounded in let b = p.whole.reached in (omega arith, omega arith, a.1);
    fitting = p.whole.fitting;
  }

  pub met_on : (j k : ℕ) (v w : Sight E) → IsPass fits (pass_of first j v) → IsPass fits (pass_of first k w) → IsPass fits (pass_of first j (met v w))
  met_on j k v w p q = record {
    rising = p.rising;
    told = told_more v.loads v.shown (max v.shown w.shown) (omega arith) p.told;
    within = let a = p.within in let b = q.within in longer_is (λ l. end_from first l ≤ max v.shown w.shown) v.seen w.seen (λ _. omega arith) (λ _. omega arith);
    from = let h = p.from in omega arith;
    bounded = let a = p.bounded in let b = q.bounded in (omega arith, omega arith, omega arith);
    fitting = longer_is (FitFrom fits first) v.seen w.seen (λ _. q.fitting) (λ _. p.fitting);
  }

  pub met_follows : (pen v w : Sight E) → Follows pen v → Follows pen w → Follows pen (met v w)
  met_follows pen v w a b = record {
    seen = longer_begins v.seen w.seen pen.seen a.seen b.seen;
    own = longer_first v.seen w.seen pen.seen a.seen b.seen;
    brought = longer_second v.seen w.seen pen.seen a.seen b.seen;
    shown = let x = a.shown in let y = b.shown in omega arith;
    floor = let x = a.floor in let y = b.floor in omega arith;
    gen = let x = a.gen in let y = b.gen in omega arith;
  }

  pub learnt_leads : (v w : Sight E) → Leads fits first v → Follows v w → Leads fits first (learnt v w)
  learnt_leads v w p f = record {
    role = p.role;
    whole = p.whole;
    shown = p.shown;
    bare = p.bare;
    brought = f.seen;
    known = let k = p.known in let a = f.shown in let b = f.floor in let c = f.gen in (omega arith, omega arith, omega arith);
  }

  -- the pen with one entry more
  pub commit_leads : (v : Sight E) (e : E) → Leads fits first v → v.shown + 1 ≤ 2 ^ 62 → fits (v.shown + 1) e → Leads fits first (record v { seen = v.seen ++ e ∷ []; shown = v.shown + 1 })
  commit_leads v e p room fit =
      let long : length (v.seen ++ e ∷ []) ≡ length v.seen + 1 = length-append v.seen (e ∷ []) in
      let was = p.shown in
      let k = p.known in
      let w = p.whole in
      let reached = w.reached in
      let bounded = w.bounded in
      record {
        role = p.role;
        whole = record {
          from = w.from;
          reached = omega arith;
          bounded = (omega arith, bounded.1);
          fitting = fit_push fits first v.seen e w.fitting (subst (λ (n : ℕ). fits (n + 1) e) was fit);
        };
        shown = omega arith;
        bare = p.bare;
        brought = prefix_trans v.brought v.seen (v.seen ++ e ∷ []) p.brought (prefix_grown v.seen (e ∷ []));
        known = (omega arith, k.1, k.2);
      }

  -- the pen behind so many quiet entries
  pub quiet_leads : (quiet : ℕ → E) → ((r : ℕ) → fits r (quiet r)) → (v : Sight E) (n : ℕ) → Leads fits first v → v.shown + n ≤ 2 ^ 62 → Leads fits first (record v { seen = v.seen ++ quiets quiet v.shown n; shown = v.shown + n })
  quiet_leads quiet all v zero p room = subst (Leads fits first) (λ i. record v { seen = sym (append-nil v.seen) i; shown = sym none i }) p
    where
      none : v.shown + 0 ≡ v.shown
      none = omega arith
  quiet_leads quiet all v (suc n) p room =
      let q : E = quiet (v.shown + 1) in
      let w : Sight E = record v { seen = v.seen ++ q ∷ []; shown = v.shown + 1 } in
      let one : Leads fits first w = commit_leads v q p (omega arith) (all (v.shown + 1)) in
      let rest = quiet_leads quiet all w n one (omega arith) in
      let seen : w.seen ++ quiets quiet w.shown n ≡ v.seen ++ quiets quiet v.shown (suc n) = append_assoc v.seen (q ∷ []) (quiets quiet (v.shown + 1) n) in
      let shown : w.shown + n ≡ v.shown + suc n = omega arith in
      subst (Leads fits first) (λ i. record v { seen = seen i; shown = shown i }) rest

  pub gen_leads : (v : Sight E) (n : ℕ) → Leads fits first v → v.generation ≤ n → n ≤ 2 ^ 62 → Leads fits first (record v { generation = n })
  gen_leads v n p later small =
      let k = p.known in
      let w = p.whole in
      record { role = p.role; whole = record { from = w.from; reached = w.reached; bounded = (w.bounded.0, small); fitting = w.fitting }; shown = p.shown; bare = p.bare; brought = p.brought; known = (k.0, k.1, omega arith) }

  pub floor_leads : (v : Sight E) (n : ℕ) → Leads fits first v → v.floor ≤ n → n ≤ v.shown → Leads fits first (record v { floor = n })
  floor_leads v n p later reached =
      let k = p.known in
      let w = p.whole in
      let from = w.from in
      let was = p.shown in
      record { role = p.role; whole = record { from = omega arith; reached = omega arith; bounded = w.bounded; fitting = w.fitting }; shown = p.shown; bare = p.bare; brought = p.brought; known = (k.0, omega arith, k.2) }
