-- A record has one judgement.
use Rattle.std.proofs.Common.{◌≡◌, ℕ, zero, suc, ◌≤◌, ◌⊎◌, List, [], ◌∷◌, ◌++◌, length, take, All, refl, sym, ap, ◌∙◌, subst, append_assoc, inl, inr, arith}
use Rattle.std.specs.List.{AllByRecursion}
use Rattle.std.proofs.lemmas.List.{append-nil}
use Rattle.std.proofs.lemmas.List.Elements.{recursion_from_All, All-from_recursion, All-nil}
use Rattle.rev_log.specs.Logs.{Log, end_of}
use Rattle.rev_log.proofs.MapLemmas.{take_all}
use Rattle.select_all.specs.declared.selection.Selection.{Selection}
use Rattle.watch_rules.specs.declared.starts.Start.{Start}
use Rattle.watch_rules.specs.declared.starts.Start.TheVariants.{FromRevision}
use Rattle.watch_rules.specs.Bodies.{Line, IsOpening, TellsBody, opening_lines}
use Rattle.watch_rules.proofs.LineLemmas.{tellings_begin}
use Rattle.watch_record.specs.Between.{LaterData, BetweenData, IsBetweenRead}
use Rattle.body_check.specs.declared.verdict.Verdict.{Verdict}
use Rattle.body_check.specs.declared.verdict.Verdict.TheVariants.{Lawful, BadLine, BadList}
use Rattle.body_check.specs.Lists.{IsListedAt, TellEach, IsOfSomeLog, cut, IsOfNone, IsAllTold, IsBrokenBy, IsAgainst, IsBadAt, IsJudged, JudgementsAreOne, held_at}
use Rattle.body_check.proofs.WalkLemmas.{no_closing}

first_part : (P : LaterData → Type 0) (xs ys : List LaterData) → AllByRecursion P (xs ++ ys) → AllByRecursion P xs
first_part P [] ys all = tt
first_part P (x ∷ xs) ys all = (all.0, first_part P xs ys all.1)

module _ (case : BetweenData) where
  -- with fewer lists
  fewer : (n p : ℕ) (some more : List LaterData) → IsOfSomeLog (cut case n (some ++ more)) p → IsOfSomeLog (cut case n some) p
  fewer n p some more is = record {
    log = is.log;
    log_floor = is.log_floor;
    low = is.low;
    lawful = is.lawful;
    first = is.first;
    later = All-from_recursion (λ l. IsListedAt is.log case.ask.selection l.rows l.at) some
        (first_part (λ l. IsListedAt is.log case.ask.selection l.rows l.at) some more (recursion_from_All (λ l. IsListedAt is.log case.ask.selection l.rows l.at) (some ++ more) is.later));
    lines = is.lines;
    body = is.body;
    texts = is.texts;
  }

  -- all of it
  whole : (p : ℕ) → IsOfSomeLog case p → IsOfSomeLog (cut case (length case.texts) case.later) p
  whole p is = record {
    log = is.log;
    log_floor = is.log_floor;
    low = is.low;
    lawful = is.lawful;
    first = is.first;
    later = is.later;
    lines = is.lines;
    body = is.body;
    texts = subst (λ (t : List (List ℕ)). TellEach case.ask.selection.resource t is.lines) (sym (take_all case.texts (length case.texts) (omega arith))) is.texts;
  }

  starts_there : (m : Log) → case.ask.start ≡ FromRevision case.from → IsOpening m case.ask.selection case.ask.start case.from []
  starts_there m is = subst (λ (st : Start). IsOpening m case.ask.selection st case.from []) (sym is) (refl, refl)

  -- with no lines
  bare : (n p : ℕ) (later : List LaterData) → case.ask.start ≡ FromRevision case.from → IsOfSomeLog (cut case n later) p → IsOfSomeLog (cut case 0 []) case.from
  bare n p later start is =
      let opened = tellings_begin is.log 0 0 case.ask case.from [] (starts_there is.log start) in
      record {
        log = is.log;
        log_floor = 0;
        low = 0;
        lawful = is.lawful;
        first = is.first;
        later = All-nil (λ list. IsListedAt is.log case.ask.selection list.rows list.at);
        lines = [];
        body = subst (λ (l : List Line). TellsBody is.log 0 0 case.ask case.from l case.from) (no_closing case.ask case.from case.from start) opened.0;
        texts = tt;
      }

  -- ---- two judgements

  told_not_broken : (p n : ℕ) (later : List LaterData) → IsOfSomeLog (cut case (length case.texts) later) p → ¬ IsBrokenBy case n
  told_not_broken p n later told broken = broken.none p (fewer (length case.texts) p [] later told)

  bad_not_first : (n p : ℕ) (later : List LaterData) → case.ask.start ≡ FromRevision case.from → IsOfSomeLog (cut case n later) p → ¬ IsOfNone (cut case 0 [])
  bad_not_first n p later start is none = none case.from (bare n p later start is)

  up_to : (p place : ℕ) (against : IsAgainst case place) → IsOfSomeLog (cut case (length case.texts) case.later) p → ⊥
  up_to p place against told =
      against.none p (fewer (length case.texts) p (against.before ++ against.bad ∷ []) against.behind
      (subst (λ (l : List LaterData). IsOfSomeLog (cut case (length case.texts) l) p) (against.later_are ∙ sym (append_assoc against.before (against.bad ∷ []) against.behind)) told))

  -- the first lists are those before the one
  abbrev pub Order : List LaterData → List LaterData → LaterData → LaterData → Type 0
  Order xs ys x y = ((rest : List LaterData) × (ys ≡ xs ++ x ∷ rest)) ⊎ ((x ≡ y) ⊎ ((rest : List LaterData) × (xs ≡ ys ++ y ∷ rest)))

  order : (xs ys : List LaterData) (x y : LaterData) (more others : List LaterData) → xs ++ x ∷ more ≡ ys ++ y ∷ others → Order xs ys x y
  order [] [] x y more others same = inr (inl (let e : x ≡ y = cc in e))
  order [] (b ∷ ys) x y more others same = let e : x ≡ b = cc in inl (ys, ap (λ (l : LaterData). l ∷ ys) (sym e))
  order (a ∷ xs) [] x y more others same = let e : a ≡ y = cc in inr (inr (xs, ap (λ (l : LaterData). l ∷ xs) e))
  order (a ∷ xs) (b ∷ ys) x y more others same =
      let first : a ≡ b = cc in
      let rest : xs ++ x ∷ more ≡ ys ++ y ∷ others = cc in
      elim (order xs ys x y more others rest) [
        | inl before ↦ inl (before.0, ap (λ (k : List LaterData). b ∷ k) before.1 ∙ ap (λ (k : LaterData). k ∷ xs ++ x ∷ before.0) (sym first))
        | inr other ↦ elim other [
          | inl here ↦ inr (inl here)
          | inr behind ↦ inr (inr (behind.0, ap (λ (k : List LaterData). a ∷ k) behind.1 ∙ ap (λ (k : LaterData). k ∷ ys ++ y ∷ behind.0) first))
        ]
      ]

  -- one list is against all before it, so it isn't before the other
  early : (a b : ℕ) (first : IsAgainst case a) (second : IsAgainst case b) (rest : List LaterData) → second.before ≡ first.before ++ first.bad ∷ rest → ⊥
  early a b first second rest is =
      first.none second.position (fewer (length case.texts) second.position (first.before ++ first.bad ∷ []) rest
      (subst (λ (l : List LaterData). IsOfSomeLog (cut case (length case.texts) l) second.position) (is ∙ sym (append_assoc first.before (first.bad ∷ []) rest)) second.told))

  one_place : (a b : ℕ) → IsAgainst case a → IsAgainst case b → a ≡ b
  one_place a b first second = elim (order first.before second.before first.bad second.bad first.behind second.behind (sym first.later_are ∙ second.later_are)) [
    | inl before ↦ absurd (early a b first second before.0 before.1)
    | inr other ↦ elim other [
      | inl same ↦ first.place_is ∙ ap (λ (l : LaterData). l.place) same ∙ sym second.place_is
      | inr behind ↦ absurd (early b a second first behind.0 behind.1)
    ]
  ]

  module _ (start : case.ask.start ≡ FromRevision case.from) where
    lawful_alone : (from to held : ℕ) → IsAllTold case from to held → (y : Verdict) → IsJudged case y → Lawful from to held ≡ y
    lawful_alone from to held x (Lawful f t h) y =
        let froms : from ≡ f = x.begins ∙ sym y.begins in
        let tos : to ≡ t = omega (arith, x.least t y.told, y.least to x.told) in
        let helds : held ≡ h = x.held_is ∙ ap (λ (n : ℕ). held_at n case.later) tos ∙ sym y.held_is in
        λ i. Lawful (froms i) (tos i) (helds i)
    lawful_alone from to held x (BadLine n) y = absurd (told_not_broken to n case.later (whole to x.told) y)
    lawful_alone from to held x (BadList zero) y = absurd (bad_not_first (length case.texts) to case.later start (whole to x.told) y)
    lawful_alone from to held x (BadList (suc n)) y = absurd (up_to to (suc n) y (whole to x.told))

    line_alone : (n : ℕ) → IsBrokenBy case n → (y : Verdict) → IsJudged case y → BadLine n ≡ y
    line_alone n x (Lawful f t h) y = absurd (told_not_broken t n case.later (whole t y.told) x)
    line_alone n x (BadLine m) y = ap BadLine (omega (arith, x.greatest m y.position y.within y.begun, y.greatest n x.position x.within x.begun))
    line_alone n x (BadList zero) y = absurd (bad_not_first n x.position [] start x.begun y)
    line_alone n x (BadList (suc m)) y = absurd (told_not_broken y.position n y.before y.told x)

    first_alone : IsOfNone (cut case 0 []) → (y : Verdict) → IsJudged case y → BadList zero ≡ y
    first_alone x (Lawful f t h) y = absurd (bad_not_first (length case.texts) t case.later start (whole t y.told) x)
    first_alone x (BadLine m) y = absurd (bad_not_first m y.position [] start y.begun x)
    first_alone x (BadList zero) y = refl
    first_alone x (BadList (suc m)) y = absurd (bad_not_first (length case.texts) y.position y.before start y.told x)

    list_alone : (n : ℕ) → IsAgainst case (suc n) → (y : Verdict) → IsJudged case y → BadList (suc n) ≡ y
    list_alone n x (Lawful f t h) y = absurd (up_to t (suc n) x (whole t y.told))
    list_alone n x (BadLine m) y = absurd (told_not_broken x.position m x.before x.told y)
    list_alone n x (BadList zero) y = absurd (bad_not_first (length case.texts) x.position x.before start x.told y)
    list_alone n x (BadList (suc m)) y = ap BadList (one_place (suc n) (suc m) x y)

    alone : (x y : Verdict) → IsJudged case x → IsJudged case y → x ≡ y
    alone (Lawful f t h) y is other = lawful_alone f t h is y other
    alone (BadLine n) y is other = line_alone n is y other
    alone (BadList zero) y is other = first_alone is y other
    alone (BadList (suc n)) y is other = list_alone n is y other

pub one_judgement : JudgementsAreOne
one_judgement case x y read is other = alone case read.starts x y is other
