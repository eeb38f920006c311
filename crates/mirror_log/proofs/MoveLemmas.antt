-- What commits leave of a mirror's log.
use Rattle.std.proofs.Common.{◌≡◌, ℕ, zero, suc, ◌+◌, ◌<◌, List, [], ◌∷◌, ◌++◌, length, All, Option, Some, is_some, append-nil, refl, sym, ap, ◌∙◌, subst, inl, inr, arith, append_assoc, length-append}
use Rattle.std.specs.List.{AllByRecursion, slice_get}
use Rattle.std.proofs.lemmas.Bool.{cases_lt, eq-eqb, ne_eqb}
use Rattle.std.proofs.lemmas.List.Elements.{recursion_from_All}
use Rattle.std.proofs.lemmas.List.Sorted.{IsPermutation-refl}
use Rattle.kube_meta.specs.Rows.{RowData}
use Rattle.rev_front.specs.Passes.{quiets}
use Rattle.rev_front.proofs.Beginnings.{fit_push}
use Rattle.rev_log.specs.Changes.{RevisionData}
use Rattle.rev_log.specs.Logs.{Log, end_of, grown, quiet_at}
use Rattle.rev_log.specs.States.{row_at}
use Rattle.select_all.specs.declared.selection.Selection.{Selection}
use Rattle.select_all.specs.Streams.{TransitionData}
use Rattle.up_store.proofs.ChangedLemmas.{quiet-fits}
use Rattle.mirror_law.specs.Mirrors.{IsRevisionTold, of_revision}
use Rattle.mirror_law.specs.Taking.{row_before}
use Rattle.mirror_log.proofs.IntakeLemmas.{quiet_row}
use Rattle.mirror_log.specs.MirrorLogs.{MirrorLogData, Grows, Moves, MovesOne}

-- ---- lines of one revision

-- all of its own
pub all_at : (at : ℕ) (kept : List TransitionData) → AllByRecursion (λ t. t.rev ≡ at) kept → of_revision at kept ≡ kept
all_at at [] is = refl
all_at at (t ∷ kept) is = rw (eq-eqb t.rev at is.0) (ap (λ rest. t ∷ rest) (all_at at kept is.1))

-- none of another one
pub none_at : (at other : ℕ) (kept : List TransitionData) → AllByRecursion (λ t. t.rev ≡ at) kept → at < other → of_revision other kept ≡ []
none_at at other [] is above = refl
none_at at other (t ∷ kept) is above = rw (ne_eqb t.rev other (λ same. absurd (omega (arith, same, is.0, above)))) (none_at at other kept is.1 above)

-- ---- steps

module _ (a b c : MirrorLogData) (next : All (λ t. t.rev ≡ end_of a.log + 1) a.kept) (before : Moves a b) (step : MovesOne b c) where
  each : AllByRecursion (λ t. t.rev ≡ end_of a.log + 1) a.kept
  each = recursion_from_All (λ t. t.rev ≡ end_of a.log + 1) a.kept next

  upto_b : end_of b.log ≡ end_of a.log + length before.grows.more
  upto_b = omega (arith, ap end_of before.grows.log_is, length-append a.log.revisions before.grows.more)

  upto_c : end_of c.log ≡ end_of b.log + 1
  upto_c = omega (arith, ap end_of step.log_is, length-append b.log.revisions (step.revision ∷ []))

  -- what is kept of the revision that is committed
  own : of_revision (end_of b.log + 1) a.kept ≡ b.kept
  own = elim (cases_lt (end_of a.log) (end_of b.log)) [
    | inl past ↦
        none_at (end_of a.log + 1) (end_of b.log + 1) a.kept each (omega (arith, past))
        ∙ sym (before.kept ∙ rw (ne_eqb (end_of b.log) (end_of a.log) (λ same. absurd (omega (arith, same, past)))) refl)
    | inr here ↦
        let same : end_of b.log ≡ end_of a.log = omega (arith, here, upto_b) in
        ap (λ n. of_revision (n + 1) a.kept) same ∙ all_at (end_of a.log + 1) a.kept each ∙ sym (before.kept ∙ rw (eq-eqb (end_of b.log) (end_of a.log) same) refl)
  ]

  grows : Grows a c.log
  grows = record {
    more = before.grows.more ++ step.revision ∷ [];
    log_is = step.log_is ∙ ap (λ (log : Log). grown log (step.revision ∷ [])) before.grows.log_is
        ∙ ap (λ (revisions : List RevisionData). let log : Log = record a.log { revisions = revisions } in log) (append_assoc a.log.revisions before.grows.more (step.revision ∷ []));
    told_by = fit_push (λ at revision. IsRevisionTold a.selection.resource at (of_revision at a.kept) revision) (end_of a.log) before.grows.more step.revision before.grows.told_by
        (subst (λ (n : ℕ). IsRevisionTold a.selection.resource n (of_revision n a.kept) step.revision) (omega (arith, upto_b))
        (subst (λ (kept : List TransitionData). IsRevisionTold a.selection.resource (end_of b.log + 1) kept step.revision) (sym own)
        (subst (λ (s : Selection). IsRevisionTold s.resource (end_of b.log + 1) b.kept step.revision) before.selection step.told_by)));
  }

  -- one step more
  pub moves_on : Moves a c
  moves_on = record {
    selection = step.selection ∙ before.selection;
    most_gap = step.most_gap ∙ before.most_gap;
    grows = grows;
    kept = step.kept ∙ sym (rw (ne_eqb (end_of c.log) (end_of a.log) (λ same. absurd (omega (arith, same, upto_c, upto_b)))) refl);
    stands = λ rev key above.
        subst (λ (s : Selection). is_some (row_before c.log s.resource c.kept rev key) ≡ is_some (row_before b.log s.resource b.kept rev key)) before.selection (step.stands rev key above)
        ∙ before.stands rev key (omega (arith, above, upto_c));
  }

-- ---- where nothing was told

-- nothing is committed yet
pub moves_none : (a : MirrorLogData) → Moves a a
moves_none a = record {
  selection = refl;
  most_gap = refl;
  grows = record {
    more = [];
    log_is = ap (λ (revisions : List RevisionData). let log : Log = record a.log { revisions = revisions } in log) (sym (append-nil a.log.revisions));
    told_by = λ i r at. absurd (none_there i r at);
  };
  kept = sym (rw (eq-eqb (end_of a.log) (end_of a.log) refl) refl);
  stands = λ rev key above. refl;
}
  where
    none_there : (i : ℕ) (r : RevisionData) → slice_get [] i ≡ Some r → ⊥
    none_there i r at = cc

-- one revision at which nothing was told
quiet_step : (b : MirrorLogData) → b.kept ≡ [] → MovesOne b (record b { log = grown b.log (quiet_at (end_of b.log + 1) ∷ []) })
quiet_step b none = record {
  selection = refl;
  most_gap = refl;
  revision = quiet_at (end_of b.log + 1);
  told_by = subst (λ (l : List TransitionData). IsRevisionTold b.selection.resource (end_of b.log + 1) l (quiet_at (end_of b.log + 1))) (sym none)
      (record { number = refl; is = (quiet-fits (end_of b.log + 1)).1; changes = IsPermutation-refl [] });
  log_is = refl;
  kept = none;
  stands = λ rev key above.
      let next : Log = grown b.log (quiet_at (end_of b.log + 1) ∷ []) in
      let end : end_of next ≡ end_of b.log + 1 = omega (arith, length-append b.log.revisions (quiet_at (end_of b.log + 1) ∷ [])) in
      ap (λ (l : List TransitionData). is_some (row_before next b.selection.resource l rev key)) none
      ∙ ap (λ (n : ℕ). is_some (row_at next b.selection.resource n key)) end
      ∙ ap (λ (r : Option RowData). is_some r) (quiet_row b.selection.resource b.log key 1)
      ∙ ap (λ (l : List TransitionData). is_some (row_before b.log b.selection.resource l rev key)) (sym none);
}

-- and so many of them
pub quiet_moves : (n : ℕ) (a b : MirrorLogData) → All (λ t. t.rev ≡ end_of a.log + 1) a.kept → Moves a b → b.kept ≡ [] →
    Moves a (record b { log = grown b.log (quiets quiet_at (end_of b.log) n) })
quiet_moves zero a b next moves none =
    subst (λ (revisions : List RevisionData). Moves a (record b { log = record b.log { revisions = revisions } })) (sym (append-nil b.log.revisions)) moves
quiet_moves (suc n) a b next moves none =
    let quiet : RevisionData = quiet_at (end_of b.log + 1) in
    let on : MirrorLogData = record b { log = grown b.log (quiet ∷ []) } in
    let end : end_of on.log ≡ end_of b.log + 1 = omega (arith, length-append b.log.revisions (quiet ∷ [])) in
    let all : (b.log.revisions ++ quiet ∷ []) ++ quiets quiet_at (end_of on.log) n ≡ b.log.revisions ++ quiets quiet_at (end_of b.log) (suc n) =
    append_assoc b.log.revisions (quiet ∷ []) (quiets quiet_at (end_of on.log) n) ∙ ap (λ (m : ℕ). b.log.revisions ++ quiet ∷ quiets quiet_at m n) end in
    subst (λ (revisions : List RevisionData). Moves a (record b { log = record b.log { revisions = revisions } })) all
    (quiet_moves n a on next (moves_on a b on next moves (quiet_step b none)) none)
