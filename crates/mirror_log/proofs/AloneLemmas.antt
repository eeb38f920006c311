-- An event that is alone in its revision.
use Rattle.std.proofs.Common.{◌≡◌, ℕ, ◌+◌, ◌<◌, ◌≤◌, false, eqb, List, [], ◌∷◌, ◌++◌, length, Option, Some, None, Ok, Err, append-nil, refl, sym, ap, ◌∙◌, subst, inl, inr, arith, append_assoc, length-append}
use Rattle.std.specs.Prelude.{Result}
use Rattle.std.proofs.lemmas.Bool.{cases_Bool, ne_eqb, eqb-true, le-ltb}
use Rattle.std.proofs.lemmas.List.Elements.{filter-append}
use Rattle.kube_meta.specs.declared.resources.Resource.{Resource}
use Rattle.rev_front.proofs.Beginnings.{fit_push}
use Rattle.rev_log.specs.Changes.{RevisionData}
use Rattle.rev_log.specs.Logs.{Log, end_of, grown}
use Rattle.select_all.specs.declared.selection.Selection.{Selection}
use Rattle.select_all.specs.Streams.{TransitionData}
use Rattle.watch_rules.specs.Bodies.{Told, Bookmark}
use Rattle.mirror_law.specs.Mirrors.{AreToldBy, IsRevisionTold, of_revision}
use Rattle.mirror_log.specs.Faults.{event_fault, mark_fault, last_of}
use Rattle.mirror_log.specs.MirrorLogs.{MirrorLogData, Grows, GrowsWith, Takes, TakesSome, TakesAlone, TakesSomeAlone, Hears, HearsAlone}
use Rattle.mirror_log.specs.declared.refusal.MirrorNo.{MirrorNo}
use Rattle.mirror_log.specs.declared.refusal.MirrorNo.TheVariants.{Refused, Passed, Memory}
use Rattle.mirror_log.specs.declared.take_refusal.TakeNo.{TakeNo}
use Rattle.mirror_log.proofs.FaultLemmas.{good}
use Rattle.mirror_log.proofs.MadeLemmas.{inside_of}

-- ---- its revision

-- of another revision the event tells nothing
of_other : (at : ℕ) (kept : List TransitionData) (t : TransitionData) → at < t.rev → of_revision at (kept ++ t ∷ []) ≡ of_revision at kept
of_other at kept t before =
    filter-append (λ u. eqb u.rev at) kept (t ∷ []) ∙ rw (ne_eqb t.rev at (λ same. absurd (omega (arith, same, before)))) (append-nil (of_revision at kept))

twice : (at : ℕ) (kept : List TransitionData) → of_revision at (of_revision at kept) ≡ of_revision at kept
twice at [] = refl
twice at (u ∷ kept) = elim (cases_Bool (eqb u.rev at)) [
  | inl is ↦ simp is (ap (λ (l : List TransitionData). u ∷ l) (twice at kept))
  | inr isnt ↦ simp isnt (twice at kept)
]

-- of its own revision stand those that are kept of it, and the event
of_own : (kept : List TransitionData) (t : TransitionData) → of_revision t.rev (of_revision t.rev kept ++ t ∷ []) ≡ of_revision t.rev (kept ++ t ∷ [])
of_own kept t =
    filter-append (λ u. eqb u.rev t.rev) (of_revision t.rev kept) (t ∷ [])
    ∙ ap (λ (l : List TransitionData). l ++ of_revision t.rev (t ∷ [])) (twice t.rev kept)
    ∙ sym (filter-append (λ u. eqb u.rev t.rev) kept (t ∷ []))

-- revisions before it are told with it as without
told_before : (resource : Resource) (kept : List TransitionData) (t : TransitionData) (from : ℕ) (more : List RevisionData) → AreToldBy resource kept from more → from + length more < t.rev → AreToldBy resource (kept ++ t ∷ []) from more
told_before resource kept t from more told before i r at =
    let inside : i < length more = inside_of more i r at in
    subst (λ (l : List TransitionData). IsRevisionTold resource (from + 1 + i) l r) (sym (of_other (from + 1 + i) kept t (omega (arith, inside, before)))) (told i r at)

module _ (old : MirrorLogData) (t : TransitionData) (above : end_of old.log < t.rev) where
  grows_before : (log : Log) → Grows old log → end_of log < t.rev → GrowsWith old t log
  grows_before log grows before = record {
    more = grows.more;
    log_is = grows.log_is;
    told_by = told_before old.selection.resource old.kept t (end_of old.log) grows.more grows.told_by (omega (arith, ap end_of grows.log_is, length-append old.log.revisions grows.more, before));
  }

  -- ---- its line, and then its revision

  module _ (mid : MirrorLogData) (first : Takes old (Told t) mid) where
    grows_on : (more : List RevisionData) (log : Log) → log ≡ grown mid.log more → AreToldBy old.selection.resource mid.kept (end_of mid.log) more → end_of log ≤ t.rev → GrowsWith old t log
    grows_on [] log is told within =
        let same : log ≡ mid.log = is ∙ ap (λ (revisions : List RevisionData). let l : Log = record mid.log { revisions = revisions } in l) (append-nil mid.log.revisions) in
        subst (GrowsWith old t) (sym same) (grows_before mid.log first.grows (omega (arith, first.reached, above)))
    grows_on (r ∷ []) log is told within =
        let end : end_of mid.log ≡ end_of old.log + length first.grows.more = omega (arith, ap end_of first.grows.log_is, length-append old.log.revisions first.grows.more) in
        let number : end_of mid.log + 1 ≡ t.rev = omega (arith, first.reached, above) in
        let here : IsRevisionTold old.selection.resource (end_of mid.log + 1) (of_revision (end_of mid.log + 1) mid.kept) r =
        subst (λ (n : ℕ). IsRevisionTold old.selection.resource n (of_revision n mid.kept) r) (omega arith) (told 0 r refl) in
        let own : of_revision (end_of mid.log + 1) mid.kept ≡ of_revision (end_of mid.log + 1) (old.kept ++ t ∷ []) =
        ap (λ (l : List TransitionData). of_revision (end_of mid.log + 1) l) first.kept
        ∙ subst (λ (n : ℕ). of_revision n (of_revision t.rev old.kept ++ t ∷ []) ≡ of_revision n (old.kept ++ t ∷ [])) (sym number) (of_own old.kept t) in
        let with_it : IsRevisionTold old.selection.resource (end_of mid.log + 1) (of_revision (end_of mid.log + 1) (old.kept ++ t ∷ [])) r =
        subst (λ (l : List TransitionData). IsRevisionTold old.selection.resource (end_of mid.log + 1) l r) own here in
        record {
          more = first.grows.more ++ r ∷ [];
          log_is = is ∙ ap (λ (l : Log). grown l (r ∷ [])) first.grows.log_is
              ∙ ap (λ (revisions : List RevisionData). let l : Log = record old.log { revisions = revisions } in l) (append_assoc old.log.revisions first.grows.more (r ∷ []));
          told_by = fit_push (λ at revision. IsRevisionTold old.selection.resource at (of_revision at (old.kept ++ t ∷ [])) revision) (end_of old.log) first.grows.more r
              (told_before old.selection.resource old.kept t (end_of old.log) first.grows.more first.grows.told_by (omega (arith, end, first.reached, above)))
              (subst (λ (n : ℕ). IsRevisionTold old.selection.resource n (of_revision n (old.kept ++ t ∷ [])) r) (omega (arith, end)) with_it);
        }
    grows_on (r ∷ s ∷ more) log is told within =
        absurd (omega (arith, ap end_of is, length-append mid.log.revisions (r ∷ s ∷ more), within, first.reached, above))

    grows_both : (log : Log) → Grows mid log → end_of log ≤ t.rev → GrowsWith old t log
    grows_both log grows within =
        grows_on grows.more log grows.log_is (subst (λ (s : Selection). AreToldBy s.resource mid.kept (end_of mid.log) grows.more) first.selection grows.told_by) within

    some_both : (new : MirrorLogData) → TakesSome mid (Bookmark t.rev) new → TakesSomeAlone old t new
    some_both new second = record {
      selection = second.selection ∙ first.selection;
      most_gap = second.most_gap ∙ first.most_gap;
      grows = grows_both new.log second.grows second.within;
      within = second.within;
    }

    both : (new : MirrorLogData) → Takes mid (Bookmark t.rev) new → TakesAlone old t new
    both new second = record {
      selection = second.selection ∙ first.selection;
      most_gap = second.most_gap ∙ first.most_gap;
      grows = grows_both new.log second.grows (omega (arith, second.reached));
      reached = second.reached;
      kept = second.kept;
    }

  some_first : (new : MirrorLogData) → TakesSome old (Told t) new → TakesSomeAlone old t new
  some_first new takes = record {
    selection = takes.selection;
    most_gap = takes.most_gap;
    grows = grows_before new.log takes.grows (omega (arith, takes.within, above));
    within = omega (arith, takes.within);
  }

-- ---- nothing is wrong with the bookmark behind it

last_is : (to : ℕ) (kept : List TransitionData) (t : TransitionData) → last_of to (of_revision t.rev kept ++ t ∷ []) ≡ t.rev
last_is to [] t = refl
last_is to (u ∷ kept) t = elim (cases_Bool (eqb u.rev t.rev)) [
  | inl is ↦ rw is (eqb-true u.rev t.rev is)
  | inr isnt ↦ rw isnt (last_is to kept t)
]

mark_fine : (most_gap to : ℕ) (kept : List TransitionData) (t : TransitionData) → mark_fault most_gap to (of_revision t.rev kept ++ t ∷ []) t.rev false ≡ None
mark_fine most_gap to kept t = rw (last_is to kept t, le-ltb t.rev t.rev (omega arith), le-ltb (t.rev + most_gap) t.rev (omega arith)) refl

-- ---- what is answered

module _ (old : MirrorLogData) (t : TransitionData) where
  abbrev fault : Option TakeNo
  fault = event_fault old.selection old.most_gap old.log old.kept t

  above_end : fault ≡ None → end_of old.log < t.rev
  above_end none = (good old.selection old.most_gap old.log old.kept t none).above

  pub heard_first : (new : MirrorLogData) (why : MirrorNo) → Hears old fault (Told t) (Err why) new → HearsAlone old fault t (Err why) new
  heard_first new (Refused why) heard = heard
  heard_first new (Passed at) heard = (heard.0, some_first old t (above_end heard.0) new heard.1, heard.2, heard.3)
  heard_first new Memory heard = (heard.0, some_first old t (above_end heard.0) new heard.1)

  pub heard_both : (mid new : MirrorLogData) (answer : Result ℕ MirrorNo) → fault ≡ None → Takes old (Told t) mid
      → Hears mid (mark_fault mid.most_gap (end_of mid.log) mid.kept t.rev false) (Bookmark t.rev) answer new → HearsAlone old fault t answer new
  heard_both mid new (Ok to) none first heard = (none, both old t (above_end none) mid first new heard.1, heard.2)
  heard_both mid new (Err (Refused why)) none first heard =
      let fine : mark_fault mid.most_gap (end_of mid.log) mid.kept t.rev false ≡ None =
      ap (λ (l : List TransitionData). mark_fault mid.most_gap (end_of mid.log) l t.rev false) first.kept ∙ mark_fine mid.most_gap (end_of mid.log) old.kept t in
      let bad : None ≡ Some why = sym fine ∙ heard.0 in
      absurd (cc)
  heard_both mid new (Err (Passed at)) none first heard = (none, some_both old t (above_end none) mid first new heard.1, heard.2, heard.3)
  heard_both mid new (Err Memory) none first heard = (none, some_both old t (above_end none) mid first new heard.1)
