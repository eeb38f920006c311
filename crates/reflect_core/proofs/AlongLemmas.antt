-- A cache that takes in what polls give, while the pass beside it learns.
use Rattle.std.proofs.Common.{◌≡◌, ℕ, ◌≤◌, List, [], ◌∷◌, ◌++◌, Result, Ok, Err, append_assoc, append-nil, sym, ap, ◌∙◌, subst}
use Rattle.std.specs.Prelude.{IfOk, OnOk, OnErr}
use Rattle.kube_meta.specs.Rows.{RowData}
use Rattle.rev_front.specs.Passes.{Pass, end_from}
use Rattle.rev_log.specs.Changes.{RevisionData}
use Rattle.rev_log.specs.Logs.{Log, grown}
use Rattle.up_api.specs.Sections.{log_of, Learns}
use Rattle.up_api.proofs.SectionLemmas.{logs_grow_on}
use Rattle.reflect_core.specs.Along.{GoesTo, IsBuiltAnew, TakesIn, TakesInEach, TakesInPolls}
use Rattle.reflect_core.specs.declared.pump.Pumped.{Pumped}

grown_twice : (log : Log) (more further : List RevisionData) → grown (grown log more) further ≡ grown log (more ++ further)
grown_twice log more further = ap (λ (revisions : List RevisionData). record log { revisions = revisions }) (append_assoc log.revisions more further)

module _ {S : Type 0} (ends_at : S → ℕ) (goes_along : Log → S → S → Type 0) where
  step_later : (log longer : Log) (more : List RevisionData) (old new : S) → longer ≡ grown log more → TakesIn ends_at goes_along log old new → TakesIn ends_at goes_along longer old new
  step_later log longer more old new longer_is step = record {
    known = step.known;
    later = step.later ++ more;
    begins = longer_is ∙ ap (λ (l : Log). grown l more) step.begins ∙ grown_twice step.known step.later more;
    within = step.within;
    goes = step.goes;
  }

  each_later : (log longer : Log) (more : List RevisionData) → longer ≡ grown log more → (caches : List S) (old new : S) → TakesInEach ends_at goes_along log caches old new → TakesInEach ends_at goes_along longer caches old new
  each_later log longer more longer_is [] old new same = same
  each_later log longer more longer_is (last ∷ before) old new steps = (
    each_later log longer more longer_is before old last steps.0,
    step_later log longer more last new longer_is steps.1,
  )

  each_joined : (log : Log) (old mid : S) (first : List S) → TakesInEach ends_at goes_along log first old mid → (second : List S) (new : S) → TakesInEach ends_at goes_along log second mid new → TakesInPolls ends_at goes_along log old new
  each_joined log old mid first one [] new same = record { caches = first; each = subst (TakesInEach ends_at goes_along log first old) (sym same) one }
  each_joined log old mid first one (last ∷ before) new two =
      let most = each_joined log old mid first one before last two.0 in
      record { caches = last ∷ most.caches; each = (most.each, two.1) }

  -- all that was taken in is of the later log too
  pub taken_later : (base : List RowData) (p q : Pass RevisionData) (old new : S) → Learns p q → TakesInPolls ends_at goes_along (log_of base p) old new → TakesInPolls ends_at goes_along (log_of base q) old new
  taken_later base p q old new learns taken = record {
    caches = taken.caches;
    each = each_later (log_of base p) (log_of base q) learns.extends.seen_on.0 (logs_grow_on base p q learns.extends) taken.caches old new taken.each;
  }

  -- and one poll more, behind which the pass `r` is as it was, `q`
  pub taken_more : (base : List RowData) (p q r : Pass RevisionData) (old last new : S) → Learns p q → r ≡ q → TakesInPolls ends_at goes_along (log_of base p) old last →
      ends_at new ≤ end_from r.first r.seen → goes_along (log_of base q) last new → TakesInPolls ends_at goes_along (log_of base r) old new
  taken_more base p q r old last new learns same taken within goes =
      let before = taken_later base p q old last learns taken in
      subst (λ (z : Pass RevisionData). TakesInPolls ends_at goes_along (log_of base z) old new) (sym same)
      (record {
        caches = last ∷ before.caches;
        each = (
          before.each,
          record {
            known = log_of base q;
            later = [];
            begins = grown_none (log_of base q);
            within = subst (λ (z : Pass RevisionData). ends_at new ≤ end_from z.first z.seen) same within;
            goes = goes;
          },
        );
      })
    where
      grown_none : (log : Log) → log ≡ grown log []
      grown_none log = ap (λ (revisions : List RevisionData). record log { revisions = revisions }) (sym (append-nil log.revisions))

  -- what was taken in before a cut and behind it
  pub taken_again : (base : List RowData) (p q : Pass RevisionData) (old last new : S) → Learns p q → TakesInPolls ends_at goes_along (log_of base p) old last →
      TakesInPolls ends_at goes_along (log_of base q) last new → TakesInPolls ends_at goes_along (log_of base q) old new
  taken_again base p q old last new learns first second =
      let before = taken_later base p q old last learns first in
      each_joined (log_of base q) old last before.caches before.each second.caches new second.each

-- ---- of what a pump answers

module _ {S E : Type 0} (ends_at : S → ℕ) (goes_along : Log → S → S → Type 0) (begins_anew : S → S → Type 0) (base : List RowData) (result : Result Pumped E) (p q : Pass RevisionData) (old last new : S)
    (learns : Learns p q) (taken : TakesInPolls ends_at goes_along (log_of base p) old last) where
  -- what was taken in, and then the cache was built anew
  pub anew_along : (cuts : ℕ) → IfOk result (λ pumped. (pumped.cuts ≡ cuts) × (pumped.rebuilds ≡ 1)) → OnOk result (begins_anew last new) →
      IfOk result (λ pumped. GoesTo ends_at goes_along begins_anew (log_of base q) pumped.rebuilds old new)
  anew_along cuts answer begins = by_case result answer begins
    where
      by_case : (r : Result Pumped E) → IfOk r (λ pumped. (pumped.cuts ≡ cuts) × (pumped.rebuilds ≡ 1)) → OnOk r (begins_anew last new) →
          IfOk r (λ pumped. GoesTo ends_at goes_along begins_anew (log_of base q) pumped.rebuilds old new)
      by_case (Ok pumped) is anew = record {
        last = last;
        polls = taken_later ends_at goes_along base p q old last learns taken;
        anew = subst (λ (n : ℕ). IsBuiltAnew begins_anew n last new) (sym is.1) anew;
      }
      by_case (Err refusal) is anew = tt

  -- or there was no memory for that
  pub anew_partly : OnErr result (new ≡ last) → OnErr result (TakesInPolls ends_at goes_along (log_of base q) old new)
  anew_partly kept = by_case result kept
    where
      by_case : (r : Result Pumped E) → OnErr r (new ≡ last) → OnErr r (TakesInPolls ends_at goes_along (log_of base q) old new)
      by_case (Ok pumped) same = tt
      by_case (Err refusal) same = subst (TakesInPolls ends_at goes_along (log_of base q) old) (sym same) (taken_later ends_at goes_along base p q old last learns taken)

  -- what was taken in, and then the cache was pumped again
  pub again_along : IfOk result (λ pumped. GoesTo ends_at goes_along begins_anew (log_of base q) pumped.rebuilds last new) →
      IfOk result (λ pumped. GoesTo ends_at goes_along begins_anew (log_of base q) pumped.rebuilds old new)
  again_along along = by_case result along
    where
      by_case : (r : Result Pumped E) → IfOk r (λ pumped. GoesTo ends_at goes_along begins_anew (log_of base q) pumped.rebuilds last new) →
          IfOk r (λ pumped. GoesTo ends_at goes_along begins_anew (log_of base q) pumped.rebuilds old new)
      by_case (Ok pumped) more = record { last = more.last; polls = taken_again ends_at goes_along base p q old last more.last learns taken more.polls; anew = more.anew }
      by_case (Err refusal) more = tt

  pub again_partly : OnErr result (TakesInPolls ends_at goes_along (log_of base q) last new) → OnErr result (TakesInPolls ends_at goes_along (log_of base q) old new)
  again_partly along = by_case result along
    where
      by_case : (r : Result Pumped E) → OnErr r (TakesInPolls ends_at goes_along (log_of base q) last new) → OnErr r (TakesInPolls ends_at goes_along (log_of base q) old new)
      by_case (Ok pumped) more = tt
      by_case (Err refusal) more = taken_again ends_at goes_along base p q old last new learns taken more

-- the same of an answer, a pass and a cache by other names
module _ {S E : Type 0} (ends_at : S → ℕ) (goes_along : Log → S → S → Type 0) (begins_anew : S → S → Type 0) (base : List RowData) (result other : Result Pumped E) (p q : Pass RevisionData) (old new later : S)
    (same_result : result ≡ other) (same_pass : p ≡ q) (same_cache : new ≡ later) where
  pub along_as : IfOk other (λ pumped. GoesTo ends_at goes_along begins_anew (log_of base q) pumped.rebuilds old later) →
      IfOk result (λ pumped. GoesTo ends_at goes_along begins_anew (log_of base p) pumped.rebuilds old new)
  along_as along =
      subst (λ (z : Result Pumped E × Pass RevisionData × S). IfOk z.0 (λ pumped. GoesTo ends_at goes_along begins_anew (log_of base z.1) pumped.rebuilds old z.2))
      (λ i. (sym same_result i, sym same_pass i, sym same_cache i)) along

  pub partly_as : OnErr other (TakesInPolls ends_at goes_along (log_of base q) old later) → OnErr result (TakesInPolls ends_at goes_along (log_of base p) old new)
  partly_as along =
      subst (λ (z : Result Pumped E × Pass RevisionData × S). OnErr z.0 (TakesInPolls ends_at goes_along (log_of base z.1) old z.2))
      (λ i. (sym same_result i, sym same_pass i, sym same_cache i)) along
