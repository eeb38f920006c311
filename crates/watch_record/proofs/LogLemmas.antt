-- A log, as its lines are read one by one.
use Rattle.std.proofs.Common.{◌≡◌, ℕ, zero, suc, ◌+◌, ◌<◌, ◌≤◌, ◌^◌, Bool, true, false, List, [], ◌∷◌, ◌++◌, Option, Some, None, option_map, IfSome, length, All, refl, sym, ap, ◌∙◌, subst, arith, append_assoc, append-nil}
use Rattle.std.specs.Prelude.{◌==◌, slice_get, if◌then◌else◌}
use Rattle.std.proofs.lemmas.Bool.{eqb-true}
use Rattle.std.proofs.lemmas.List.{length_push}
use Rattle.std.proofs.lemmas.List.Elements.{All-cons, All-append}
use Rattle.std.proofs.lemmas.Option.{none-some, same_Some}
use Rattle.rev_front.specs.Passes.{FitFrom}
use Rattle.rev_log.specs.Changes.{RevisionData, IsRevision}
use Rattle.rev_log.specs.Logs.{Fits}
use Rattle.watch_record.specs.Lines.{Parts, with_line, parts_of}
use Rattle.watch_record.specs.Revisions.{tells_revision, bad_place, IsRecordedRevision, AreRevisionsOf}
use Rattle.watch_record.specs.Reading.{IsKept, KeepsLog, ReadsLog}

abbrev pub with_lines : List (List ℕ) → Parts → Parts
with_lines front parts = record parts { log = front ++ parts.log }

-- the first lines are read; `left` are those behind them
pub record HasLog (first : ℕ) (lines : List (List ℕ)) (log : List RevisionData) (left : List (List ℕ)) : Type 0 where
  pub front : List (List ℕ)
  pub parts : parts_of lines ≡ option_map (with_lines front) (parts_of left)
  pub size : length log ≡ length front
  pub good : (more : List (List ℕ)) → bad_place (first + 1) (front ++ more) ≡ option_map (λ n. length front + n) (bad_place (first + 1 + length front) more)
  pub log_is : AreRevisionsOf (first + 1) front log
  pub forms : All IsRevision log
  pub some_changes : All (λ revision. 0 < length revision.changes) log
  pub ends : first + length log ≤ 2 ^ 62

pub has_log-none : (first : ℕ) (lines : List (List ℕ)) → first ≤ 2 ^ 62 → HasLog first lines [] lines
has_log-none first lines within = record {
  front = [];
  parts = itself (parts_of lines);
  size = refl;
  good = λ more. plain (bad_place (first + 1) more) ∙ ap (λ n. option_map (λ m. 0 + m) (bad_place n more)) from;
  log_is = tt;
  forms = λ k d past. absurd (omega arith);
  some_changes = λ k d past. absurd (omega arith);
  ends = omega arith;
}
  where
    itself : (found : Option Parts) → found ≡ option_map (with_lines []) found
    itself None = refl
    itself (Some parts) = refl

    plain : (found : Option ℕ) → found ≡ option_map (λ n. 0 + n) found
    plain None = refl
    plain (Some n) = let same : n ≡ 0 + n = omega arith in ap Some same

    from : first + 1 ≡ first + 1 + 0
    from = omega arith

-- ---- one line on

parts-on : (front : List (List ℕ)) (line : List ℕ) (found : Option Parts)
    → option_map (with_lines front) (option_map (with_line line) found) ≡ option_map (with_lines (front ++ line ∷ [])) found
parts-on front line None = refl
parts-on front line (Some parts) = ap (λ l. Some (record parts { log = l })) (sym (append_assoc front (line ∷ []) parts.log))

parts-line : (line : List ℕ) (lines : List (List ℕ)) → 0 < length line → parts_of (line ∷ lines) ≡ option_map (with_line line) (parts_of lines)
parts-line [] lines some = absurd (omega arith)
parts-line (b ∷ line) lines some = refl

counted-on : (n : ℕ) (found : Option ℕ) → option_map (λ m. n + m) (option_map suc found) ≡ option_map (λ m. (n + 1) + m) found
counted-on n None = refl
counted-on n (Some m) = let same : n + suc m ≡ (n + 1) + m = omega arith in ap Some same

bad-good : (rev : ℕ) (line : List ℕ) (lines : List (List ℕ)) → tells_revision rev line ≡ true → bad_place rev (line ∷ lines) ≡ option_map suc (bad_place (rev + 1) lines)
bad-good rev line lines is = ap (λ b. if b then option_map suc (bad_place (rev + 1) lines) else Some 0) is

revisions-push : (rev : ℕ) (lines : List (List ℕ)) (log : List RevisionData) (line : List ℕ) (revision : RevisionData) → AreRevisionsOf rev lines log
    → IsRecordedRevision (rev + length lines) line revision → AreRevisionsOf rev (lines ++ line ∷ []) (log ++ revision ∷ [])
revisions-push rev [] [] line revision are is = let same : rev + 0 ≡ rev = omega arith in (subst (λ n. IsRecordedRevision n line revision) same is, tt)
revisions-push rev [] (r ∷ log) line revision are is = absurd are
revisions-push rev (l ∷ lines) [] line revision are is = absurd are
revisions-push rev (l ∷ lines) (r ∷ log) line revision are is =
    let same : rev + suc (length lines) ≡ (rev + 1) + length lines = omega arith in
    (are.0, revisions-push (rev + 1) lines log line revision are.1 (subst (λ n. IsRecordedRevision n line revision) same is))

All-push : (P : RevisionData → Type 0) (log : List RevisionData) (revision : RevisionData) → All P log → P revision → All P (log ++ revision ∷ [])
All-push P log revision all is = All-append P log (revision ∷ []) all (All-cons P revision [] is (λ k d past. absurd (omega arith)))

pub has_log-more : (first : ℕ) (lines : List (List ℕ)) (log : List RevisionData) (left more : List (List ℕ)) (line : List ℕ) (rev : ℕ) (revision : RevisionData)
    → HasLog first lines log left → left ≡ line ∷ more → 0 < length line → rev ≡ first + 1 + length log
    → tells_revision rev line ≡ true → IsRecordedRevision rev line revision → IsKept rev revision → HasLog first lines (log ++ revision ∷ []) more
has_log-more first lines log left more line rev revision so_far is some at next told kept =
    let front = so_far.front in
    let size : length (front ++ line ∷ []) ≡ length front + 1 = length_push front line in
    let size_of_log : length (log ++ revision ∷ []) ≡ length log + 1 = length_push log revision in
    let placed : rev ≡ (first + 1) + length front = omega (arith, so_far.size, at) in
    record {
      front = front ++ line ∷ [];
      parts =
          so_far.parts ∙ ap (λ l. option_map (with_lines front) (parts_of l)) is ∙ ap (option_map (with_lines front)) (parts-line line more some)
          ∙ parts-on front line (parts_of more);
      size = omega (arith, size, size_of_log, so_far.size);
      good = λ rest. good_on rest placed size;
      log_is = revisions-push (first + 1) front log line revision so_far.log_is (subst (λ n. IsRecordedRevision n line revision) placed told);
      forms = All-push IsRevision log revision so_far.forms kept.form;
      some_changes = All-push (λ r. 0 < length r.changes) log revision so_far.some_changes kept.some_changes;
      ends = omega (arith, size_of_log, at, kept.within);
    }
  where
    good_on : (rest : List (List ℕ)) → rev ≡ (first + 1) + length so_far.front → length (so_far.front ++ line ∷ []) ≡ length so_far.front + 1
        → bad_place (first + 1) ((so_far.front ++ line ∷ []) ++ rest)
        ≡ option_map (λ n. length (so_far.front ++ line ∷ []) + n) (bad_place (first + 1 + length (so_far.front ++ line ∷ [])) rest)
    good_on rest placed size =
        let front = so_far.front in
        let onward : ((first + 1) + length front) + 1 ≡ first + 1 + (length front + 1) = omega arith in
        let next_there : tells_revision ((first + 1) + length front) line ≡ true = subst (λ n. tells_revision n line ≡ true) placed next in
        ap (bad_place (first + 1)) (append_assoc front (line ∷ []) rest)
        ∙ so_far.good (line ∷ rest)
        ∙ ap (option_map (λ n. length front + n)) (bad-good ((first + 1) + length front) line rest next_there)
        ∙ counted-on (length front) (bad_place (((first + 1) + length front) + 1) rest)
        ∙ ap (λ n. option_map (λ m. (length front + 1) + m) (bad_place n rest)) onward
        ∙ ap (λ k. option_map (λ m. k + m) (bad_place (first + 1 + k) rest)) (sym size)

-- ---- the ends

fit-from : (first rev : ℕ) (lines : List (List ℕ)) (log : List RevisionData) → rev ≡ first + 1 → AreRevisionsOf rev lines log → All IsRevision log → FitFrom Fits first log
fit-from first rev [] [] at are forms = λ i r here. absurd (none-some r here)
fit-from first rev [] (r ∷ log) at are forms = absurd are
fit-from first rev (l ∷ lines) [] at are forms = absurd are
fit-from first rev (l ∷ lines) (r ∷ log) at are forms =
    placed (fit-from (first + 1) (rev + 1) lines log (ap (λ n. n + 1) at) are.1 (λ k d inside. forms (suc k) d (omega arith)))
  where
    placed : FitFrom Fits (first + 1) log → (i : ℕ) (e : RevisionData) → slice_get (r ∷ log) i ≡ Some e → Fits (first + 1 + i) e
    placed later zero e here =
        let same : r ≡ e = same_Some r e here in
        let number : rev ≡ first + 1 + 0 = omega (arith, at) in
        subst (Fits (first + 1 + 0)) same (are.0.rev_is ∙ number, forms 0 r (omega arith))
    placed later (suc i) e here =
        let number : first + 1 + 1 + i ≡ first + 1 + suc i = omega arith in
        subst (λ n. Fits n e) number (later i e here)

pub keeps-log : (first : ℕ) (lines : List (List ℕ)) (log : List RevisionData) (left : List (List ℕ)) → HasLog first lines log left → KeepsLog first log
keeps-log first lines log left so_far = record {
  fitting = fit-from first (first + 1) so_far.front log refl so_far.log_is so_far.forms;
  some_changes = so_far.some_changes;
  ends = so_far.ends;
}

abbrev IsWhole : ℕ → List RevisionData → List (List ℕ) → Option Parts → Type 0
IsWhole first log body found = IfSome found (λ (parts : Parts). ReadsLog first parts.log log × (body ≡ parts.body))

pub has_log-all : (first : ℕ) (lines : List (List ℕ)) (log : List RevisionData) (left more : List (List ℕ)) (line : List ℕ)
    → HasLog first lines log left → left ≡ line ∷ more → length line ≡ 0 → IsWhole first log more (parts_of lines)
has_log-all first lines log left more [] so_far is none =
    let found : parts_of lines ≡ Some (record { log = so_far.front ++ []; body = more }) = so_far.parts ∙ ap (λ l. option_map (with_lines so_far.front) (parts_of l)) is in
    subst (IsWhole first log more) (sym found) (
      record {
        good = so_far.good [];
        log_is = subst (λ l. AreRevisionsOf (first + 1) l log) (sym (append-nil so_far.front)) so_far.log_is;
      },
      refl,
    )
has_log-all first lines log left more (b ∷ line) so_far is none = absurd (omega arith)

-- ---- tests of emptiness

pub nonempty : (line : List ℕ) (b : Bool) → b ≡ (length line == 0) → b ≡ false → 0 < length line
nonempty [] b is no_byte = absurd (cc)
nonempty (x ∷ line) b is no_byte = omega arith

pub empty : (line : List ℕ) (b : Bool) → b ≡ (length line == 0) → b ≡ true → length line ≡ 0
empty line b is none = eqb-true (length line) 0 (sym is ∙ none)
