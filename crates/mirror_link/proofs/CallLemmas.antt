-- What one call that heard leaves of a mirror.
use Rattle.std.proofs.Common.{◌≡◌, ℕ, List, ◌++◌, length, Option, None, Result, Ok, Err, refl, sym, subst, inl, inr}
use Rattle.std.specs.Prelude.{◌⊎◌}
use Rattle.line_stream.specs.Answers.{Faults}
use Rattle.line_stream.specs.Readers.{ReaderData, GoesOn, ReadsText, Spends}
use Rattle.line_stream.specs.declared.refusal.LineNo.{LineNo}
use Rattle.line_stream.specs.declared.refusal.LineNo.TheVariants as line
use Rattle.mirror_link.specs.Hearing.{Hears, HearsSome, HasBadLine, HasNoLine, LacksMemory, ReadsLine}
use Rattle.mirror_link.specs.Lines.{HearsRead, HearsText}
use Rattle.mirror_link.specs.Views.{MirrorData, IsMirror, IsMoved}
use Rattle.mirror_link.specs.declared.heard.Heard.{Heard}
use Rattle.mirror_link.specs.declared.heard.Heard.TheVariants as heard
use Rattle.mirror_link.proofs.HearLemmas.{hears_text, of_line}
use Rattle.mirror_link.proofs.LineLemmas.{stays}
use Rattle.mirror_link.proofs.AnswerLemmas.{quiet}
use Rattle.mirror_link.specs.Asking.{CountsReads}
use Rattle.mirror_link.specs.OpeningRefusals.{reading_refusal}
use Rattle.mirror_link.specs.declared.link_refusal.LinkNo.{LinkNo}
use Rattle.mirror_link.specs.declared.link_refusal.LinkNo.TheVariants as no
use Rattle.mirror_log.specs.MirrorLogs.{MirrorLogData}
use Rattle.watch_lines.specs.Laws.{LinesReadBack}

-- ---- a reading without a bound

spent_none : (old new : Option ℕ) (n : ℕ) → old ≡ None → Spends old n new → new ≡ None
spent_none old new n none spends = let spent : Spends None n new = subst (λ (room : Option ℕ). Spends room n new) none spends in spent

goes_unbound : (old new : ReaderData) (bytes : List ℕ) → old.room ≡ None → GoesOn old bytes new → new.room ≡ None
goes_unbound old new bytes none goes = spent_none old.room new.room (length goes.content) none goes.passes.room

-- ---- the fields as contracts see them

abbrev pub view : List ℕ → List ℕ → MirrorLogData → ReaderData → Option (Result Heard LinkNo) → MirrorData
view label field log reading answer =
    record { selection = log.selection; most_gap = log.most_gap; label = label; field = field; told = log.told; log = log.log; kept = log.kept; reading = reading; answer = answer }

module _ (label field : List ℕ) (log : MirrorLogData) (reading : ReaderData) (answer : Option (Result Heard LinkNo)) (old : MirrorData)
    (is : view label field log reading answer ≡ old) (mirror : IsMirror (view label field log reading answer)) where
  -- ---- where no line was read

  module _ (later : ReaderData) (taken : List ℕ) (goes : GoesOn reading (reading.kept ++ taken) later) where
    none_of : (left : Option (List ℕ)) (fault : LineNo) → Faults later left fault → HasNoLine (view label field log reading answer) taken left (reading_refusal fault) (view label field log later answer)
    none_of left fault faults = record { fault = fault; why_is = refl; on = goes; faults = faults }

    fault_of : (left : Option (List ℕ)) (fault : LineNo) → Faults later left fault → Hears (view label field log reading answer) taken left (Err (reading_refusal fault)) (view label field log later answer)
    fault_of left line.BadHead faults = absurd faults
    fault_of left (line.Refused code) faults = absurd faults
    fault_of left line.BadChunk faults = (refl, inl (none_of left line.BadChunk faults))
    fault_of left line.Overlong faults = (refl, inl (none_of left line.Overlong faults))
    fault_of left line.Unfinished faults = (refl, inl (none_of left line.Unfinished faults))
    fault_of left line.Spent faults = let none : later.room ≡ None = goes_unbound reading later (reading.kept ++ taken) mirror.unbound goes in absurd (cc (none, faults))
    fault_of left line.CutShort faults = (refl, inl (none_of left line.CutShort faults))
    fault_of left line.ReadFault faults = (refl, inl (none_of left line.ReadFault faults))
    fault_of left line.Memory faults = inl (refl, inl (none_of left line.Memory faults))

    -- no line stands in the bytes
    pub hears_none : (left : Option (List ℕ)) (fault : LineNo) (why : LinkNo) → why ≡ reading_refusal fault → Faults later left fault → Hears old taken left (Err why) (view label field log later answer)
    hears_none left fault why why_is faults =
        subst (λ (m : MirrorData). Hears m taken left (Err why) (view label field log later answer)) is
        (subst (λ (w : LinkNo). Hears (view label field log reading answer) taken left (Err w) (view label field log later answer)) (sym why_is) (fault_of left fault faults))

  -- ---- where one was

  module _ (back : LinesReadBack) (after : MirrorLogData) (later : ReaderData) (taken text : List ℕ) (read : ReadsText reading (reading.kept ++ taken) text later)
      (result : Result Heard LinkNo) (heard : HearsText log text result after) where
    pub line_moved : IsMoved old (view label field after later answer)
    line_moved =
        let on = stays log after text result heard in
        subst (λ (m : MirrorData). IsMoved m (view label field after later answer)) is
        (record { selection = on.selection; most_gap = on.most_gap; label = refl; field = refl; answer = refl; more = on.more; log = on.log })

    pub hears_line : (left : Option (List ℕ)) → Hears old taken left result (view label field after later answer)
    hears_line left =
        subst (λ (m : MirrorData). Hears m taken left result (view label field after later answer)) is
        (hears_text (view label field log reading answer) (view label field after later answer) text back mirror taken left read result heard)

-- ---- the counts

-- what is wrong with a line is no fault of the source
pub quiet_text : (old new : MirrorLogData) (text : List ℕ) (result : Result Heard LinkNo) (before after : ℕ) → HearsText old text result new → after ≡ before → CountsReads result before after
quiet_text old new text (Ok answer) before after heard same = same
quiet_text old new text (Err why) before after (inl memory) same = quiet Heard why before after (λ is. cc (memory.0, is)) same
quiet_text old new text (Err why) before after (inr (found, reads, heard)) same =
    quiet Heard why before after
    (λ is. let of : HearsRead old found (Err no.ReadFault) new = subst (λ (w : LinkNo). HearsRead old found (Err w) new) is heard in of_line old found no.ReadFault of.0) same

-- ---- the answer that is given again

-- it says nothing of what was heard
module _ (old new : MirrorData) (taken : List ℕ) (left : Option (List ℕ)) (again : Option (Result Heard LinkNo)) where
  abbrev answering : MirrorData
  answering = record new { answer = again }

  reads_again : (result : Result Heard LinkNo) → ReadsLine old taken result new → ReadsLine old taken result answering
  reads_again result reads = record { text = reads.text; read = reads.read; follows = reads.follows }

  some_again : (why : LinkNo) → HearsSome old taken why new → HearsSome old taken why answering
  unfolding reads_again
  some_again why some = record { reads = reads_again (Err why) some.reads; line = some.line; is = some.is; takes = some.takes }

  none_again : (why : LinkNo) → HasNoLine old taken left why new → HasNoLine old taken left why answering
  none_again why none = record { fault = none.fault; why_is = none.why_is; on = none.on; faults = none.faults }

  bad_again : (why : LinkNo) → HasBadLine old taken why new → HasBadLine old taken why answering
  bad_again why bad = record { text = bad.text; read = bad.read; found = bad.found; reads = bad.reads; fault = bad.fault }

  either_again : (why : LinkNo) → (HasNoLine old taken left why new ⊎ HasBadLine old taken why new) → (HasNoLine old taken left why answering ⊎ HasBadLine old taken why answering)
  either_again why (inl none) = inl (none_again why none)
  either_again why (inr bad) = inr (bad_again why bad)

  memory_again : (HasNoLine old taken left no.Memory new ⊎ LacksMemory old taken new) → (HasNoLine old taken left no.Memory answering ⊎ LacksMemory old taken answering)
  memory_again (inl none) = inl (none_again no.Memory none)
  memory_again (inr lacks) = inr (record { text = lacks.text; read = lacks.read })

  pub heard_again : (result : Result Heard LinkNo) → Hears old taken left result new → Hears old taken left result answering
  unfolding reads_again
  heard_again (Ok (heard.Line to)) h = record { reads = reads_again (Ok (heard.Line to)) h.reads; line = h.line; is = h.is; takes = h.takes; to_is = h.to_is }
  heard_again (Ok (heard.Ended to)) (same, to_is, ended) = (same, to_is, record { on = ended.on; over = ended.over; whole = ended.whole })
  heard_again (Err (no.Passed to at)) (some, to_is, at_is, above) = (some_again (no.Passed to at) some, to_is, at_is, above)
  heard_again (Err no.BadHead) h = h
  heard_again (Err (no.Refused code)) h = h
  heard_again (Err no.WriteFault) h = h
  heard_again (Err no.TooLong) h = h
  heard_again (Err no.Memory) (inl (same, either)) = inl (same, memory_again either)
  heard_again (Err no.Memory) (inr some) = inr (some_again no.Memory some)
  heard_again (Err no.OtherLog) h = h
  heard_again (Err why) h = (h.0, either_again why h.1)
