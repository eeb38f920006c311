-- How a mirror begins, and begins anew over another connection.
use Rattle.std.specs.Prelude.{◌≡◌, ◌⊎◌, ℕ, List, [], Option, None, Result, Ok, Err}
use Rattle.line_stream.specs.Requests.{request_text}
use Rattle.line_stream.specs.declared.start.Start.TheVariants.{Revision}
use Rattle.line_stream.specs.Heads.{BeginsChunks, RefusesResponse, at_body}
use Rattle.line_stream.specs.Readers.{ReaderData, most_line}
use Rattle.line_stream.specs.declared.refusal.LineNo.{LineNo}
use Rattle.mirror_law.specs.Mirrors.{opened_log}
use Rattle.mirror_link.specs.Openings.{OpeningData}
use Rattle.mirror_link.specs.OpeningRefusals.{reading_refusal}
use Rattle.mirror_link.specs.declared.link_refusal.LinkNo.{LinkNo}
use Rattle.mirror_link.specs.declared.link_refusal.LinkNo.TheVariants.{WriteFault, Memory}
use Rattle.rev_log.specs.Logs.{end_of}
use Rattle.mirror_link.specs.Views.{MirrorData}

-- a mirror that begins with an opening: its rows at its base are the log, and nothing is kept
pub record IsBegun (opening : OpeningData) (m : MirrorData) : Type 0 where
  pub selection : m.selection ≡ opening.selection
  pub label : m.label ≡ opening.label
  pub field : m.field ≡ opening.field
  pub log : m.log ≡ opened_log opening.base opening.rows
  pub kept : m.kept ≡ []
  pub reading : m.reading ≡ opening.reading
  pub answer : m.answer ≡ None

-- what a mirror asks for when it goes on over another connection: a watch from the end of its log
abbrev pub resume_request : MirrorData → List ℕ
resume_request m = request_text m.selection.ns (Revision (end_of m.log)) m.label m.field

-- the bytes begin no chunked body, for this reason; or none was asked for, and nothing was taken
abbrev pub BeginsNone : List ℕ → Option (List ℕ) → LinkNo → Type 0
BeginsNone bytes left why =
    ((fault : LineNo) × (why ≡ reading_refusal fault) × RefusesResponse bytes left fault)
    ⊎ (((why ≡ WriteFault) ⊎ (why ≡ Memory)) × (bytes ≡ []))

-- what a mirror's reading is once it has asked: at the beginning of a chunked body, without a bound
abbrev pub Begins : List ℕ → Option (List ℕ) → Result (Unit {0}) LinkNo → ReaderData → Type 0
Begins bytes left (Ok u) reading = (after : List ℕ) × BeginsChunks bytes after × (reading ≡ at_body None most_line after)
Begins bytes left (Err why) reading = BeginsNone bytes left why
