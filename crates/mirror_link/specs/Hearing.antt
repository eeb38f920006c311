-- What a mirror hears over its connection, and what that leaves of it.
use Rattle.std.specs.Prelude.{◌≡◌, ◌⊎◌, ℕ, ◌<◌, List, [], ◌∷◌, ◌++◌, Option, Some, None, Result, Ok, Err, IfOk}
use Rattle.kube_meta.specs.declared.resources.Resource.TheVariants.{Pods}
use Rattle.meta_view.specs.declared.form.Form.TheVariants.{Whole}
use Rattle.rev_log.specs.Logs.{Log, end_of}
use Rattle.watch_rules.specs.declared.ask.WatchAsk.{WatchAsk}
use Rattle.watch_rules.specs.Bodies.{Line, BeginsBody}
use Rattle.watch_lines.specs.Texts.{line_text}
use Rattle.line_stream.specs.Readers.{GoesOn, ReadsText}
use Rattle.line_stream.specs.Answers.{Faults}
use Rattle.line_stream.specs.declared.refusal.LineNo.{LineNo}
use Rattle.line_stream.specs.declared.place.Place.TheVariants as place
use Rattle.watch_lines.specs.Laws.{as_read}
use Rattle.watch_lines.specs.Lines.{ReadsPeerLine}
use Rattle.watch_lines.specs.declared.peer_line.PeerLine.{PeerLine}
use Rattle.mirror_law.specs.Mirrors.{IsMirrorOf}
use Rattle.mirror_law.specs.Following.{Follows}
use Rattle.mirror_log.specs.MirrorLogs.{Takes, TakesSome, seen_to}
use Rattle.mirror_link.specs.OpeningRefusals.{reading_refusal}
use Rattle.mirror_link.specs.Peers.{IsPeer, IsAskOf}
use Rattle.mirror_link.specs.Lines.{line_fault}
use Rattle.mirror_link.specs.Views.{MirrorData, log_part}
use Rattle.mirror_link.specs.declared.heard.Heard.{Heard}
use Rattle.mirror_link.specs.declared.heard.Heard.TheVariants as heard
use Rattle.mirror_link.specs.declared.link_refusal.LinkNo.{LinkNo}
use Rattle.mirror_link.specs.declared.link_refusal.LinkNo.TheVariants as no

-- the mirror follows a peer's lines
abbrev pub FollowsIn : Log → ℕ → ℕ → List Line → MirrorData → Type 0
FollowsIn peer b from lines m = Follows peer m.selection b from lines m.log m.kept

-- ---- a line

-- A call read the text of a line. Whatever the peer's log and the lines before it, if the text is that of the next line
-- of a lawful body that the mirror follows, it is a mirror of the peer's log afterwards; and if it heard the line, it
-- follows.
pub record ReadsLine (old : MirrorData) (taken : List ℕ) (result : Result Heard LinkNo) (new : MirrorData) : Type 0 where
  pub text : List ℕ
  pub read : ReadsText old.reading (old.reading.kept ++ taken) text new.reading
  pub follows : (peer : Log) (ask : WatchAsk) (log_floor low b from : ℕ) (lines : List Line) (line : Line) →
      text ≡ line_text Whole Pods line → IsPeer peer old.selection → IsAskOf old.selection ask from lines → FollowsIn peer b from lines old →
      BeginsBody peer log_floor low ask from (lines ++ line ∷ []) →
      IsMirrorOf peer old.selection b new.log × IfOk result (λ heard. FollowsIn peer b from (lines ++ line ∷ []) new)

-- what was read is this line of a body, and nothing is wrong with it
pub record IsHeardAs (old : MirrorData) (text : List ℕ) (line : Line) : Type 0 where
  pub reads : ReadsPeerLine Pods text (Some (as_read line))
  pub no_fault : line_fault (log_part old) (Some (as_read line)) ≡ None

-- it was heard whole
pub record HearsLine (old : MirrorData) (taken : List ℕ) (to : ℕ) (new : MirrorData) : Type 0 where
  pub reads : ReadsLine old taken (Ok (heard.Line to)) new
  pub line : Line
  pub is : IsHeardAs old reads.text line
  pub takes : Takes (log_part old) line (log_part new)
  pub to_is : to ≡ end_of new.log

-- it was heard in part: some of what it commits is committed
pub record HearsSome (old : MirrorData) (taken : List ℕ) (why : LinkNo) (new : MirrorData) : Type 0 where
  pub reads : ReadsLine old taken (Err why) new
  pub line : Line
  pub is : IsHeardAs old reads.text line
  pub takes : TakesSome (log_part old) line (log_part new)

-- ---- a call

-- nothing of the log and of what is kept changed
abbrev pub Rests : MirrorData → MirrorData → Type 0
Rests old new = log_part new ≡ log_part old

-- the bytes have no line, for this reason
pub record HasNoLine (old : MirrorData) (taken : List ℕ) (left : Option (List ℕ)) (why : LinkNo) (new : MirrorData) : Type 0 where
  pub fault : LineNo
  pub why_is : why ≡ reading_refusal fault
  pub on : GoesOn old.reading (old.reading.kept ++ taken) new.reading
  pub faults : Faults new.reading left fault

-- a line was read, and this is wrong first with it
pub record HasBadLine (old : MirrorData) (taken : List ℕ) (why : LinkNo) (new : MirrorData) : Type 0 where
  pub text : List ℕ
  pub read : ReadsText old.reading (old.reading.kept ++ taken) text new.reading
  pub found : Option PeerLine
  pub reads : ReadsPeerLine Pods text found
  pub fault : line_fault (log_part old) found ≡ Some why

-- the line feed stands behind a whole line, but there was no memory for what it tells
pub record LacksMemory (old : MirrorData) (taken : List ℕ) (new : MirrorData) : Type 0 where
  pub text : List ℕ
  pub read : ReadsText old.reading (old.reading.kept ++ taken) text new.reading

-- the stream ended, behind whole lines
pub record HasEnded (old : MirrorData) (taken : List ℕ) (new : MirrorData) : Type 0 where
  pub on : GoesOn old.reading (old.reading.kept ++ taken) new.reading
  pub over : new.reading.place ≡ place.Over
  pub whole : new.reading.part ≡ []

-- what one call answers that took these bytes, and what it leaves
abbrev pub Hears : MirrorData → List ℕ → Option (List ℕ) → Result Heard LinkNo → MirrorData → Type 0
Hears old taken left (Ok (heard.Line to)) new = HearsLine old taken to new
Hears old taken left (Ok (heard.Ended to)) new = Rests old new × (to ≡ end_of new.log) × HasEnded old taken new
Hears old taken left (Err (no.Passed to at)) new =
    HearsSome old taken (no.Passed to at) new × (to ≡ end_of new.log) × (at ≡ seen_to (log_part new)) × (to < at)
Hears old taken left (Err no.BadHead) new = ⊥
Hears old taken left (Err (no.Refused code)) new = ⊥
Hears old taken left (Err no.WriteFault) new = ⊥
Hears old taken left (Err no.TooLong) new = ⊥
Hears old taken left (Err no.OtherLog) new = ⊥
Hears old taken left (Err no.Memory) new =
    (Rests old new × (HasNoLine old taken left no.Memory new ⊎ LacksMemory old taken new)) ⊎ HearsSome old taken no.Memory new
Hears old taken left (Err why) new = Rests old new × (HasNoLine old taken left why new ⊎ HasBadLine old taken why new)
