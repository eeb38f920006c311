-- How a mirror begins anew: from an opening of its peer that is not behind its own end.
use Rattle.std.specs.Prelude.{◌≡◌, ◌⊎◌, ℕ, List, [], Option, Result, Ok, Err}
use Rattle.line_stream.specs.Requests.{request_text}
use Rattle.line_stream.specs.declared.start.Start.TheVariants.{State}
use Rattle.kube_meta.specs.declared.resources.Resource.TheVariants.{Pods}
use Rattle.rev_log.specs.Changes.{RevisionData}
use Rattle.rev_log.specs.Logs.{Log, end_of, grown}
use Rattle.rev_log.specs.States.{IsStateAt}
use Rattle.watch_rules.specs.declared.ask.WatchAsk.{WatchAsk}
use Rattle.watch_rules.specs.Bodies.{BeginsBody}
use Rattle.mirror_log.specs.Rebasing.{Rebases}
use Rattle.mirror_log.specs.declared.refusal.RebaseNo.{RebaseNo}
use Rattle.mirror_link.specs.Openings.{OpeningData, IsOpeningOf, opened_lines}
use Rattle.mirror_link.specs.Reading.{HasOpening, HasNoOpening}
use Rattle.mirror_link.specs.declared.link_refusal.LinkNo.{LinkNo}
use Rattle.mirror_link.specs.Hearing.{FollowsIn}
use Rattle.mirror_link.specs.Peers.{IsPeer, IsAskOf}
use Rattle.mirror_link.specs.Refusals.{rebasing_refusal}
use Rattle.mirror_link.specs.Views.{MirrorData, log_part}

-- what a mirror asks for when it begins anew: a watch from its peer's state
abbrev pub opening_request : MirrorData → List ℕ
opening_request m = request_text m.selection.ns State m.label m.field

-- its selection and its texts stay
pub record IsOfSame (old new : MirrorData) : Type 0 where
  pub selection : new.selection ≡ old.selection
  pub label : new.label ≡ old.label
  pub field : new.field ≡ old.field

-- It goes on from an opening. Its log grew up to the opening's base, where it has the opening's rows; its store serves
-- nothing below; nothing is kept; its reading is the opening's. Whatever the peer's log, it follows the opening's lines.
pub record IsAnew (old : MirrorData) (opening : OpeningData) (new : MirrorData) : Type 0 where
  pub same : IsOfSame old new
  pub more : List RevisionData
  pub log : new.log ≡ grown old.log more
  pub base : end_of new.log ≡ opening.base
  pub state : IsStateAt new.log Pods opening.base opening.rows
  pub floor : new.told.floor ≡ opening.base
  pub kept : new.kept ≡ []
  pub reading : new.reading ≡ opening.reading
  pub follows : (peer : Log) (ask : WatchAsk) (log_floor low : ℕ) → IsPeer peer old.selection → IsAskOf old.selection ask opening.base (opened_lines opening) →
      BeginsBody peer log_floor low ask opening.base (opened_lines opening) → FollowsIn peer opening.base opening.base (opened_lines opening) new

-- its log, what is kept and its reading stay as they were
pub record IsAsBefore (old new : MirrorData) : Type 0 where
  pub same : IsOfSame old new
  pub log : new.log ≡ old.log
  pub kept : new.kept ≡ old.kept
  pub reading : new.reading ≡ old.reading

-- its log isn't taken to an opening, for this reason
abbrev pub IsNotTaken : MirrorData → OpeningData → LinkNo → MirrorData → Type 0
IsNotTaken old opening why new =
    (fault : RebaseNo) × (why ≡ rebasing_refusal (end_of old.log) fault)
    × Rebases (log_part old) opening.rows opening.base (Err fault) (log_part new)

-- what a mirror makes of an opening of its selection
abbrev pub TakesOpening : MirrorData → OpeningData → Result (Unit {0}) LinkNo → MirrorData → Type 0
TakesOpening old opening (Ok u) new = IsAnew old opening new
TakesOpening old opening (Err why) new = IsAsBefore old new × IsNotTaken old opening why new

-- the bytes have an opening of its selection, of which it makes this
pub record HasTaken (old : MirrorData) (taken : List ℕ) (result : Result (Unit {0}) LinkNo) (new : MirrorData) : Type 0 where
  pub opening : OpeningData
  pub selection : opening.selection ≡ old.selection
  pub lawful : IsOpeningOf opening
  pub has : HasOpening taken opening
  pub takes : TakesOpening old opening result new

-- they have none, for this reason
pub record HasNone (old : MirrorData) (taken : List ℕ) (left : Option (List ℕ)) (why : LinkNo) (new : MirrorData) : Type 0 where
  pub fault : HasNoOpening old.selection taken left why
  pub before : IsAsBefore old new

-- what one call answers that asked to begin anew and took these bytes, and what it leaves
abbrev pub Reopens : MirrorData → List ℕ → Option (List ℕ) → Result (Unit {0}) LinkNo → MirrorData → Type 0
Reopens old taken left (Ok u) new = HasTaken old taken (Ok u) new
Reopens old taken left (Err why) new = HasTaken old taken (Err why) new ⊎ HasNone old taken left why new
