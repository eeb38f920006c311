-- What contracts see of a mirror.
use Rattle.std.specs.Prelude.{◌≡◌, ℕ, ◌≤◌, List, Option, None, Result, IfSome}
use Rattle.kube_meta.specs.Names.{IsNamespace}
use Rattle.kube_meta.specs.declared.resources.Resource.TheVariants.{Pods}
use Rattle.line_stream.specs.Readers.{ReaderData, most_line}
use Rattle.rev_front.specs.Passes.{Pass}
use Rattle.rev_log.specs.Changes.{RevisionData}
use Rattle.rev_log.specs.Logs.{Log, grown}
use Rattle.select_all.specs.Reading.{IsRead}
use Rattle.select_all.specs.declared.selection.Selection.{Selection}
use Rattle.select_all.specs.Streams.{TransitionData}
use Rattle.mirror_link.specs.declared.link_refusal.LinkNo.{LinkNo}
use Rattle.mirror_log.specs.MirrorLogs.{MirrorLogData}
use Rattle.mirror_link.specs.declared.heard.Heard.{Heard}

-- the most revisions without a line before one
abbrev pub most_gap : ℕ
most_gap = 1000000

-- whose it is, how many revisions without a line may lie before one, the texts of its selectors, what its pass knows of
-- its store, its log, the lines of the revision behind the log's end, where the reading of the connection is, and the
-- answer that it gives again, if it has one
pub record MirrorData : Type 0 where
  pub selection : Selection
  pub most_gap : ℕ
  pub label : List ℕ
  pub field : List ℕ
  pub told : Pass RevisionData
  pub log : Log
  pub kept : List TransitionData
  pub reading : ReaderData
  pub answer : Option (Result Heard LinkNo)

-- What holds of each: it is of pods, and its selection is read from its texts; 1,000,000 revisions may lie before a line;
-- its log begins at a revision from 1 on; and its reading has no bound, but the limit of a line.
pub record IsMirror (m : MirrorData) : Type 0 where
  pub pods : m.selection.resource ≡ Pods
  pub gap : m.most_gap ≡ most_gap
  pub read : IsRead Pods m.selection.ns m.label m.field m.selection
  pub namespace : IfSome m.selection.ns IsNamespace
  pub some : 1 ≤ m.log.first
  pub unbound : m.reading.room ≡ None
  pub limit : m.reading.most ≡ most_line

-- its log, apart from the connection
abbrev pub log_part : MirrorData → MirrorLogData
log_part m = record { selection = m.selection; most_gap = m.most_gap; told = m.told; log = m.log; kept = m.kept }

-- what a call that heard leaves: the log grew, if it changed, and only what a line changes is another
pub record IsMoved (old new : MirrorData) : Type 0 where
  pub selection : new.selection ≡ old.selection
  pub most_gap : new.most_gap ≡ old.most_gap
  pub label : new.label ≡ old.label
  pub field : new.field ≡ old.field
  pub answer : new.answer ≡ old.answer
  pub more : List RevisionData
  pub log : new.log ≡ grown old.log more
