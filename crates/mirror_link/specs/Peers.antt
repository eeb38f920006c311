-- What is taken of a mirror's peer.
use Rattle.std.specs.Prelude.{◌≡◌, ◌⊎◌, ℕ, List, IsTrue}
use Rattle.rev_log.specs.Logs.{Log, IsLog}
use Rattle.select_all.specs.declared.selection.Selection.{Selection}
use Rattle.watch_rules.specs.declared.ask.WatchAsk.{WatchAsk}
use Rattle.watch_rules.specs.declared.starts.Start.TheVariants.{FromRevision}
use Rattle.watch_rules.specs.Starts.{is_from_state}
use Rattle.watch_rules.specs.Bodies.{Line}
use Rattle.watch_lines.specs.Stored.{IsStored}
use Rattle.mirror_law.specs.Objects.{EachObject}
use Rattle.mirror_law.specs.Taking.{IsPastOpening}

-- The peer's log is one, and each of its objects of the selection's resource, base rows included, is one that may be
-- stored.
pub record IsPeer (peer : Log) (s : Selection) : Type 0 where
  pub log : IsLog peer
  pub stored : EachObject (IsStored s.resource) peer s.resource

-- A watch of the selection with bookmarks: from this revision, or from a state. Then a bookmark ends its initial
-- events, and stands among the lines.
pub record IsAskOf (s : Selection) (ask : WatchAsk) (from : ℕ) (lines : List Line) : Type 0 where
  pub selection : ask.selection ≡ s
  pub bookmarks : IsTrue ask.bookmarks
  pub start : (ask.start ≡ FromRevision from) ⊎ (IsTrue (is_from_state ask.start) × IsTrue ask.closing)
  pub past : IsPastOpening ask lines
