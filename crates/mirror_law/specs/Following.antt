-- How a mirror stands to the lines that it has heard of its peer's watch stream.
use Rattle.std.specs.Prelude.{◌≡◌, ℕ, ◌+◌, ◌-◌, ◌<◌, ◌≤◌, max, nat_lt, List, [], ◌∷◌, ◌++◌, filter, fold, All}
use Rattle.rev_log.specs.Logs.{Log, end_of}
use Rattle.select_all.specs.declared.selection.Selection.{Selection}
use Rattle.select_all.specs.Streams.{TransitionData, transitions}
use Rattle.watch_rules.specs.Bodies.{Line, Told, Bookmark, Closing, Lost, told_in}
use Rattle.mirror_law.specs.Mirrors.{IsMirrorOf, of_revision}

-- ---- what lines tell

-- what was told over a connection of revisions above the one where it began; initial events are older
abbrev pub told_since : ℕ → List Line → List TransitionData
told_since from lines = filter (λ t. nat_lt from t.rev) (told_in lines)

-- the revision up to which a line says that all was told: for an event, the one before its own, of which more may come
abbrev pub upto_of : Line → ℕ
upto_of (Told t) = t.rev - 1
upto_of (Bookmark at) = at
upto_of (Closing at) = at
upto_of (Lost at floor) = at

-- and the one up to which the lines of a connection say so, which began at a revision
abbrev pub upto_in : ℕ → List Line → ℕ
upto_in from lines = fold (λ at line. max at (upto_of line)) from lines

-- a line that moves a mirror with this end: an event above it, or a bookmark that isn't below it
abbrev pub MovesOn : ℕ → Line → Type 0
MovesOn end (Told t) = end < t.rev
MovesOn end (Bookmark at) = end ≤ at
MovesOn end (Closing at) = ⊥
MovesOn end (Lost at floor) = ⊥

-- ---- following

-- what is kept of the revision behind a mirror's end, once it has taken a line: an event, behind those of its own
-- revision; after a bookmark nothing
abbrev pub kept_after : List TransitionData → Line → List TransitionData
kept_after kept (Told t) = of_revision t.rev kept ++ t ∷ []
kept_after kept (Bookmark at) = []
kept_after kept (Closing at) = []
kept_after kept (Lost at floor) = []

-- The log m is a mirror of the peer's up to where the lines of this connection, which began at `from`, say that all was
-- told; and what was told of the next revision is kept.
pub record Follows (peer : Log) (s : Selection) (b from : ℕ) (lines : List Line) (m : Log) (kept : List TransitionData) : Type 0 where
  pub mirrors : IsMirrorOf peer s b m
  pub begun : b ≤ from
  pub reached : end_of m ≡ upto_in from lines
  pub told : told_since from lines ≡ transitions peer s from (end_of m) ++ kept
  pub next : All (λ t. t.rev ≡ end_of m + 1) kept
