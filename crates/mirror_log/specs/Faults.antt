-- What is wrong with a line that a mirror is told, in the order in which it is tested.
use Rattle.std.specs.Prelude.{ℕ, ◌+◌, Bool, not, ◌&&◌, ◌||◌, nat_le, nat_lt, nat_eq, List, [], ◌∷◌, length, filter, Option, Some, None, is_some, if◌then◌else◌}
use Rattle.std.specs.List.{list_any}
use Rattle.rev_log.specs.Logs.{Log, end_of}
use Rattle.select_all.specs.declared.selection.Selection.{Selection}
use Rattle.select_all.specs.Selecting.{selects}
use Rattle.select_all.specs.Streams.{TransitionData}
use Rattle.mirror_law.specs.Taking.{row_before}
use Rattle.mirror_log.specs.Intakes.{most_kept, fits_kind, is_of}
use Rattle.mirror_log.specs.declared.take_refusal.TakeNo.{TakeNo}
use Rattle.mirror_log.specs.declared.take_refusal.TakeNo.TheVariants.{BadLine, Order, Gap}

-- the last revision that was told: that of the lines that are kept, or the end
abbrev pub last_of : ℕ → List TransitionData → ℕ
last_of to [] = to
last_of to (t ∷ kept) = t.rev

-- so many lines of this revision are kept that one more is too many
abbrev pub is_full_at : List TransitionData → ℕ → Bool
is_full_at kept rev = nat_le most_kept (length (filter (λ t. nat_eq t.rev rev) kept))

-- a line of this revision that is kept tells of the object with this key
abbrev pub is_repeated : List TransitionData → ℕ → List ℕ → Bool
is_repeated kept rev key = list_any (λ t. nat_eq t.rev rev && is_of key t) kept

-- What is wrong first with an event, if anything: its object isn't selected; its kind disagrees with what stands before
-- it; it is one line too many of its revision; it is of a revision that is committed, or repeats a key of one that is
-- kept; more revisions than are allowed lie between it and the last.
abbrev pub event_fault : Selection → ℕ → Log → List TransitionData → TransitionData → Option TakeNo
event_fault s most_gap m kept t =
    if not (selects s t.obj) then Some BadLine
    else if not (fits_kind t.kind (is_some (row_before m s.resource kept t.rev t.obj.key))) then Some BadLine
    else if is_full_at kept t.rev then Some BadLine
    else if nat_le t.rev (end_of m) || is_repeated kept t.rev t.obj.key then Some (Order (last_of (end_of m) kept) t.rev)
    else if nat_lt (last_of (end_of m) kept + most_gap) t.rev then Some (Gap (last_of (end_of m) kept) t.rev)
    else None

-- What is wrong first with a bookmark: it closes an opening, which is over; it is below what was told; more revisions than
-- are allowed lie between.
abbrev pub mark_fault : ℕ → ℕ → List TransitionData → ℕ → Bool → Option TakeNo
mark_fault most_gap to kept at closing =
    if closing then Some BadLine
    else if nat_lt at (last_of to kept) then Some BadLine
    else if nat_lt (last_of to kept + most_gap) at then Some (Gap (last_of to kept) at)
    else None
