-- The first of rows that doesn't stand among old ones.
use Rattle.std.proofs.Common.{◌≡◌, ℕ, zero, suc, ◌+◌, ◌<◌, ◌≤◌, List, [], ◌∷◌, ◌++◌, length, take, drop, get_or, All, sym, ap, ◌∙◌, subst, arith}
use Rattle.std.proofs.lemmas.List.{take_more}
use Rattle.std.proofs.lemmas.List.Elements.{All-push}
use Rattle.kube_meta.specs.Rows.{RowData, key_of}
use Rattle.rev_log.specs.Logs.{end_of}
use Rattle.rev_log.specs.States.{IsStateAt}
use Rattle.mirror_log.specs.Bridges.{AreKept, IsFirstOther, IsKept}
use Rattle.mirror_log.specs.MirrorLogs.{MirrorLogData}
use Rattle.mirror_log.specs.Rebasing.{IsDifferentAt}

pub kept_more : (from : ℕ) (old rows : List RowData) (k : ℕ) (row : RowData) → k < length rows → row ≡ get_or rows k row → AreKept from old (take k rows) → (row.rev ≤ from → IsKept old row) → AreKept from old (take (k + 1) rows)
kept_more from old rows k row inside is before here =
    let next : take (k + 1) rows ≡ take k rows ++ row ∷ [] = take_more rows k row inside ∙ ap (λ r. take k rows ++ r ∷ []) (sym is) in
    subst (All (λ r. r.rev ≤ from → IsKept old r)) (sym next) (All-push (λ r. r.rev ≤ from → IsKept old r) (take k rows) row before here)

parted : (rows : List RowData) (k : ℕ) (row : RowData) → k < length rows → row ≡ get_or rows k row → rows ≡ take k rows ++ row ∷ drop (suc k) rows
parted [] k row inside is = absurd (omega (arith, inside))
parted (x ∷ rows) zero row inside is = ap (λ r. r ∷ rows) (sym is)
parted (x ∷ rows) (suc k) row inside is = ap (λ l. x ∷ l) (parted rows k row (omega (arith, inside)) is)

pub first_is : (from : ℕ) (old rows : List RowData) (k : ℕ) (row : RowData) → k < length rows → row ≡ get_or rows k row → AreKept from old (take k rows) → row.rev ≤ from → (IsKept old row → ⊥) → IsFirstOther from old rows row
first_is from old rows k row inside is before written differs =
    record { before = take k rows; behind = drop (suc k) rows; rows_are = parted rows k row inside is; same = before; written = written; differs = differs }

-- so the rows differ from those of a log's end at its key
pub found_other : (old : MirrorLogData) (rows state : List RowData) (to : ℕ) (row : RowData) (key : List ℕ) → IsStateAt old.log old.selection.resource (end_of old.log) state → to ≡ end_of old.log → IsFirstOther to state rows row → key ≡ key_of row
    → IsDifferentAt old rows key
found_other old rows state to row key is_state end first key_is =
    record { state = state; is_state = is_state; row = row; first = subst (λ (n : ℕ). IsFirstOther n state rows row) end first; key_is = key_is }
