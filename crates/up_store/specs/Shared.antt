-- The rows that a revision's changes make, as the tables of a store share them.
use Rattle.std.specs.Prelude.{ℕ, Option, option_map}
use Rattle.std.specs.Global.{Global}
use Rattle.std.specs.declared.sync.Arc.{Arc}
use Rattle.kube_meta.specs.Rows.{RowData}
use Rattle.rev_log.specs.Changes.{ChangeData}

-- the row behind a shared pointer, if there is one
abbrev pub shared_row : Option (Arc RowData Global) → Option RowData
shared_row shared = option_map (λ shown. shown.value) shared

-- the row that a change makes at a revision: the new object with that revision, or none
abbrev pub made_row : ℕ → ChangeData → Option RowData
made_row rev change = option_map (λ obj. record { obj = obj; rev = rev }) change.new
