-- What a caller makes of a turn.
use Rattle.std.specs.Prelude.{◌≡◌, ℕ, List, Option, Some}
use Rattle.kube_meta.specs.Rows.{RowData}
use Rattle.rev_front.specs.Passes.{Pass}
use Rattle.rev_log.specs.Changes.{RevisionData}
use Rattle.client_api.specs.declared.calling.Turned.{Turned}
use Rattle.client_api.specs.declared.calling.Turned.TheVariants.{Late, Stopped, Took}
use Rattle.client_api.specs.Facts.{Watched}
use Rattle.client_api.specs.Turns.{IsWatchTurn, watch_after}

-- where the watch wasn't asked, nothing more is known
abbrev pub IsTurned : List RowData → ℕ → Pass RevisionData → Watched → Pass RevisionData → Turned → Type 0
IsTurned base window p watched q Late = q ≡ p
IsTurned base window p watched q Stopped = q ≡ p
IsTurned base window p watched q (Took took) = IsWatchTurn base window p watched took q

-- the watch stands where it stood, or where what was taken leaves it
abbrev pub StandsAfter : Watched → Option Watched → Turned → Type 0
StandsAfter watched watching Late = watching ≡ Some watched
StandsAfter watched watching Stopped = watching ≡ Some watched
StandsAfter watched watching (Took took) = watching ≡ watch_after took watched
