-- Lists above where a body has come: which may follow what stands, and what then lies between.
use Rattle.std.specs.Prelude.{◌≡◌, ◌↔◌, ℕ, ◌^◌, ◌≤◌, IsTrue, List, All}
use Rattle.kube_meta.specs.declared.resources.Resource.TheVariants.{Pods}
use Rattle.kube_meta.specs.Rows.{RowData, AreRising}
use Rattle.rev_log.specs.Changes.{RevisionData}
use Rattle.rev_log.specs.Logs.{Log, IsLog, grown, end_of}
use Rattle.rev_log.specs.States.{IsStateAt}
use Rattle.select_all.specs.declared.selection.Selection.{Selection}
use Rattle.select_all.specs.Selecting.{selects}
use Rattle.select_all.specs.Listings.{IsListing}
use Rattle.mirror_log.specs.Bridges.{MayBeOfOneLog, Bridges}
use Rattle.body_check.specs.Turns.{MayStand}

-- two lists that a log has
abbrev pub ListsMayFollow : Type 0
ListsMayFollow =
    (s : Selection) (peer : Log) (a c : ℕ) (old rows : List RowData) → IsLog peer → peer.first ≤ a → a ≤ c → IsListing peer s a old → IsListing peer s c rows →
    MayStand s c rows × MayBeOfOneLog a old c rows

-- The log grows up to a revision at which the rows stand.
pub record LeadsUp (s : Selection) (m : Log) (at : ℕ) (rows : List RowData) (more : List RevisionData) : Type 0 where
  pub log : IsLog (grown m more)
  pub end : end_of (grown m more) ≡ at
  pub state : IsStateAt (grown m more) s.resource at rows
  pub listing : IsListing (grown m more) s at rows

-- revisions that bridge lists of pods do so for each resource
abbrev pub BridgesLead : Type 0
BridgesLead =
    (s : Selection) (m : Log) (old : List RowData) (at : ℕ) (rows : List RowData) (revisions : List RevisionData) → IsLog m → IsStateAt m s.resource (end_of m) old →
    end_of m ≤ at → at ≤ 2 ^ 62 → MayStand s at rows → Bridges Pods (end_of m) old at rows revisions → (more : List RevisionData) × LeadsUp s m at rows more
