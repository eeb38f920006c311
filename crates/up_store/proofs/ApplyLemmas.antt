-- What a revision leaves of each resource's rows, made resource by resource.
use Rattle.std.proofs.Common.{List, ap, arith, fold, length, sym, ◌∙◌}
use Rattle.kube_meta.specs.Rows.{RowData, row_with}
use Rattle.kube_meta.specs.declared.resources.Resource.{Resource}
use Rattle.kube_meta.specs.declared.resources.Resource.TheVariants.{Pods, ConfigMaps, Deployments}
use Rattle.rev_log.specs.Changes.{RevisionData}
use Rattle.rev_log.specs.States.{row_next, row_after}
use Rattle.rev_log.proofs.MapLemmas.{take_all}
use Rattle.up_store.specs.Kept.{AreStepped, ArePartlyMade, HaveMade, HaveBegun}
use Rattle.up_store.specs.declared.tables.Tables.{Tables}
use Rattle.up_store.proofs.StepLemmas.{stepped-none}

abbrev Made : Resource → RevisionData → List RowData → List RowData → Type 0
Made resource revision old new = AreStepped old new (λ key row. row_next resource key row revision)

-- nothing of it is made, or all
pub none : (resource : Resource) (revision : RevisionData) (rows : List RowData) → ArePartlyMade resource revision rows rows
none resource revision rows = (0, stepped-none (λ key. row_after resource key revision.rev) rows revision.changes)

pub all : (resource : Resource) (revision : RevisionData) (old new : List RowData) → Made resource revision old new → ArePartlyMade resource revision old new
all resource revision old new made = (
  length revision.changes,
  record {
    rising = made.rising;
    reads = λ key. made.reads key ∙ ap (fold (row_after resource key revision.rev) (row_with old key)) (sym (take_all revision.changes (length revision.changes) (omega arith)));
  },
)

pub begun : (revision : RevisionData) (old : Tables) (pods config_maps deployments : List RowData) → ArePartlyMade Pods revision old.pods pods →
    ArePartlyMade ConfigMaps revision old.config_maps config_maps → ArePartlyMade Deployments revision old.deployments deployments →
    HaveBegun revision old (record { pods = pods; config_maps = config_maps; deployments = deployments })
begun revision old pods config_maps deployments first second third Pods = first
begun revision old pods config_maps deployments first second third ConfigMaps = second
begun revision old pods config_maps deployments first second third Deployments = third

pub made : (revision : RevisionData) (old : Tables) (pods config_maps deployments : List RowData) → Made Pods revision old.pods pods →
    Made ConfigMaps revision old.config_maps config_maps → Made Deployments revision old.deployments deployments →
    HaveMade revision old (record { pods = pods; config_maps = config_maps; deployments = deployments })
made revision old pods config_maps deployments first second third Pods = first
made revision old pods config_maps deployments first second third ConfigMaps = second
made revision old pods config_maps deployments first second third Deployments = third
