-- The tables of a log that begins.
use Rattle.std.proofs.Common.{◌≡◌, List, [], None, sym, ap, subst}
use Rattle.kube_meta.specs.Rows.{RowData, AreRising, row_with}
use Rattle.kube_meta.specs.declared.resources.Resource.TheVariants.{Pods, ConfigMaps, Deployments}
use Rattle.obj_tree.proofs.MapLemmas.{are_rising}
use Rattle.rev_log.specs.States.{row_in_base}
use Rattle.up_store.specs.Kept.{AreStanding, HoldEach}
use Rattle.up_store.specs.declared.tables.Tables.{Tables}

none : (rows : List RowData) → rows ≡ [] → AreStanding rows (λ key. None)
none rows empty = record {
  rising = subst AreRising (sym empty) (are_rising [] tt);
  reads = λ key. ap (λ xs. row_with xs key) empty;
}

-- pods whose keys rise, and nothing else
pub pods-alone : (tables : Tables) (list : List RowData) → tables.pods ≡ list → AreRising list → tables.config_maps ≡ [] → tables.deployments ≡ [] → HoldEach tables (row_in_base list)
pods-alone tables list pods up config_maps deployments Pods = record {
  rising = subst AreRising (sym pods) up;
  reads = λ key. ap (λ xs. row_with xs key) pods;
}
pods-alone tables list pods up config_maps deployments ConfigMaps = none tables.config_maps config_maps
pods-alone tables list pods up config_maps deployments Deployments = none tables.deployments deployments
