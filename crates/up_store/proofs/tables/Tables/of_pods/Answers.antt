use Rattle.std.proofs.Common.{◌∙◌}
use Rattle.up_store.proofs.TableLemmas.{pods-alone}
use Rattle.up_store.proofs.tables.Tables.of_pods.Goals as goal

pub returns : goal.returns
returns c = pods-alone _ c.args.list.items (c.in_ok-pods.ensures ∙ c.in_ok-shown.ensures) c.requires c.in_ok-config_maps.ensures c.in_ok-deployments.ensures
