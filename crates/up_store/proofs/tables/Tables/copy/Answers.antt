use Rattle.up_store.proofs.tables.Tables.copy.Goals as goal

pub returns : goal.returns
returns c = λ i. record { pods = c.in_ok-pods.ensures i; config_maps = c.in_ok-config_maps.ensures i; deployments = c.in_ok-deployments.ensures i }
