-- Resource by resource.
use Rattle.std.proofs.lemmas.Result.{on_ok_weaker, on_err_weaker}
use Rattle.kube_meta.specs.declared.resources.Resource.TheVariants.{Pods, ConfigMaps, Deployments}
use Rattle.rev_log.proofs.MapLemmas.{on_err}
use Rattle.up_store.proofs.ApplyLemmas.{none, all, begun, made}
use Rattle.up_store.proofs.tables.Tables.apply.Goals as goal

pub returns-in_err-make_changes-clause-partly : goal.returns-in_err-make_changes-clause-partly
returns-in_err-make_changes-clause-partly c =
    let old = c.args.self.now in
    on_err c.from_residual.result (begun c.args.revision.now old c.make_changes.new.rows old.config_maps old.deployments c.in_err-make_changes.ensures.partly
    (none ConfigMaps c.args.revision.now old.config_maps) (none Deployments c.args.revision.now old.deployments))

pub returns-in_err-make_changes-2-clause-partly : goal.returns-in_err-make_changes-2-clause-partly
returns-in_err-make_changes-2-clause-partly c =
    let old = c.args.self.now in
    on_err c.from_residual-in_err-make_changes-2.result (begun c.args.revision.now old c.make_changes.new.rows c.make_changes-2.new.rows old.deployments
    (all Pods c.args.revision.now old.pods c.make_changes.new.rows c.in_ok-make_changes.ensures.done) c.in_err-make_changes-2.ensures.partly
    (none Deployments c.args.revision.now old.deployments))

pub returns-clause-done : goal.returns-clause-done
returns-clause-done c =
    on_ok_weaker c.make_changes-3.result (made c.args.revision.now c.args.self.now c.make_changes.new.rows c.make_changes-2.new.rows c.make_changes-3.new.rows
    c.in_ok-make_changes.ensures.done c.in_ok-make_changes-2.ensures.done) c.make_changes-3.ensures.done

pub returns-clause-partly : goal.returns-clause-partly
returns-clause-partly c =
    on_err_weaker c.make_changes-3.result (begun c.args.revision.now c.args.self.now c.make_changes.new.rows c.make_changes-2.new.rows c.make_changes-3.new.rows
    (all Pods c.args.revision.now c.args.self.now.pods c.make_changes.new.rows c.in_ok-make_changes.ensures.done)
    (all ConfigMaps c.args.revision.now c.args.self.now.config_maps c.make_changes-2.new.rows c.in_ok-make_changes-2.ensures.done))
    c.make_changes-3.ensures.partly
