-- What was copied under the lock is made behind it.
use Rattle.std.proofs.Common.{List}
use Rattle.std.proofs.lemmas.Result.{err_from_is_err_and}
use Rattle.kube_meta.specs.Rows.{RowData}
use Rattle.up_api.specs.Sections.{log_of}
use Rattle.up_store.specs.declared.past.OldState.{OldState}
use Rattle.up_store.proofs.StoreLemmas.{section-refused}
use Rattle.up_store.proofs.door.StoreDoor.state_at.Goals as goal

pub returns-in_err-old-clause-section : goal.returns-in_err-old-clause-section
returns-in_err-old-clause-section g c =
    let p = err_from_is_err_and c.from_residual.result c.from_residual.ensures.1 in
    rw (p.1, p.2) (section-refused OldState (List RowData) c.in_err-old.field-0.0 c.args.told.now c.old_state.new.told c.in_err-old.ensures.section)

pub returns-in_err-old-clause-refused : goal.returns-in_err-old-clause-refused
returns-in_err-old-clause-refused g c =
    let p = err_from_is_err_and c.from_residual.result c.from_residual.ensures.1 in
    rw (p.1, p.2) c.in_err-old.ensures.refused

pub returns-clause-state : goal.returns-clause-state
returns-clause-state g c = c.in_ok-made.ensures (log_of g.N.LogFacts.base c.old_state.new.told) c.args.resource c.args.at c.in_ok-old.ensures.state
