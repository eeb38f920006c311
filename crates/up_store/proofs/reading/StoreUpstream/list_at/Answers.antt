-- The rows are made of what is copied, and a refusal is that of the copy.
use Rattle.std.specs.Global.{Vec}
use Rattle.std.proofs.lemmas.Result.{err_from_is_err_and}
use Rattle.kube_meta.specs.Rows.{RowData}
use Rattle.up_api.specs.Sections.{log_of}
use Rattle.up_store.specs.declared.past.OldState.{OldState}
use Rattle.up_store.proofs.StoreLemmas.{section-refused, known-refused}
use Rattle.up_store.proofs.reading.StoreUpstream.list_at.Goals as goal

pub returns-in_err-old-clause-section : goal.returns-in_err-old-clause-section
returns-in_err-old-clause-section g c =
    let p = err_from_is_err_and c.from_residual.result c.from_residual.ensures.1 in
    rw (p.1, p.2) (section-refused OldState (Vec RowData) c.in_err-old.field-0.0 c.args.told.now c.old_state.new.told c.in_err-old.ensures.section)

pub returns-in_err-old-clause-refused : goal.returns-in_err-old-clause-refused
returns-in_err-old-clause-refused g c =
    let p = err_from_is_err_and c.from_residual.result c.from_residual.ensures.1 in
    rw (p.1, p.2) c.in_err-old.ensures.refused

pub returns-in_err-old-clause-knows : goal.returns-in_err-old-clause-knows
returns-in_err-old-clause-knows g c =
    let p = err_from_is_err_and c.from_residual.result c.from_residual.ensures.1 in
    rw (p.1, p.2) (known-refused OldState (Vec RowData) c.in_err-old.field-0.0 c.args.self.now.whole c.args.told.now c.old_state.new.told c.in_err-old.ensures.knows)

pub returns-clause-rows : goal.returns-clause-rows
returns-clause-rows g c = c.in_ok-rows.ensures (log_of g.N.LogFacts.base c.old_state.new.told) c.args.resource c.args.at c.in_ok-old.ensures.state
