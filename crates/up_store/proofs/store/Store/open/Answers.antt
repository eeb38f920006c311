-- Nothing but the base rows is kept of a log that begins, and both tables have them.
use Rattle.std.proofs.Common.{◌≡◌, refl, List, ap, arith, subst, sym}
use Rattle.kube_meta.specs.Rows.{RowData}
use Rattle.rev_front.specs.Passes.{revision}
use Rattle.rev_log.specs.States.{row_in_base}
use Rattle.up_store.specs.Kept.{HoldEach}
use Rattle.up_store.specs.declared.tables.Tables.{Tables}
use Rattle.up_store.proofs.StoreLemmas.{opened}
use Rattle.up_store.proofs.store.Store.open.Goals as goal

pub invariant_of-store : goal.invariant_of-store
invariant_of-store g c =
    let first : c.revision-first.result ≡ g.N.LogName.log.first = omega (arith, c.revision-first.ensures.answer, ap (λ w. revision w) c.start-pen.ensures.pen) in
    let floor : HoldEach c.in_ok-floor_rows.floor_rows (row_in_base g.N.LogFacts.base) =
    subst (λ (base : List RowData). HoldEach c.in_ok-floor_rows.floor_rows (row_in_base base)) (sym c.requires.base) c.in_ok-floor_rows.ensures in
    let last : HoldEach c.in_ok-last_rows.last_rows (row_in_base g.N.LogFacts.base) =
    subst (λ (tables : Tables). HoldEach tables (row_in_base g.N.LogFacts.base)) (sym c.in_ok-last_rows.ensures) floor in
    opened g.N.LogFacts.base g.N.LogFacts.mirror _ c.start-pen.result.0 _ c.args.history g.N.LogName.log.first c.start-pen.ensures.pen (omega (arith, first, c.revision-first.ensures.answer, c.revision-first.ensures.lawful.bounded.0)) first first first c.new.ensures.items refl
    floor last c.requires.mirror c.requires.history
