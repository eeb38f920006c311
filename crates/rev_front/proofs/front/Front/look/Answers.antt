use Rattle.std.proofs.Common.{◌≤◌, ap, sym, ◌∙◌, subst}
use Rattle.rev_front.specs.Passes.{Extends, looked}
use Rattle.rev_front.proofs.Moves.{look_allowed}
use Rattle.rev_front.proofs.Handles.{seated, sits_on, looks_view, looks_reads, looked_extends}
use Rattle.rev_front.proofs.front.Front.look.Goals as goal

pub load-found-requires : goal.load-found-requires
load-found-requires g c =
    let ok = seated _ _ _ _ _ _ c.self.invariant.0 (ap (λ t. t.shared.table_id) c.deref.ensures) in
    (ok.0, ok.1, look_allowed g.E.Entry.fits _ _ _ _ c.self.invariant.1.role)

pub invariant_of-self : goal.invariant_of-self
invariant_of-self g c =
    let e = c.load-found.ensures in (
      sits_on _ _ _ _ _ _ _ c.self.invariant.0 e.0 (ap (λ m. m.1) e.2.2),
      looks_reads _ _ _ _ _ c.self.inside.seat.me c.load-found.new.seat.me _ _ _ _ e.1 e.2 c.self.invariant.1,
    )

pub returns-clause-load : goal.returns-clause-load
returns-clause-load g c =
    let e = c.load-found.ensures in
    looks_view _ _ _ _ c.self.inside.seat.me c.load-found.new.seat.me e.1 e.2 ∙ ap (λ p. looked p c.load-found.result) c.self.view_is

pub returns-clause-extends : goal.returns-clause-extends
returns-clause-extends g c =
    let e = c.load-found.ensures in
    let now = looks_view g.N.LogName.log.first _ _ _ c.self.inside.seat.me c.load-found.new.seat.me e.1 e.2 ∙ ap (λ p. looked p c.load-found.result) c.self.view_is in
    subst (Extends c.args.self.now) (sym now) (looked_extends c.args.self.now c.load-found.result (subst (λ p. p.shown ≤ c.load-found.result) c.self.view_is e.2.0))
