use Rattle.std.proofs.Common.{◌≡◌, ◌+◌, ℕ, ap, sym, subst, ◌∙◌, arith, refl}
use Rattle.rev_front.specs.Kept.{Writes}
use Rattle.rev_front.specs.Passes.{revision}
use Rattle.rev_front.proofs.Moves.{commit_allowed}
use Rattle.rev_front.proofs.Handles.{seated, sits_on, commit_writes}
use Rattle.rev_front.proofs.pen.Pen.commit.Goals as goal

pub compare_exchange_with-requires : goal.compare_exchange_with-requires
compare_exchange_with-requires g c =
    let ok = seated _ _ _ _ _ _ c.self.invariant.0 (ap (λ t. t.shared.table_id) c.deref.ensures) in
    let w = c.self.invariant.1 in
    let reached : revision c.args.self.now ≡ c.self.inside.seat.me.0.shown = sym (ap revision c.self.view_is) ∙ sym w.leads.shown in
    let room = c.requires.room in (
      ok.0,
      ok.1,
      commit_allowed g.E.Entry.fits _ _ _ _ c.args.entry.now c.self.inside.revision w.first_seat w.revision_is (omega arith) (subst (λ (n : ℕ). g.E.Entry.fits (n + 1) c.args.entry.now) reached c.requires.fits),
    )

pub invariant_of-self : goal.invariant_of-self
invariant_of-self g c =
    let w = c.self.invariant.1 in
    let reached : revision c.args.self.now ≡ c.self.inside.seat.me.0.shown = sym (ap revision c.self.view_is) ∙ sym w.leads.shown in
    let room = c.requires.room in
    let e = c.compare_exchange_with.ensures in
    let is = e.2.1 c.args.entry.now refl in (
      sits_on _ _ _ _ _ _ _ c.self.invariant.0 e.0 (ap (λ m. m.1) is),
      subst (λ (n : ℕ). Writes g.E.Entry.fits g.N.LogName.log.first c.compare_exchange_with.new.seat.id c.compare_exchange_with.new.seat.me.0 (c.self.inside.revision + 1) c.self.inside.generation c.self.inside.floor n) (sym c.add.ensures.total)
          (commit_writes _ _ _ _ c.self.inside.seat.me c.compare_exchange_with.new.seat.me c.args.entry.now _ _ _ _ e.1 is (omega arith) (subst (λ (n : ℕ). g.E.Entry.fits (n + 1) c.args.entry.now) reached c.requires.fits) w),
    )
