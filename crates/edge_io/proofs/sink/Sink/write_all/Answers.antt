use Rattle.std.proofs.Common.{arith, ◌∙◌, length-take, length-drop, ℕ}
use Rattle.edge_io.proofs.ToldLemmas.{appended-next, AppendedSome-front}
use Rattle.edge_io.proofs.sink.Sink.write_all.Goals as goal

pub returns-in-Err-clause-broken : goal.returns-in-Err-clause-broken
returns-in-Err-clause-broken g c =
    AppendedSome-front _ _ _ c.loop-at.at (c.in-Err.ensures.kept ∙ c.loop-at.invariant.taken)

pub loop-at-preserved : goal.loop-at-preserved
loop-at-preserved g c = record {
  within = omega (arith, c.in-Ok.ensures.within, length-take {A = ℕ}, length-drop {A = ℕ});
  taken = appended-next _ _ _ _ c.loop-at.at c.in-Ok.n c.loop-at.invariant.taken c.in-Ok.ensures.taken;
  quiet = c.in-Ok.ensures.quiet ∙ c.loop-at.invariant.quiet;
}
