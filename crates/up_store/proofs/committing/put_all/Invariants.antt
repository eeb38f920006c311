use Rattle.std.proofs.Common.{◌≡◌, ◌-◌, ◌++◌, length}
use Rattle.rev_front.specs.Passes.{credited, revision}
use Rattle.up_store.specs.Hearing.{AreAscending, filled}
use Rattle.up_store.specs.Kept.{Keeps, HasRoom}
use Rattle.up_store.specs.Stores.{log_in}
use Rattle.up_store.proofs.committing.put_all.Given as goal

-- the log and what is kept have grown together, and what is left may follow
abbrev pub invariant-loop-revision : goal.invariant-loop-revision
invariant-loop-revision g l = record {
  rising : AreAscending (revision l.pen) l.revision-iterator.rest.items l.to;
  room : HasRoom (length l.revision-iterator.rest.items) l.kept;
  log : record l.pen { log = l.pen.log ++ filled (revision l.pen) l.revision-iterator.rest.items l.to }
      ≡ record l.initial.pen { log = l.initial.pen.log ++ filled (revision l.initial.pen) l.fn.revisions.items l.to };
  author : credited l.author (l.to - revision l.pen) ≡ credited l.initial.author (l.to - revision l.initial.pen);
  keeps : Keeps (log_in g.N.LogFacts.base l.pen) l.pen.floor l.kept;
}
