-- Where there is no memory for a copy of the mirror's selection, nothing is asked for.
use Rattle.std.proofs.Common.{[], inl, sym}
use Rattle.edge_io.proofs.ToldLemmas.{prepended-nil}
use Rattle.cluster_link.proofs.PageLemmas.{nothing_asked}
use Rattle.cluster_link.proofs.mirror.ClusterMirror.read_list.Goals as goal

pub returns-in-Err-clause-reads : goal.returns-in-Err-clause-reads
returns-in-Err-clause-reads g c = (
  [],
  sym (prepended-nil (g.S.Source.left c.args.source.now)),
  inl (nothing_asked c.args.self.now.selection (g.K.Sink.written c.args.sink.now) (g.K.Sink.settled c.args.sink.now) (g.K.Sink.faults c.args.sink.now) (g.S.Source.left c.args.source.now)),
)
