use Rattle.laws.proofs.MirrorReadLemmas as lemmas
use Rattle.laws.proofs.mirror_queries.mirror_requests_are_read.Goals as goal

pub returns : goal.returns
returns c = lemmas.requests_are_read
