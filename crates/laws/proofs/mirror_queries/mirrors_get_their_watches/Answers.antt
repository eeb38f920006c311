use Rattle.laws.proofs.MirrorRouteLemmas as lemmas
use Rattle.laws.proofs.mirror_queries.mirrors_get_their_watches.Goals as goal

pub returns : goal.returns
returns c =
    lemmas.mirrors_get_watches c.requests_are_read_in_one_way.ensures.one c.mirror_requests_are_read.ensures c.mirror_requests_are_routed.ensures
