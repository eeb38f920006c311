use Rattle.up_api.proofs.FeedLemmas.{joined}
use Rattle.up_api.proofs.upstream.polls_join.Goals as goal

pub returns : goal.returns
returns c = joined
