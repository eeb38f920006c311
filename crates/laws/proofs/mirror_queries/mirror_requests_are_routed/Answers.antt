use Rattle.laws.proofs.MirrorRouteLemmas as lemmas
use Rattle.laws.proofs.mirror_queries.mirror_requests_are_routed.Goals as goal

pub returns : goal.returns
returns c = lemmas.requests_are_routed c.mirror_queries_ask_watches.ensures.ask c.answers_agree.ensures
