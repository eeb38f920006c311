use Rattle.client_api.proofs.CallingLemmas.{newest-at-end}
use Rattle.client_api.proofs.calling.newest.Goals as goal

pub returns-clause-sole : goal.returns-clause-sole
returns-clause-sole g c = λ whole.
    newest-at-end _ _ _ _ c.list.result c.requires.lawful c.list.ensures.onward c.requires.current c.list.ensures.answer (c.list.ensures.sole whole)
