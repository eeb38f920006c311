use Rattle.load_gen.proofs.run.list_all.Goals as goal

pub returns-in-Ok-clause-listed : goal.returns-in-Ok-clause-listed
returns-in-Ok-clause-listed g c = (c.in_ok-ask.ask, c.in_ok-ask.ensures, c.in-Ok.ensures.answer)
