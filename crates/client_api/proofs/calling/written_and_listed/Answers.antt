use Rattle.client_api.proofs.LawLemmas.{onwards_do_join}
use Rattle.client_api.proofs.CallingLemmas.{own-listed, own-listed-alone}
use Rattle.client_api.proofs.calling.written_and_listed.Goals as goal

pub returns-in_default-list-clause-onward : goal.returns-in_default-list-clause-onward
returns-in_default-list-clause-onward g c = onwards_do_join.1 _ _ _ c.in-Ok.ensures.onward c.in_default-list.ensures.onward

pub returns-clause-onward : goal.returns-clause-onward
returns-clause-onward g c = onwards_do_join.1 _ _ _ c.in-Ok.ensures.onward c.in-Ok-list.ensures.onward

pub returns-clause-own_write : goal.returns-clause-own_write
returns-clause-own_write g c =
    let write = c.in-Ok.ensures in
    let list = c.in-Ok-list.ensures in
    own-listed _ _ _ _ _ _ c.args.ask.now c.in-Ok.written c.in-Ok-list.listed (write.onward.lawful c.requires.lawful) c.requires.current write.answer list.answer

pub returns-clause-sole : goal.returns-clause-sole
returns-clause-sole g c = λ whole.
    let write = c.in-Ok.ensures in
    let list = c.in-Ok-list.ensures in
    own-listed-alone _ _ _ _ _ _ c.args.ask.now c.in-Ok.written c.in-Ok-list.listed (write.onward.lawful c.requires.lawful) list.onward c.requires.current write.answer list.answer (list.sole (write.kept whole tt))
