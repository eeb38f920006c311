use Rattle.mirror_log.proofs.KeyLemmas.{inserted}
use Rattle.mirror_log.proofs.keys.add.Goals as goal
use Rattle.mirror_log.proofs.keys.add.Goals.{in-Ok, in-Err}

pub returns-clause-added : goal.returns-clause-added
returns-clause-added c = elim c.match-insert.branch [
  | in-Ok w ↦ rw w.result-is (inserted c.args.keys.now c.insert.new.self c.args.key w.in-Ok.ensures.updates)
  | in-Err w ↦ rw w.result-is tt
]
