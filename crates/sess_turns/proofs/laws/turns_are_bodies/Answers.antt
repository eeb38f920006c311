use Rattle.sess_turns.proofs.BodyLemmas.{turns_are_bodies}
use Rattle.sess_turns.proofs.laws.turns_are_bodies.Goals as goal

pub returns : goal.returns
returns c = turns_are_bodies
