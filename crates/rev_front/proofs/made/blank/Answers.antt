use Rattle.rev_front.proofs.Moves.{begins}
use Rattle.rev_front.proofs.made.blank.Goals as goal

pub of_words-requires : goal.of_words-requires
of_words-requires g c = begins g.E.Entry.fits c.args.first c.requires.high
