use Rattle.watchcache.proofs.run.Goals as goal

pub returns : goal.returns
returns g c = record {
  asked = c.read_words-asked.result;
  read = c.read_words-asked.ensures.reads;
  done = c.perform.ensures;
}
