use Rattle.watchcache.proofs.texts.write_bad_line.Goals as goal

pub returns : goal.returns
returns g c = c.write.ensures
