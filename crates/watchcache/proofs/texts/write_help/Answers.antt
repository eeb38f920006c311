use Rattle.watchcache.proofs.texts.write_help.Goals as goal

pub returns : goal.returns
returns g c = c.write.ensures
