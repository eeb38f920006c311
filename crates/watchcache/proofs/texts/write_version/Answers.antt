use Rattle.watchcache.proofs.texts.write_version.Goals as goal

pub returns : goal.returns
returns g c = c.write.ensures
