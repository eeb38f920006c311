use Rattle.std.proofs.Common.{◌∙◌, sym, map, string_bytes}
use Rattle.watchcache.specs.Options.{load_of, load}
use Rattle.watchcache.proofs.OptionLemmas.{at_fault}
use Rattle.watchcache.proofs.reading.read_load.Goals as goal

pub returns-clause-value : goal.returns-clause-value
returns-clause-value c =
    at_fault load _ load_of (map string_bytes c.args.words.now) _ c.in-Err.fault c.in_ok-command.ensures
    c.in_ok-matches.ensures.faultless c.in_ok-matches.ensures.rows (sym c.load_options.ensures.value ∙ c.in-Err.is)
