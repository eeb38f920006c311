use Rattle.std.proofs.Common.{◌∙◌, sym, map, string_bytes}
use Rattle.watchcache.specs.Options.{settings_of, session}
use Rattle.watchcache.proofs.OptionLemmas.{at_fault, read}
use Rattle.watchcache.proofs.reading.read_settings.Goals as goal

pub returns-in-Ok-clause-value : goal.returns-in-Ok-clause-value
returns-in-Ok-clause-value c =
    read session _ settings_of (map string_bytes c.args.words.now) _ c.in-Ok.settings c.in_ok-command.ensures
    c.in_ok-matches.ensures.faultless c.in_ok-matches.ensures.rows (sym c.settings.ensures.value ∙ c.in-Ok.is)

pub returns-clause-value : goal.returns-clause-value
returns-clause-value c =
    at_fault session _ settings_of (map string_bytes c.args.words.now) _ c.in-Err.fault c.in_ok-command.ensures
    c.in_ok-matches.ensures.faultless c.in_ok-matches.ensures.rows (sym c.settings.ensures.value ∙ c.in-Err.is)
