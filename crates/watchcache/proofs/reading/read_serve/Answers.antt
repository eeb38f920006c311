use Rattle.std.proofs.Common.{◌∙◌, rules, sym, map, string_bytes}
use Rattle.watchcache.specs.Options.{serve_ask_of, serve}
use Rattle.watchcache.proofs.OptionLemmas.{gives, refused, refuses}
use Rattle.watchcache.proofs.reading.read_serve.Goals as goal

pub returns-in-Ok-clause-value : goal.returns-in-Ok-clause-value
returns-in-Ok-clause-value c =
    gives serve _ (map string_bytes c.args.words.now) _ c.in-Ok.options c.with_namespace.result c.in_ok-command.ensures
    c.in_ok-matches.ensures.faultless c.in_ok-matches.ensures.rows (sym c.serve_options.ensures.value ∙ c.in-Ok.is) c.with_namespace.ensures.value

pub returns-clause-value : goal.returns-clause-value
returns-clause-value c =
    refuses serve _ (map string_bytes c.args.words.now) _ c.in-Err.fault c.in_ok-command.ensures
    c.in_ok-matches.ensures.faultless c.in_ok-matches.ensures.rows (sym c.serve_options.ensures.value ∙ c.in-Err.is)

pub returns-in_err-matches-clause-value : goal.returns-in_err-matches-clause-value
returns-in_err-matches-clause-value c =
    let r = refused serve _ serve_ask_of (map string_bytes c.args.words.now) _ c.in_ok-command.ensures c.in_err-matches.ensures.refused in
    search rules
