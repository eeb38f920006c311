use Rattle.std.proofs.Common.{◌∙◌, sym, ap, option_map, Some, Ok}
use Rattle.clap.specs.Words.{first_of, found_of, rows_of}
use Rattle.clap.proofs.WalkLemmas.{first_value-rows}
use Rattle.watchcache.specs.Options.{and_then, optional_number}
use Rattle.watchcache.proofs.options.optional.Goals as goal

pub returns-in-None-clause-value : goal.returns-in-None-clause-value
returns-in-None-clause-value c =
    let given = sym (ap (option_map (λ s. s.now)) c.in-None.is) ∙ c.get_str.ensures
    ∙ first_value-rows (found_of c.args.matches.now) c.text.result.now ∙ ap (λ t. first_of t (rows_of (found_of c.args.matches.now))) c.text.ensures in
    ap (optional_number c.args.name c.args.low c.args.high) given

pub returns-in-Some-clause-value : goal.returns-in-Some-clause-value
returns-in-Some-clause-value c =
    let given = sym (ap (option_map (λ s. s.now)) c.in-Some.is) ∙ c.get_str.ensures
    ∙ first_value-rows (found_of c.args.matches.now) c.text.result.now ∙ ap (λ t. first_of t (rows_of (found_of c.args.matches.now))) c.text.ensures in
    c.given.ensures ∙ ap (and_then (λ n. Ok (Some n))) c.within.ensures.value ∙ ap (optional_number c.args.name c.args.low c.args.high) given
