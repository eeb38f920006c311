use Rattle.std.proofs.Common.{◌∙◌, sym, ap, option_map}
use Rattle.clap.specs.Words.{first_of, found_of, rows_of}
use Rattle.clap.proofs.WalkLemmas.{first_value-rows}
use Rattle.watchcache.specs.Options.{namespace_given}
use Rattle.watchcache.proofs.OptionLemmas.{given_some}
use Rattle.watchcache.proofs.scope.namespace.Goals as goal

pub returns-in-None-clause-value : goal.returns-in-None-clause-value
returns-in-None-clause-value c =
    ap namespace_given (sym (sym (ap (option_map (λ s. s.now)) c.in-None.is) ∙ c.get_str.ensures
    ∙ first_value-rows (found_of c.args.matches.now) c.text.result.now ∙ ap (λ t. first_of t (rows_of (found_of c.args.matches.now))) c.text.ensures))

pub returns-in-Some-clause-value : goal.returns-in-Some-clause-value
returns-in-Some-clause-value c =
    let given = sym (ap (option_map (λ s. s.now)) c.in-Some.is) ∙ c.get_str.ensures
    ∙ first_value-rows (found_of c.args.matches.now) c.text.result.now ∙ ap (λ t. first_of t (rows_of (found_of c.args.matches.now))) c.text.ensures in
    given_some _ _ c.named.result c.some.result given c.named.ensures.value c.some.ensures
