use Rattle.std.proofs.Common.{◌∙◌, sym, ap, option_map}
use Rattle.clap.specs.Words.{first_of, found_of, rows_of}
use Rattle.clap.proofs.WalkLemmas.{first_value-rows}
use Rattle.watchcache.specs.Options.{scope_resources}
use Rattle.watchcache.proofs.scope.scope_resources.Goals as goal

pub returns-in-None : goal.returns-in-None
returns-in-None c =
    ap (scope_resources c.args.is_cluster) (sym (ap (option_map (λ s. s.now)) c.in-None.is) ∙ c.get_str.ensures
    ∙ first_value-rows (found_of c.args.matches.now) c.text.result.now ∙ ap (λ t. first_of t (rows_of (found_of c.args.matches.now))) c.text.ensures)

pub returns-in-Some : goal.returns-in-Some
returns-in-Some c =
    c.given_resources.ensures ∙ ap (scope_resources c.args.is_cluster) (sym (ap (option_map (λ s. s.now)) c.in-Some.is) ∙ c.get_str.ensures
    ∙ first_value-rows (found_of c.args.matches.now) c.text.result.now ∙ ap (λ t. first_of t (rows_of (found_of c.args.matches.now))) c.text.ensures)
