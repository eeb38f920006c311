use Rattle.clap.specs.Words.{first_of, found_of, rows_of}
use Rattle.watchcache.specs.Options.{option_text}
use Rattle.watchcache.specs.declared.asked.OptionName.TheVariants.{Namespace}
use Rattle.watchcache.proofs.OptionLemmas.{asked, refused_name}
use Rattle.watchcache.proofs.reading.with_namespace.Goals as goal

pub returns-in-Ok-clause-value : goal.returns-in-Ok-clause-value
returns-in-Ok-clause-value c =
    asked (first_of (option_text Namespace) (rows_of (found_of c.args.matches.now))) c.args.options c.in-Ok.namespace c.in-Ok.ensures.value

pub returns-in-Err-clause-value : goal.returns-in-Err-clause-value
returns-in-Err-clause-value c =
    refused_name (first_of (option_text Namespace) (rows_of (found_of c.args.matches.now))) c.args.options c.in-Err.no c.in-Err.ensures.value
