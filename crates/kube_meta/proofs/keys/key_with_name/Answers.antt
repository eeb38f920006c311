use Rattle.std.proofs.lemmas.Bool.{and_parts, false_from_ne_true}
use Rattle.std.proofs.lemmas.Str.{IsUtf8-from_ascii}
use Rattle.kube_meta.proofs.NameLemmas.{ascii, bytes_of_name}
use Rattle.kube_meta.proofs.keys.key_with_name.Goals as goal

pub returns-in-Err : goal.returns-in-Err
returns-in-Err c =
    false_from_ne_true _ (λ passes. c.in-Err.ensures.cases.0 (IsUtf8-from_ascii c.args.name.now (ascii c.args.name.now (bytes_of_name c.args.name.now (and_parts _ _ passes).1))))
