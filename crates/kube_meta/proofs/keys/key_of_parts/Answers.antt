use Rattle.std.proofs.lemmas.Bool.{and_parts, false_from_ne_true}
use Rattle.std.proofs.lemmas.Str.{IsUtf8-from_ascii}
use Rattle.kube_meta.proofs.NameLemmas.{ascii, bytes_of_namespace}
use Rattle.kube_meta.proofs.keys.key_of_parts.Goals as goal

pub returns-in-Err : goal.returns-in-Err
returns-in-Err c =
    false_from_ne_true _ (λ passes. c.in-Err.ensures.cases.0 (IsUtf8-from_ascii c.args.ns.now (ascii c.args.ns.now (bytes_of_namespace c.args.ns.now (and_parts _ _ passes).0))))
