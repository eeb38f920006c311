use Rattle.std.proofs.Common.{◌≡◌, Bool, true, false, ◌&&◌, refl, sym, ap, ◌∙◌}
use Rattle.std.specs.Prelude.{is_none}
use Rattle.std.specs.Result.{is_ok}
use Rattle.std.specs.Option.{option_map_or}
use Rattle.kube_meta.specs.Names.{is_namespace}
use Rattle.http_read.specs.Queries.{query_pairs}
use Rattle.watch_rules.specs.Options.{query_fault}
use Rattle.watch_record.specs.Asking.{pairs_of, asked_namespace, selection_in, is_watch_request}
use Rattle.watch_record.proofs.asking.read_ask.Goals as goal

last-false : (a b d e : Bool) → e ≡ false → (a && (b && (d && e))) ≡ false
last-false true true true e is = is
last-false true true false e is = refl
last-false true false d e is = refl
last-false false b d e is = refl

pub returns-then-not-asks_watch : goal.returns-then-not-asks_watch
returns-then-not-asks_watch c =
    let header = c.args.header.now in
    let query : c.in_ok-params.params ≡ pairs_of header = c.in_ok-params.ensures ∙ ap query_pairs c.as_str.ensures in
    let no_watch : is_watch_request (pairs_of header) ≡ false = ap is_watch_request (sym query) ∙ sym c.asks_watch.ensures ∙ c.if-not-asks_watch.true in
    last-false (option_map_or is_namespace (asked_namespace header) true) (is_ok (selection_in header)) (is_none (query_fault (pairs_of header))) (is_watch_request (pairs_of header)) no_watch
