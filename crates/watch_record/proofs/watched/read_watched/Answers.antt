use Rattle.std.proofs.Common.{◌≡◌, IfOk, sym, subst}
use Rattle.std.specs.Prelude.{option_and_then}
use Rattle.serde_json.specs.Read.{read}
use Rattle.watch_record.specs.Between.{watched_at, watched_in}
use Rattle.watch_record.proofs.LaterLemmas.{watched-text, no-watched}
use Rattle.watch_record.proofs.watched.read_watched.Goals as goal

pub returns-in-Ok : goal.returns-in-Ok
returns-in-Ok c =
    let line = c.args.line.now in
    let is = c.in-Ok.ensures.cases in
    subst (λ found. IfOk c.read_text.result (λ header. header ≡ found)) (sym (watched-text line is.1))
    (subst (λ b. IfOk c.read_text.result (λ header. header ≡ option_and_then (watched_at b) (option_and_then watched_in (read b)))) is.0 c.read_text.ensures)

pub returns-in-Err : goal.returns-in-Err
returns-in-Err c = sym (no-watched c.args.line.now c.in-Err.ensures.cases.0)
