use Rattle.std.specs.Prelude.{map}
use Rattle.std.proofs.lemmas.Result.{err_from_is_err_and}
use Rattle.watch_record.specs.Between.{all_lines}
use Rattle.watch_record.proofs.LaterLemmas.{later-refuses}
use Rattle.watch_record.proofs.between_reading.read_parts.Goals as goal

pub returns-in_err-later-clause-refused : goal.returns-in_err-later-clause-refused
returns-in_err-later-clause-refused c =
    let p = err_from_is_err_and c.from_residual-in_err-later.result c.from_residual-in_err-later.ensures.1 in
    let asked = rw c.in-Some.is at c.in_ok-ask.ensures in
    rw (p.1, p.2) (λ no_memory. later-refuses c.args.header.now (record { first = c.args.first.now; body = all_lines c.args.body.now; later = map (λ text. text.now) c.args.later.now }) c.in-Some.from
    c.in_ok-rows.rows.items c.in_err-later.field-0.0 asked.asked c.in_ok-rows.ensures.read.is (c.in_err-later.ensures.refused no_memory))
