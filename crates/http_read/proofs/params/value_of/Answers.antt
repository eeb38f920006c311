use Rattle.std.proofs.Common.{ap, sym, ◌∙◌}
use Rattle.std.specs.Prelude.{Some}
use Rattle.std.specs.Option.{option_map}
use Rattle.std.specs.Str.{bytes_eq}
use Rattle.http_read.specs.Places.{pair_at}
use Rattle.http_read.proofs.ScanLemmas.{find-step, find-here}
use Rattle.http_read.proofs.params.value_of.Goals as goal

pub returns-then-eq : goal.returns-then-eq
returns-then-eq c =
    let name = c.args.name.now in
    let test = ap (λ l. bytes_eq l name) (sym c.name_in.ensures) ∙ sym c.eq.ensures ∙ c.if-eq.true in
    ap Some c.value_in.ensures
    ∙ sym (ap (option_map (λ pair. pair.1)) (find-here (pair_at c.args.text.now) (λ pair. bytes_eq pair.0 name) c.args.places.now c.loop-place.place-index _
    c.loop-place-test.true c.loop-place.invariant test))

pub loop-place-preserved : goal.loop-place-preserved
loop-place-preserved c =
    let name = c.args.name.now in
    let test = ap (λ l. bytes_eq l name) (sym c.name_in.ensures) ∙ sym c.eq.ensures ∙ c.if-eq.false in
    find-step (pair_at c.args.text.now) (λ pair. bytes_eq pair.0 name) c.args.places.now c.loop-place.place-index _
    c.loop-place-test.true c.loop-place.invariant test
