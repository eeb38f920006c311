use Rattle.std.proofs.Common.{sym, ap, ◌∙◌, ◌-◌, ◌/◌, drop, false, length-set, arith}
use Rattle.std.specs.Fmt.{digits_onto}
use Rattle.http_send.proofs.HexadecimalLemmas.{hexadecimal_onto, digits_onto_last, digits_onto_more, drop-set_before}
use Rattle.http_send.proofs.hexadecimal.write_hexadecimal.Goals as goal

pub loop-at-init : goal.loop-at-init
loop-at-init c = record {
  within = omega arith;
  length_is = c.told-out;
  text = hexadecimal_onto c.args.n c.args.out.now (omega (arith, c.told-out));
}

pub loop-at-preserved : goal.loop-at-preserved
loop-at-preserved c =
    let l = c.loop-at in
    let written = ap (digits_onto (l.at - 1) 16 false (l.rest / 16)) (drop-set_before l.out l.at _ _ c.loop-at-test.true (omega arith) c.hex_digit.ensures) in
    record {
      within = omega arith;
      length_is = length-set l.out (l.at - 1) c.hex_digit.result ∙ l.invariant.length_is;
      text = written ∙ sym (digits_onto_more l.at l.rest (drop l.at l.out) c.loop-at-test.true c.if-rest-eq0.false) ∙ l.invariant.text;
    }

pub returns-then-rest-eq0 : goal.returns-then-rest-eq0
returns-then-rest-eq0 c =
    let l = c.loop-at in
    let written = drop-set_before l.out l.at _ _ c.loop-at-test.true (omega arith) c.hex_digit.ensures in
    record {
      within = omega arith;
      text = written ∙ sym (digits_onto_last l.at l.rest (drop l.at l.out) c.loop-at-test.true c.if-rest-eq0.true) ∙ l.invariant.text;
    }
