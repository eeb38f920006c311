use Rattle.std.proofs.Common.{ℕ, ◌≡◌, ◌≤◌, ◌+◌, ◌*◌, ◌^◌, arith, ap, ◌∙◌, add-one}
use Rattle.std.proofs.Math.Nat.{pow-le-pow_right, pow-suc}
use Rattle.std.proofs.lemmas.Int.Digits.{digits_value_more}
use Rattle.std.proofs.lemmas.Str.{digit_value_digit}
use Rattle.http_read.proofs.HeadLemmas.{length-short, length-digit}
use Rattle.http_read.proofs.fields.digits_value.Goals as goal

pub overflow_mul-value : goal.overflow_mul-value
overflow_mul-value c =
    let i = c.loop-digit.digit-index in
    let bound : 10 ^ i ≤ 10 ^ 14 = pow-le-pow_right {n = 10} (omega arith) {i = i} {j = 14} (omega (arith, length-short c.args.digits.now c.requires)) in
    omega (arith, bound)

pub overflow_add-value : goal.overflow_add-value
overflow_add-value c =
    let i = c.loop-digit.digit-index in
    let bound : 10 ^ i ≤ 10 ^ 14 = pow-le-pow_right {n = 10} (omega arith) {i = i} {j = 14} (omega (arith, length-short c.args.digits.now c.requires)) in
    omega (arith, bound, c.type_inv.digits i)

pub loop-digit-preserved : goal.loop-digit-preserved
loop-digit-preserved c =
    let i = c.loop-digit.digit-index in
    let range = length-digit c.args.digits.now i c.requires c.loop-digit-test.true in
    let step : 10 ^ (i + 1) ≡ 10 ^ i * 10 = ap (λ (n : ℕ). 10 ^ n) (add-one i) ∙ pow-suc 10 i in record {
      is = omega (arith, digits_value_more 10 c.args.digits.now i c.loop-digit-test.true, digit_value_digit _ range, range.0);
      small = omega (arith, step, range.0, range.1);
    }
