-- Digits are text, and `parse` gives their number.
use Rattle.std.proofs.Common.{◌≡◌, sym}
use Rattle.std.proofs.lemmas.Fmt.{IsAscii-from_digits}
use Rattle.std.proofs.lemmas.Str.{IsUtf8-from_ascii}
use Rattle.kube_meta.proofs.RevisionLemmas.{own}
use Rattle.line_stream.proofs.FramingLemmas.{length-digits, length-parsed}
use Rattle.line_stream.proofs.framing.length_value.Goals as goal

pub returns-in-Ok : goal.returns-in-Ok
returns-in-Ok c =
    let same : c.in-Ok.digits.now ≡ c.args.value.now = c.in-Ok.ensures.cases.0 in
    let parsed = length-parsed c.args.value.now c.parse.result c.if-not-is_length.ensures (rw same at c.parse.ensures.value.0) in
    cc

pub returns-in-Err : goal.returns-in-Err
returns-in-Err c =
    absurd (c.in-Err.ensures.cases.0 (IsUtf8-from_ascii c.args.value.now (IsAscii-from_digits c.args.value.now (own.to c.args.value.now (length-digits c.args.value.now c.if-not-is_length.ensures)))))
