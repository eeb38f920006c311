use Rattle.std.proofs.Common.{◌≡◌, None, Some, IfOk, IfErr, sym, subst, ◌∙◌, false}
use Rattle.std.specs.Prelude.{◌≢◌}
use Rattle.watch_record.specs.Records.{text_fault, is_too_long, IsRecordOf}
use Rattle.watch_record.specs.declared.refusals.RecordNo.TheVariants.{Memory}
use Rattle.watch_record.proofs.CaseLemmas.{of-text, no-text}
use Rattle.watch_record.proofs.reading.read_record.Goals as goal

pub returns-in-Ok-clause-read : goal.returns-in-Ok-clause-read
returns-in-Ok-clause-read c =
    let bytes = c.args.bytes.now in
    let is = c.in-Ok.ensures.cases in
    let short : is_too_long bytes ≡ false = sym c.is_too_long.ensures ∙ c.if-is_too_long.false in
    subst (λ fault. IfOk c.read_text.result (λ case. (fault ≡ None) × IsRecordOf bytes case)) (sym (of-text bytes short is.1))
    (subst (λ b. IfOk c.read_text.result (λ case. (text_fault b ≡ None) × IsRecordOf b case)) is.0 c.read_text.ensures.read)

pub returns-in-Ok-clause-refused : goal.returns-in-Ok-clause-refused
returns-in-Ok-clause-refused c =
    let bytes = c.args.bytes.now in
    let is = c.in-Ok.ensures.cases in
    let short : is_too_long bytes ≡ false = sym c.is_too_long.ensures ∙ c.if-is_too_long.false in
    subst (λ fault. IfErr c.read_text.result (λ refusal. refusal ≢ Memory → fault ≡ Some refusal)) (sym (of-text bytes short is.1))
    (subst (λ b. IfErr c.read_text.result (λ refusal. refusal ≢ Memory → text_fault b ≡ Some refusal)) is.0 c.read_text.ensures.refused)

pub returns-in-Err-clause-refused : goal.returns-in-Err-clause-refused
returns-in-Err-clause-refused c =
    let bytes = c.args.bytes.now in
    λ other. no-text bytes (sym c.is_too_long.ensures ∙ c.if-is_too_long.false) c.in-Err.ensures.cases.0
