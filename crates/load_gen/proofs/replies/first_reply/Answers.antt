use Rattle.std.proofs.Common.{◌<◌, ◌^◌, ◌++◌, length, arith}
use Rattle.load_gen.specs.Heads.{head_of}
use Rattle.load_gen.proofs.ReplyLemmas.{reads, few_fields}
use Rattle.load_gen.proofs.replies.first_reply.Goals as goal

pub returns-in-Ok-Complete-clause-found : goal.returns-in-Ok-Complete-clause-found
returns-in-Ok-Complete-clause-found c = λ code first rest e r.
    let small : length c.args.text.now < 2 ^ 64 = omega arith in
    let told = rw c.in-Ok-Complete.field-0-is at c.in-Ok-Complete.ensures in
    c.reply_with.ensures.found code first rest e r
    (told.found (head_of r.kind code r.retry r.close r.body) (r.body ++ rest) (reads code first rest c.args.text.now r small e) (few_fields r.kind code r.retry r.close r.body))

pub returns-in-Ok-Partial-clause-found : goal.returns-in-Ok-Partial-clause-found
returns-in-Ok-Partial-clause-found c = λ code first rest e r.
    let small : length c.args.text.now < 2 ^ 64 = omega arith in
    let told = rw c.in-Ok-Partial.field-0-is at c.in-Ok-Partial.ensures in
    absurd
    (told.found (head_of r.kind code r.retry r.close r.body) (r.body ++ rest) (reads code first rest c.args.text.now r small e) (few_fields r.kind code r.retry r.close r.body))

pub returns-in-Err-clause-found : goal.returns-in-Err-clause-found
returns-in-Err-clause-found c = λ code first rest e r.
    let small : length c.args.text.now < 2 ^ 64 = omega arith in
    absurd
    (c.in-Err.ensures.found (head_of r.kind code r.retry r.close r.body) (r.body ++ rest) (reads code first rest c.args.text.now r small e) (few_fields r.kind code r.retry r.close r.body))
