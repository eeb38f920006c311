use Rattle.std.proofs.Common.{◌≡◌, ℕ, ◌<◌, ◌^◌, inl, inr, length, Option, None, Some, ap, ◌∙◌, arith, length-append}
use Rattle.load_gen.specs.declared.replies.Reply.{Reply}
use Rattle.load_gen.proofs.ReplyLemmas.{found, some_bytes}
use Rattle.load_gen.proofs.replies.reply_with.Goals as goal

pub returns-in_err-body-clause-found : goal.returns-in_err-body-clause-found
returns-in_err-body-clause-found c = λ code first rest e r at.
    let whole = ap length e in
    let parts = length-append first rest in
    let small : length first < 2 ^ 64 = omega arith in
    let f = found code first c.args.text.now c.args.fields.now c.args.head.now r small at in
    let size : length r.body < 2 ^ 64 = omega (arith, f.whole) in
    let told = c.in_err-body.ensures (length r.body) size (f.size _) in
    absurd (cc)

pub returns-then-size-eq0-clause-found : goal.returns-then-size-eq0-clause-found
returns-then-size-eq0-clause-found c = λ code first rest e r at.
    let whole = ap length e in
    let parts = length-append first rest in
    let small : length first < 2 ^ 64 = omega arith in
    let f = found code first c.args.text.now c.args.fields.now c.args.head.now r small at in
    let sum = f.whole in
    let size : length r.body < 2 ^ 64 = omega arith in
    let told : Some c.in_ok-body.body ≡ Some (length r.body) = c.in_ok-body.ensures (length r.body) size (f.size _) in
    let body : c.in_ok-body.body ≡ length r.body = cc in
    let some = some_bytes code first r in
    let none : Option Reply = None in
    let it : Option Reply = Some (record { code = code; size = length first }) in
    elim c.then-size-eq0.either as (λ _. none ≡ it) [ inl zero ↦ absurd (omega arith) | inr past ↦ absurd (omega arith) ]

pub returns-clause-found : goal.returns-clause-found
returns-clause-found c = λ code first rest e r at.
    let whole = ap length e in
    let parts = length-append first rest in
    let small : length first < 2 ^ 64 = omega arith in
    let f = found code first c.args.text.now c.args.fields.now c.args.head.now r small at in
    let sum = f.whole in
    let size : length r.body < 2 ^ 64 = omega arith in
    let told : Some c.in_ok-body.body ≡ Some (length r.body) = c.in_ok-body.ensures (length r.body) size (f.size _) in
    let body : c.in_ok-body.body ≡ length r.body = cc in
    let all : c.saturating_add-size.result ≡ length first = omega arith in
    let of_code : ℕ → Option Reply = λ x. Some (record { code = x; size = c.saturating_add-size.result }) in
    let of_size : ℕ → Option Reply = λ x. Some (record { code = code; size = x }) in
    ap of_code f.code_is ∙ ap of_size all
