use Rattle.std.proofs.Common.{◌≡◌, ◌-◌, length, sym, ap, ◌∙◌, arith}
use Rattle.std.proofs.lemmas.Bool.{eqb-true}
use Rattle.label_select.proofs.TokenLaws.{cut_after_blanks, cut_after_token, no_token, no_more, one_token}
use Rattle.label_select.proofs.lexer.TokensIterator.next.Goals as goal

pub split_at-requires : goal.split_at-requires
split_at-requires c =
    let e = c.as_bytes.ensures.value in
    rw (← e) (cut_after_blanks c.as_bytes.result.now c.blank_len.result c.as_bytes.ensures.utf8 c.blank_len.ensures.within c.blank_len.ensures.blanks)

pub returns-then-is_empty-clause-steps : goal.returns-then-is_empty-clause-steps
returns-then-is_empty-clause-steps c =
    let rest = c.self.inside.rest.now in
    let none : length c.split_at.result.1.now ≡ 0 = eqb-true _ _ (sym c.is_empty.ensures ∙ c.if-is_empty.true) in
    let within = rw c.as_bytes.ensures.value at c.blank_len.ensures.within in
    let each = rw c.as_bytes.ensures.value at c.blank_len.ensures.blanks in
    (sym c.self.view_is ∙ no_token (c.self.inside.end - length rest) c.blank_len.result rest within each (sym (ap length c.split_at.ensures.back) ∙ none), no_more (c.self.inside.end - length c.split_at.result.1.now) c.split_at.result.1.now none)

pub split_at-requires-2 : goal.split_at-requires-2
split_at-requires-2 c =
    let e = c.as_bytes-2.ensures.value in
    rw (← e) (cut_after_token c.first_token-kind.result.0 c.as_bytes-2.result.now c.first_token-kind.result.1 c.as_bytes-2.ensures.utf8 c.first_token-kind.ensures.within c.first_token-kind.ensures.token)

pub returns-clause-steps : goal.returns-clause-steps
returns-clause-steps c =
    let within = rw c.as_bytes.ensures.value at c.blank_len.ensures.within in
    let each = rw c.as_bytes.ensures.value at c.blank_len.ensures.blanks in
    let within_after = rw c.as_bytes-2.ensures.value at c.first_token-kind.ensures.within in
    let token = rw c.as_bytes-2.ensures.value at c.first_token-kind.ensures.token in
    sym c.self.view_is ∙ one_token c.self.inside.end c.blank_len.result c.first_token-kind.result.1 c.self.inside.rest.now c.first_token-kind.result.0 c.split_at.result.1.now c.split_at-2.result.0.now c.split_at-2.result.1.now
    c.self.invariant within each c.split_at.ensures.back within_after token c.split_at-2.ensures.front c.split_at-2.ensures.back

pub returns-clause-goes : goal.returns-clause-goes
returns-clause-goes c =
    record { on = λ _. (tt, tt, omega (arith, ap length (returns-clause-steps c))); keeps = tt; rests = λ _. tt }
