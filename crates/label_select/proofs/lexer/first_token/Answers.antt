use Rattle.std.proofs.Common.{sym, ◌∙◌, arith}
use Rattle.label_select.specs.Pieces.{IsToken}
use Rattle.std.proofs.Common.{take, drop, subst}
use Rattle.label_select.proofs.Bytes.{first_sign, no_two, no_equal, no_second}
use Rattle.label_select.proofs.lexer.first_token.Goals as goal
use Rattle.label_select.proofs.lexer.first_token.Goals.{then-bytes-gt1+then-bytes-eq61+else-first-eq61+else-first-eq33, else-bytes-gt1, else-bytes-gt1-via-then-bytes-gt1+else-bytes-eq61, else-bytes-gt1-via-else-bytes-gt1}

pub returns-clause-token : goal.returns-clause-token
returns-clause-token c =
    let bytes = c.args.bytes.now in
    subst (λ k. IsToken k (take 1 bytes) (drop 1 bytes)) (sym c.sign_kind.ensures)
    (first_sign bytes c.requires.some c.requires.no_blank (sym c.is_word_byte.ensures ∙ c.if-is_word_byte.false)
    (elim c.if-bytes-gt1.branch [
      | then-bytes-gt1+then-bytes-eq61+else-first-eq61+else-first-eq33 w ↦ no_two bytes (omega arith) (omega arith)
      | else-bytes-gt1 w ↦ elim w.else-bytes-gt1.branch [
        | else-bytes-gt1-via-then-bytes-gt1+else-bytes-eq61 w' ↦ no_equal bytes (omega arith)
        | else-bytes-gt1-via-else-bytes-gt1 w' ↦ no_second bytes (omega arith)
      ]
    ]))
