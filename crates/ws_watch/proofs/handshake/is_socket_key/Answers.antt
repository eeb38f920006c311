use Rattle.std.proofs.Common.{sym, ◌∙◌, arith}
use Rattle.std.proofs.lemmas.Bool.{eqb-true, eq-eqb}
use Rattle.ws_watch.proofs.HandshakeLemmas.{IsSocketKey_from_decode, decode_slice_of_key}
use Rattle.ws_watch.proofs.handshake.is_socket_key.Goals as goal

pub returns-in-Ok : goal.returns-in-Ok
returns-in-Ok c = (
  λ test. IsSocketKey_from_decode c.args.key.now c.in-Ok.length (λ i. omega (arith, c.type_inv.key i)) c.in-Ok.ensures.bytes
      (sym c.in-Ok.ensures.value) (eqb-true c.in-Ok.length 16 test),
  λ key.
      let same = c.in-Ok.ensures.value ∙ decode_slice_of_key c.args.key.now key in
      eq-eqb c.in-Ok.length 16 (cc same),
)

pub returns-in-Err : goal.returns-in-Err
returns-in-Err c = (
  λ no. absurd (cc no),
  λ key.
      let same = c.in-Err.ensures.value ∙ decode_slice_of_key c.args.key.now key in
      absurd (cc same),
)
