-- Texts in pieces.
use Rattle.std.proofs.Common.{◌≡◌, ℕ, ◌+◌, List, ◌++◌, Option, length, ap, sym, ◌∙◌, append_assoc, length-append, arith}
use Rattle.std.specs.Prelude.{codes}
use Rattle.edge_io.specs.Told.{appended}
use Rattle.edge_io.specs.declared.clock.Reading.{Reading}
use Rattle.http_send.specs.Replies.{chunk_head_text, chunk_text, crlf}
use Rattle.edge_io.specs.Sent.{IsWrittenOut}
use Rattle.edge_io.proofs.SentLemmas.{bytes_of, sent_of}
use Rattle.ws_watch.specs.Messages.{message_head_text, message_text}
use Rattle.sess_turns.specs.Streams.{Outside}

-- a chunk of a line and a line feed, put together from its pieces
pub chunk-pieces : (line : List ℕ) (n : ℕ) → n ≡ length line
    → chunk_head_text (n + 1) ++ (line ++ (codes "\n" ++ crlf)) ≡ chunk_text (line ++ codes "\n")
chunk-pieces line n e =
    let more : n + 1 ≡ length (line ++ codes "\n") = omega (arith, e, length-append line (codes "\n")) in
    ap (λ (m : ℕ). chunk_head_text m ++ (line ++ (codes "\n" ++ crlf))) more
    ∙ ap (λ l. chunk_head_text (length (line ++ codes "\n")) ++ l) (sym (append_assoc line (codes "\n") crlf))
    ∙ sym (append_assoc (chunk_head_text (length (line ++ codes "\n"))) (line ++ codes "\n") crlf)

-- a message of a line
pub message-pieces : (line : List ℕ) (n : ℕ) → n ≡ length line → message_head_text n ++ line ≡ message_text line
message-pieces line n e = ap (λ (m : ℕ). message_head_text m ++ line) e

-- the text that was written is this one
pub written-as : (a b : Option (List ℕ)) (f g : ℕ) (text other : List ℕ) → text ≡ other → IsWrittenOut text (bytes_of a b f g) → IsWrittenOut other (bytes_of a b f g)
written-as a b f g text other same p = (p.0 ∙ ap (appended a) same, p.1)

-- what a clock and a sink tell at one time
pub record Point : Type 1 where
  pub readings : Option (List Reading)
  pub written : Option (List ℕ)
  pub settled : Type 0
  pub faults : ℕ

-- what went through them from one time to another
abbrev pub between : Point → Point → Outside
between old new = record {
  readings_old = old.readings;
  readings_new = new.readings;
  sent = sent_of old.written new.written old.settled new.settled old.faults new.faults;
}
