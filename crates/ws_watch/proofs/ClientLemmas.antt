-- What a client reads in these bytes.
use Rattle.std.proofs.Common.{◌≡◌, ℕ, ◌+◌, Bool, true, false, cond, List, [], ◌∷◌, ◌++◌, length, refl, sym, ap, subst, zero-add, lit<, lit≤, None, Some, Ok}
use Rattle.std.specs.Prelude.{nat_lt}
use Rattle.std.specs.Int.{w16, w64, to_be_bytes}
use Rattle.websocket.specs.declared.protocol.frame.codec.FrameStatus.TheVariants.{Complete}
use Rattle.websocket.specs.declared.protocol.frame.coding.CloseCode.TheVariants.{Normal}
use Rattle.websocket.specs.declared.protocol.frame.coding.OpCode.TheVariants.{Data, Control}
use Rattle.websocket.specs.declared.protocol.frame.coding.Data.TheVariants as DataCode
use Rattle.websocket.specs.declared.protocol.frame.coding.Control.TheVariants as ControlCode
use Rattle.websocket.specs.Connection.{Connection, Effect, read_step, is_server, whole_header}
use Rattle.websocket.specs.Content.{text, close}
use Rattle.websocket.specs.Frame.{encode_frame}
use Rattle.websocket.specs.FrameHeader.{encode_header}
use Rattle.std.proofs.lemmas.Str.{IsUtf8-nil}
use Rattle.websocket.proofs.RoundTripLemmas.{read_step_written}
use Rattle.ws_watch.specs.Messages.{message_head_text, message_text, socket_end_text}
use Rattle.ws_watch.specs.Clients.{IsWaiting, ClientsRead}

-- the two ways to write a head, in each of the three forms
head_is_at : (short middle : Bool) (n : ℕ)
    → 129 ∷ (0 + cond short n (cond middle 126 127)) ∷ (cond short [] (cond middle (to_be_bytes w16 n) (to_be_bytes w64 n)) ++ [])
    ≡ 129 ∷ cond short (n ∷ []) (cond middle (126 ∷ to_be_bytes w16 n) (127 ∷ to_be_bytes w64 n))
head_is_at true middle n = ap (λ (k : ℕ). 129 ∷ k ∷ []) (zero-add n)
head_is_at false true n = refl
head_is_at false false n = refl

-- the head is that of a whole text frame without a mask
header_is : (n : ℕ) → encode_header (whole_header (Data DataCode.Text) None) n ≡ message_head_text n
unfolding encode_header
header_is n = head_is_at (nat_lt n 126) (nat_lt n 65536) n

frame_is : (line : List ℕ) → encode_frame (whole_header (Data DataCode.Text) None) line ≡ message_text line
frame_is line = ap (λ (head : List ℕ). head ++ line) (header_is (length line))

close_is : encode_frame (whole_header (Control ControlCode.Close) None) (to_be_bytes w16 1000) ≡ socket_end_text
unfolding encode_header
close_is = refl

-- a client takes frames without a mask
unmasked : (client : Connection) → IsWaiting client → false ≡ is_server client.role
unmasked client waiting = sym (ap is_server waiting.role)

pub clients_read : ClientsRead
clients_read = record {
  messages = λ client line waiting allows utf8 told rest.
      subst (λ (bytes : List ℕ). (effect : Effect) × (read_step client (bytes ++ rest) ≡ Ok (Complete (length bytes, effect))) × (effect.message ≡ Some (text line)))
      (frame_is line)
      (read_step_written client (text line) None rest waiting.active waiting.between_messages (unmasked client waiting) tt utf8 tt allows.0 allows.1 told);
  end = λ client waiting allows rest.
      subst (λ (bytes : List ℕ). (effect : Effect) × (read_step client (bytes ++ rest) ≡ Ok (Complete (length bytes, effect))) × (effect.message ≡ Some (close (Some (Normal, [])))))
      close_is
      (read_step_written client (close (Some (Normal, []))) None rest waiting.active waiting.between_messages (unmasked client waiting) tt IsUtf8-nil (refl, lit< tt, refl) (lit≤ tt) allows.1 (lit< tt));
}
