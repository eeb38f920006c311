-- The frames that a server sends (RFC 6455, sections 5.2, 5.5.1 and 7.4.1): none is masked, and none is a fragment.
use Rattle.std.specs.Prelude.{ℕ, nat_lt, if◌then◌else◌, List, [], ◌∷◌, ◌++◌, length}
use Rattle.std.specs.Int.{w16, w64, to_be_bytes}
use Rattle.std.specs.List.{flat_map}

-- how a frame tells the length of its payload: in the shortest of three forms, the high byte first
abbrev pub length_text : ℕ → List ℕ
length_text n =
    if nat_lt n 126 then n ∷ []
    else if nat_lt n 65536 then 126 ∷ to_be_bytes w16 n
    else 127 ∷ to_be_bytes w64 n

-- the first byte of a text message: 128 for its last fragment, which is its only one, and the opcode 1 (section 5.2)
abbrev pub text_byte : ℕ
text_byte = 129

-- the first byte of a close: 128, as it is in one piece, and the opcode 8 (section 5.5.1)
abbrev pub close_byte : ℕ
close_byte = 136

-- the head of a text message of `n` bytes
abbrev pub message_head_text : ℕ → List ℕ
message_head_text n = text_byte ∷ length_text n

-- a line as a text message, in one frame: its head, and the bytes of the line as they are
abbrev pub message_text : List ℕ → List ℕ
message_text line = message_head_text (length line) ++ line

-- a close with the status code 1000, a normal closure, and no reason
abbrev pub socket_end_text : List ℕ
socket_end_text = close_byte ∷ (length_text 2 ++ to_be_bytes w16 1000)

-- what goes out behind the head: these messages, and the close
abbrev pub messages_text : List (List ℕ) → List ℕ
messages_text lines = flat_map message_text lines ++ socket_end_text
