-- What a client reads in these bytes. A connection and its steps are those of `websocket` (RFC 6455, sections 5.2 to 5.5).
use Rattle.std.specs.Prelude.{◌≡◌, ℕ, ◌<◌, ◌^◌, List, [], ◌++◌, length, None, Some, Ok, IsUtf8}
use Rattle.std.specs.Int.{w16, to_be_bytes}
use Rattle.websocket.specs.declared.protocol.config.Role.TheVariants.{Client}
use Rattle.websocket.specs.declared.protocol.state.WebSocketState.TheVariants.{Active}
use Rattle.websocket.specs.declared.protocol.frame.codec.FrameStatus.TheVariants.{Complete}
use Rattle.websocket.specs.declared.protocol.frame.coding.CloseCode.TheVariants.{Normal}
use Rattle.websocket.specs.Connection.{Connection, Effect, read_step}
use Rattle.websocket.specs.Content.{Content, text, close, FitsLimit}
use Rattle.ws_watch.specs.Messages.{message_text, socket_end_text}

-- the connection of a client, open and between two messages
pub record IsWaiting (client : Connection) : Type 0 where
  pub role : client.role ≡ Client
  pub active : client.state ≡ Active
  pub between_messages : client.fragments ≡ None

-- the client's own limits allow a payload of this size
abbrev pub Allows : Connection → List ℕ → Type 0
Allows client payload = FitsLimit client.config.max_message_size payload × FitsLimit client.config.max_frame_size payload

-- where these bytes come, the client reads exactly them as this message, whatever follows
abbrev pub ReadsMessages : Connection → List ℕ → Content → Type 0
ReadsMessages client bytes content =
    (rest : List ℕ)
    → (effect : Effect) × (read_step client (bytes ++ rest) ≡ Ok (Complete (length bytes, effect))) × (effect.message ≡ Some content)

-- a message is read as the text that was written, where that is UTF-8, and the close as a normal closure without a reason
pub record ClientsRead : Type 0 where
  pub messages : (client : Connection) (line : List ℕ) → IsWaiting client → Allows client line → IsUtf8 line → length line < 2 ^ 63
      → ReadsMessages client (message_text line) (text line)
  pub end : (client : Connection) → IsWaiting client → Allows client (to_be_bytes w16 1000)
      → ReadsMessages client socket_end_text (close (Some (Normal, [])))
