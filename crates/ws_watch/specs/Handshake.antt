-- The opening of a WebSocket (RFC 6455, sections 1.3 and 4.2.2).
use Rattle.std.specs.Prelude.{◌≡◌, ℕ, List, [], ◌∷◌, ◌++◌, codes, length}
use Rattle.std.specs.List.{concat}
use Rattle.base64.specs.Engines.{standard}
use Rattle.base64.specs.GeneralPurpose.{encode_of, IsBytes}
use Rattle.sha1.specs.Sha1.{sha1}

-- standard base64 (RFC 4648, section 4)
abbrev pub base64 : List ℕ → List ℕ
base64 bytes = encode_of standard bytes

-- the globally unique identifier that stands behind the key (section 1.3)
abbrev pub guid : List ℕ
guid = codes "258EAFA5-E914-47DA-95CA-C5AB0DC85B11"

-- what a server answers to a key: the base64 of the SHA-1 (FIPS 180-4) of the key and the identifier
abbrev pub accept_of : List ℕ → List ℕ
accept_of key = base64 (sha1 (key ++ guid))

-- the head by which a server goes over to messages
abbrev pub socket_head_text : List ℕ → List ℕ
socket_head_text key =
    concat
    (codes "HTTP/1.1 101 Switching Protocols\r\n"
    ∷ codes "Upgrade: websocket\r\n"
    ∷ codes "Connection: Upgrade\r\n"
    ∷ codes "Sec-WebSocket-Accept: " ∷ accept_of key ∷ codes "\r\n"
    ∷ codes "\r\n" ∷ [])

-- a client's key: the base64 of some 16 bytes (section 4.1)
abbrev pub IsSocketKey : List ℕ → Type 0
IsSocketKey key = (nonce : List ℕ) × (length nonce ≡ 16) × IsBytes nonce × (key ≡ base64 nonce)

-- a client asks for a WebSocket by a key and by the version 13 (section 4.2.1)
abbrev pub IsUpgrade : List ℕ → List ℕ → Type 0
IsUpgrade key version = (version ≡ codes "13") × IsSocketKey key
