-- What the bytes of messages tell.
use Rattle.std.specs.Prelude.{◌≡◌, ℕ, ◌<◌, ◌^◌, List, ◌++◌, length, All}
use Rattle.ws_watch.specs.Messages.{message_head_text, messages_text}

-- a head tells the length of its message, and where it ends itself, whatever follows it
abbrev pub HeadsTellLengths : Type 0
HeadsTellLengths =
    (m n : ℕ) → m < 2 ^ 63 → n < 2 ^ 63 → (after other : List ℕ)
    → message_head_text m ++ after ≡ message_head_text n ++ other → (m ≡ n) × (after ≡ other)

-- the lengths of these messages can be told
abbrev pub AreMessages : List (List ℕ) → Type 0
AreMessages lines = All (λ line. length line < 2 ^ 63) lines

-- the bytes that end with the close are those of one list of messages
abbrev pub BytesTellMessages : Type 0
BytesTellMessages =
    (lines others : List (List ℕ)) → AreMessages lines → AreMessages others
    → messages_text lines ≡ messages_text others → lines ≡ others
