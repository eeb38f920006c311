-- Keys that are the base64 of 16 bytes, as the decoder of base64 answers them.
use Rattle.std.proofs.Common.{◌≡◌, ℕ, ◌+◌, ◌*◌, ◌/◌, ◌≤◌, Bool, true, false, cond, List, [], ◌∷◌, ◌++◌, length, replicate, refl, sym, ap, ◌∙◌, arith, length-append, Option, None, Some, Ok, Err}
use Rattle.std.specs.Prelude.{nat_lt}
use Rattle.std.proofs.lemmas.Bool.{le-ltb}
use Rattle.base64.specs.Rfc4648.{encode_symbols, unpadded_len, padding_len}
use Rattle.base64.specs.Decode.{decode_outcome, decoded_bytes, or_else, or_error, bytes_fit, lone_error, groups_error, suffix_error, groups_before_last}
use Rattle.base64.specs.Engines.{standard}
use Rattle.base64.specs.GeneralPurpose.{IsBytes, decode_of, decode_slice_of, decoded_bytes_of}
use Rattle.base64.specs.declared.decode.DecodeError.{DecodeError}
use Rattle.base64.specs.declared.decode.DecodeSliceError.TheVariants.{OutputSliceTooSmall}
use Rattle.base64.proofs.EngineFacts.{decode_of-encode_of, decode_of_strict}
use Rattle.base64.proofs.RoundTrip.{length-encode_symbols}
use Rattle.ws_watch.specs.Handshake.{base64, IsSocketKey}

-- a number of bytes that fits is answered
bytes_fit_ok : (size room n : ℕ) (low : Bool) → cond low (Err OutputSliceTooSmall) (Ok size) ≡ Ok n → n ≡ size
bytes_fit_ok size room n true e = cc
bytes_fit_ok size room n false e = cc

-- where the decoder into a slice says Ok, there was no error, and it says how many bytes there are
slice_ok : (lone groups suffix : Option DecodeError) (low : Bool) (bytes : List ℕ) (room n : ℕ)
    → or_error lone (cond low (Err OutputSliceTooSmall) (or_error (or_else groups suffix) (bytes_fit (length bytes) room))) ≡ Ok n
    → (decode_outcome (or_else lone (or_else groups suffix)) bytes ≡ Ok bytes) × (n ≡ length bytes)
slice_ok (Some x) groups suffix low bytes room n e = absurd (cc)
slice_ok None groups suffix true bytes room n e = absurd (cc)
slice_ok None (Some x) suffix false bytes room n e = absurd (cc)
slice_ok None None (Some x) false bytes room n e = absurd (cc)
slice_ok None None None false bytes room n e = (refl, bytes_fit_ok (length bytes) room n (nat_lt room (length bytes)) e)

-- where there is no error and the bytes fit, the decoder into a slice says how many there are
slice_fits : (lone groups suffix : Option DecodeError) (low : Bool) (bytes b : List ℕ) (room : ℕ) → low ≡ false → length b ≤ room
    → decode_outcome (or_else lone (or_else groups suffix)) bytes ≡ Ok b
    → or_error lone (cond low (Err OutputSliceTooSmall) (or_error (or_else groups suffix) (bytes_fit (length bytes) room))) ≡ Ok (length b)
slice_fits (Some x) groups suffix low bytes b room enough fits e = absurd (cc)
slice_fits None (Some x) suffix low bytes b room enough fits e = absurd (cc)
slice_fits None None (Some x) low bytes b room enough fits e = absurd (cc)
slice_fits None None None low bytes b room enough fits e =
    let same : bytes ≡ b = cc in
    rw (enough, same, le-ltb room (length b) fits)

-- the base64 of 16 bytes has 24
length-base64 : (nonce : List ℕ) → length nonce ≡ 16 → length (base64 nonce) ≡ 24
length-base64 nonce h =
    let symbols : length (encode_symbols standard.encode_table nonce) ≡ 22 =
    length-encode_symbols standard.encode_table nonce ∙ ap unpadded_len h in
    let padding : replicate {A = ℕ} (padding_len (length nonce)) 61 ≡ 61 ∷ 61 ∷ [] = ap (λ (n : ℕ). replicate {A = ℕ} (padding_len n) 61) h in
    ap (λ (l : List ℕ). length (encode_symbols standard.encode_table nonce ++ l)) padding
    ∙ length-append (encode_symbols standard.encode_table nonce) (61 ∷ 61 ∷ [])
    ∙ ap (λ (n : ℕ). n + 2) symbols

-- what decodes to 16 bytes is a key
pub IsSocketKey_from_decode : (key : List ℕ) (n : ℕ) → IsBytes key → IsBytes (decoded_bytes_of standard key)
    → decode_slice_of standard key 16 ≡ Ok n → n ≡ 16 → IsSocketKey key
IsSocketKey_from_decode key n small decoded_small e count =
    let dec = standard.decode_table in
    let mode = standard.config.decode_padding_mode in
    let before = groups_before_last (length key) in
    let ok = slice_ok (lone_error dec 61 key) (groups_error dec key before) (suffix_error dec 61 false mode (4 * before) key)
    (nat_lt (16 / 3) before) (decoded_bytes dec 61 key) 16 n e in (
      decoded_bytes_of standard key,
      sym ok.1 ∙ count,
      decoded_small,
      decode_of_strict standard key (decoded_bytes_of standard key) (refl, refl) small ok.0,
    )

-- a key decodes to 16 bytes
pub decode_slice_of_key : (key : List ℕ) → IsSocketKey key → decode_slice_of standard key 16 ≡ Ok 16
decode_slice_of_key key (nonce, count, small, is) =
    let dec = standard.decode_table in
    let mode = standard.config.decode_padding_mode in
    let before = groups_before_last (length key) in
    let decoded : decode_of standard key ≡ Ok nonce = ap (decode_of standard) is ∙ decode_of-encode_of standard nonce refl small in
    let room : nat_lt (16 / 3) before ≡ false =
    ap (λ (n : ℕ). nat_lt (16 / 3) (groups_before_last n)) (ap length is ∙ length-base64 nonce count) in
    slice_fits (lone_error dec 61 key) (groups_error dec key before) (suffix_error dec 61 false mode (4 * before) key)
    (nat_lt (16 / 3) before) (decoded_bytes dec 61 key) nonce 16 room (omega (arith, count)) decoded
    ∙ ap Ok count
