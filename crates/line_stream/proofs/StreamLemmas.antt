-- Streams stand with their lines.
use Rattle.std.proofs.Common.{◌≡◌, ◌==◌, ℕ, ◌+◌, ◌^◌, ◌<◌, Bool, true, false, cond, List, [], ◌∷◌, ◌++◌, None, length, refl, sym, ap, subst, arith, append_assoc, append-nil, length-append}
use Rattle.std.specs.Prelude.{◌≢◌}
use Rattle.std.specs.List.{All, flat_map}
use Rattle.std.specs.Fmt.{digits}
use Rattle.std.proofs.lemmas.Bool.Decides.{nat_tests}
use Rattle.std.proofs.lemmas.List.Elements.{All-nil, All-head, All-tail}
use Rattle.httparse.specs.Ascii.{crlf_bytes}
use Rattle.http_send.specs.Replies.{stream_head_text, chunk_head_text, chunk_text, stream_end_text}
use Rattle.line_stream.specs.Chunks.{sized, ended, place_behind, Carries}
use Rattle.line_stream.specs.Standing.{IsLine, lines_bytes, Stands}
use Rattle.line_stream.proofs.PieceLemmas.{carries-none, carries-one, carries-data, carries-append}
use Rattle.line_stream.specs.Streams.{stream_bytes, whole_stream, reader_at, StreamsStand}
use Rattle.line_stream.proofs.SizeLemmas.{size_line, size-printed, size-is-line, size-is, size-short}
use Rattle.line_stream.proofs.StreamHeadLemmas.{stream-begins}
use Rattle.line_stream.specs.declared.place.Place.{Place}
use Rattle.line_stream.specs.declared.place.Place.TheVariants.{AtSize, Inside, Last, Over}

-- the line of a chunk
size_carries : (n : ℕ) → n < 2 ^ 64 → Carries AtSize (chunk_head_text n) [] (place_behind n)
size_carries n h =
    subst (λ b. Carries AtSize b [] (place_behind n)) (size-printed n)
    (carries-one AtSize (place_behind n) (sized (size_line n)) (size-is-line n h, size-short n h, ap place_behind (sym (size-is n h))))

behind_some : (n : ℕ) → 0 < n → place_behind n ≡ Inside n
behind_some n h = by_test (n == 0) refl
  where
    by_test : (b : Bool) → (n == 0) ≡ b → cond b Last (Inside n) ≡ Inside n
    by_test true e = absurd (nonzero n h e)
      where
        nonzero : (m : ℕ) → 0 < m → (m == 0) ≡ true → ⊥
        nonzero m h e = grind (arith, nat_tests)
    by_test false e = refl

-- a chunk
chunk_carries : (content : List ℕ) → 0 < length content → length content < 2 ^ 64 → Carries AtSize (chunk_text content) content AtSize
chunk_carries content some few =
    let n = length content in
    let first = subst (Carries AtSize (chunk_head_text n) []) (behind_some n some) (size_carries n few) in
    let second = subst (λ (m : ℕ). Carries (Inside m) content content (Inside 0)) {x = length content + 0} {y = n} (omega arith) (carries-data content 0) in
    subst (λ c. Carries AtSize (chunk_text content) c AtSize) (append-nil content)
    (carries-append AtSize (Inside 0) AtSize (chunk_head_text n ++ content) crlf_bytes content []
    (carries-append AtSize (Inside n) (Inside 0) (chunk_head_text n) content [] content first second)
    (carries-one (Inside 0) AtSize ended (refl, refl)))

-- the chunks of lines
lines_carry : (most : ℕ) → most + 1 < 2 ^ 64 → (lines : List (List ℕ)) → All (IsLine most) lines → Carries AtSize (flat_map (λ line. chunk_text (line ++ 10 ∷ [])) lines) (lines_bytes lines) AtSize
lines_carry most few [] all = carries-none AtSize
lines_carry most few (line ∷ lines) all =
    let fits = All-head (IsLine most) line lines all in
    let size = length-append line (10 ∷ []) in
    carries-append AtSize AtSize AtSize (chunk_text (line ++ 10 ∷ [])) (flat_map (λ l. chunk_text (l ++ 10 ∷ [])) lines) (line ++ 10 ∷ []) (lines_bytes lines)
    (chunk_carries (line ++ 10 ∷ []) (omega (arith, size)) (omega (arith, size, fits.1, few))) (lines_carry most few lines (All-tail (IsLine most) line lines all))

-- the last chunk
end_carries : Carries AtSize stream_end_text [] Over
unfolding digits
end_carries =
    carries-append AtSize Last Over (chunk_head_text 0) crlf_bytes [] [] (size_carries 0 (omega arith)) (carries-one Last Over ended refl)

stands_at : (most : ℕ) (lines : List (List ℕ)) (bytes body : List ℕ) (place : Place) → All (IsLine most) lines → bytes ≡ stream_head_text ++ body → Carries AtSize body (lines_bytes lines) place
    → Stands None most bytes lines (reader_at most place)
stands_at most lines bytes body place all e carries =
    subst (λ b. Stands None most b lines (reader_at most place)) (sym e) (record {
      body = body;
      begins = stream-begins body;
      content = lines_bytes lines;
      passes = record { framed = body; bytes_are = sym (append-nil body); carries = carries; room = refl; most = refl };
      holds = record { joined = sym (append-nil (lines_bytes lines)); lines_are = all; part_is = (All-nil (λ (b : ℕ). b ≢ 10), omega arith) };
    })

pub streams-stand : StreamsStand
streams-stand most lines (few, all) =
    let chunks = flat_map (λ line. chunk_text (line ++ 10 ∷ [])) lines in
    let carry = lines_carry most few lines all in (
      stands_at most lines (stream_bytes lines) chunks AtSize all refl carry,
      stands_at most lines (whole_stream lines) (chunks ++ stream_end_text) Over all (append_assoc stream_head_text chunks stream_end_text)
          (subst (λ c. Carries AtSize (chunks ++ stream_end_text) c Over) (append-nil (lines_bytes lines)) (carries-append AtSize AtSize Over chunks stream_end_text (lines_bytes lines) [] carry end_carries)),
    )
