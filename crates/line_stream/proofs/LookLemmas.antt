-- What is found in front of some bytes.
use Rattle.std.proofs.Common.{◌≡◌, ◌==◌, true, false, ltb, ℕ, ◌+◌, ◌<◌, ◌≤◌, List, [], ◌∷◌, ◌++◌, length, take, drop, get_or, refl, sym, ap, subst, ◌∙◌, arith, append_assoc, min, length-append, length-take, length-take-le, ◌-◌, None, Some, take_all, take-append-drop}
use Rattle.std.proofs.lemmas.Bool.{ltb-true, ltb-false}
use Rattle.std.proofs.lemmas.Bool.Decides.{nat_tests}
use Rattle.std.proofs.lemmas.List.{take_min, take-append-le, drop-append-le, nil_from_length}
use Rattle.httparse.specs.Ascii.{crlf_bytes}
use Rattle.httparse.specs.Grammar.{ChunkLine, print_chunk_line, HasNoChunkLine, MayBecomeChunkLine}
use Rattle.httparse.specs.Spans.{IsChunkLineAt}
use Rattle.line_stream.specs.Chunks.{most_size, sized, place_behind, MayBecomeEnd, IsOpenAt}
use Rattle.std.specs.Prelude.{Option}
use Rattle.line_stream.specs.Readers.{IsWithinLine, FitsRoom, IsOverlong}
use Rattle.line_stream.specs.Looks.{IsFrame, IsData}
use Rattle.line_stream.specs.declared.place.Place.{Place}
use Rattle.line_stream.specs.declared.place.Place.TheVariants.{AtSize, Inside}

pub length-none : (bytes : List ℕ) → (length bytes == 0) ≡ true → length bytes ≡ 0
length-none bytes e = grind (arith, nat_tests)

-- no bytes may become the end of a line, and so may its first one
pub ends-nowhere : (bytes : List ℕ) → length bytes ≡ 0 → MayBecomeEnd bytes
ends-nowhere bytes none = (crlf_bytes, omega arith, ap (λ l. l ++ crlf_bytes) (nil_from_length bytes none))

pub ends-half : (bytes : List ℕ) → length bytes ≡ 1 → get_or bytes 0 0 ≡ 13 → MayBecomeEnd bytes
ends-half [] one is = absurd (omega (arith, one))
ends-half (b ∷ []) one is = (10 ∷ [], omega arith, ap (λ (x : ℕ). x ∷ 10 ∷ []) is)
ends-half (b ∷ c ∷ bytes) one is = absurd (omega (arith, one))

-- the first bytes, as many as there are
pub front-min : (bytes : List ℕ) (n most : ℕ) → n ≡ min (length bytes) most → take n bytes ≡ take most bytes
front-min bytes n most e =
    ap (λ (k : ℕ). take k bytes) {x = n} {y = min most (length bytes)} (omega arith) ∙ take_min most bytes

-- what stands in the front of some bytes stands in front of them
pub front-stands : (bytes first : List ℕ) (n len : ℕ) → take n bytes ≡ first ++ drop len (take n bytes) → len ≡ length first → bytes ≡ first ++ drop len bytes
front-stands bytes first n len e l =
    let rest = drop n bytes in
    let within : len ≤ length (take n bytes) = omega (arith, l, ap length e, length-append first (drop len (take n bytes))) in
    sym (take-append-drop n bytes) ∙ ap (λ x. x ++ rest) e ∙ append_assoc first (drop len (take n bytes)) rest
    ∙ ap (λ x. first ++ x) (sym (drop-append-le len (take n bytes) rest within) ∙ ap (drop len) (take-append-drop n bytes))

-- the line of a chunk
pub finds-size : (bytes buf : List ℕ) (len size : ℕ) (to : Place) → buf ≡ take most_size bytes → (l : ChunkLine) × IsChunkLineAt buf len size l → to ≡ place_behind size
    → IsFrame AtSize bytes len to
finds-size bytes buf len size to e line t =
    let l = line.0 in
    let at = subst (λ b. IsChunkLineAt b len size l) e line.1 in
    let stands = front-stands bytes (print_chunk_line l) most_size len at.reads.1 at.len_is in record {
      piece = sized l;
      follows = (at.reads.0, front-short bytes (print_chunk_line l) (drop len (take most_size bytes)) at.reads.1, t ∙ ap place_behind at.size_is);
      stands = stands;
      len_is = at.len_is;
      no_data = refl;
    }
  where
    front-short : (bytes first rest : List ℕ) → take most_size bytes ≡ first ++ rest → length first ≤ most_size
    front-short bytes first rest e = omega (arith, ap length e, length-append first rest, length-take most_size bytes)

-- a line that isn't whole yet, in fewer bytes than it may have
pub opens-size : (bytes buf : List ℕ) → buf ≡ take most_size bytes → length bytes < most_size → HasNoChunkLine buf → MayBecomeChunkLine buf → IsOpenAt AtSize bytes
opens-size bytes buf e few none may =
    let same : buf ≡ bytes = e ∙ take_all most_size bytes (omega (arith, few)) in
    (few, subst HasNoChunkLine same none, subst MayBecomeChunkLine same may)

-- ---- data

-- less data than fits fits too
pub fits-less : (room : Option ℕ) (n m : ℕ) → m ≤ n → FitsRoom room n → FitsRoom room m
fits-less None n m h x = tt
fits-less (Some r) n m h x = omega (arith, h, x)

-- the front of the bytes at hand is that of the bytes
front-of-front : (kept hand : List ℕ) (len : ℕ) → hand ≡ take (length hand) kept → len ≤ length hand → take len hand ≡ take len kept
front-of-front kept hand len e h =
    sym (take-append-le len hand (drop (length hand) kept) h)
    ∙ ap (take len) (ap (λ l. l ++ drop (length hand) kept) e ∙ take-append-drop (length hand) kept)

module _ (kept part hand : List ℕ) (size len : ℕ) (room : Option ℕ) (most : ℕ)
    (front : hand ≡ take (length hand) kept) (fits : length hand ≤ size) (may : FitsRoom room (length hand))
    (within : len ≤ length hand) (line : IsWithinLine (take len hand)) where
  pub is-overlong : true ≡ ltb most (length part + len) → IsOverlong (record { kept = kept; place = Inside size; part = part; room = room; most = most })
  is-overlong long =
      let same = front-of-front kept hand len front within in
      let size_is : length (take len kept) ≡ len = ap length (sym same) ∙ length-take-le len hand within in record {
        content = take len kept;
        after = drop len kept;
        size = size;
        at_hand = sym (take-append-drop len kept);
        place = refl;
        fits = omega (arith, size_is, fits, within);
        room = fits-less room (length hand) (length (take len kept)) (omega (arith, size_is, within)) may;
        within = subst IsWithinLine same line;
        long = omega (arith, ltb-true most (length part + len) (sym long), size_is);
      }

  pub is-data : length hand ≤ length kept → false ≡ ltb most (length part + len) → (len ≡ 0 → ⊥)
      → IsData (record { kept = kept; place = Inside size; part = part; room = room; most = most }) len (size - len)
  is-data here short some = record {
    some = omega (arith, some);
    stands = omega (arith, within, here);
    place = ap Inside {x = size} {y = len + (size - len)} (omega (arith, fits, within));
    room = fits-less room (length hand) len within may;
    within = subst IsWithinLine (front-of-front kept hand len front within) line;
    short = ltb-false most (length part + len) (sym short);
  }
