-- Two readings of the same bytes.
use Rattle.std.proofs.Common.{◌≡◌, ℕ, ◌<◌, List, [], ◌∷◌, ◌++◌, length, refl, sym, ap, subst, ◌∙◌, arith, append_assoc, append-nil, length-append, inl, inr}
use Rattle.std.specs.Prelude.{◌≢◌, Option, None}
use Rattle.std.specs.List.{All, flat_map}
use Rattle.std.proofs.lemmas.List.Elements.{All-head, All-tail}
use Rattle.std.proofs.lemmas.List.Concat.{flat_map-append}
use Rattle.httparse.proofs.GrammarLemmas.{response_prefix_free}
use Rattle.httparse.specs.Grammar.{print_chunk_line, print_extension}
use Rattle.line_stream.specs.Chunks.{ChunkPiece, sized, byte, ended, piece_bytes, piece_data, Follows, Leads}
use Rattle.line_stream.specs.Readers.{ReaderData, IsWithinLine}
use Rattle.line_stream.specs.Standing.{IsLine, HoldsLines, lines_bytes, Stands}
use Rattle.line_stream.proofs.PieceLemmas.{pieces-agree}
use Rattle.line_stream.proofs.IdleLemmas.{within-none}
use Rattle.line_stream.specs.Streams.{reader_at, AreRead, StreamsReadBack, ReadingsAgree}
use Rattle.line_stream.proofs.StreamLemmas.{streams-stand}
use Rattle.line_stream.specs.declared.place.Place.{Place}
use Rattle.line_stream.specs.declared.place.Place.TheVariants.{AtSize, Over}

-- ---- lines

first_of : List ℕ → ℕ
first_of [] = 0
first_of (b ∷ bytes) = b

rest_of : List ℕ → List ℕ
rest_of [] = []
rest_of (b ∷ bytes) = bytes

-- up to their first line feed two texts are equal
first_feed : (a b x y : List ℕ) → IsWithinLine a → IsWithinLine b → a ++ 10 ∷ x ≡ b ++ 10 ∷ y → (a ≡ b) × (x ≡ y)
unfolding first_of rest_of
first_feed [] [] x y wa wb e = (refl, ap rest_of e)
first_feed [] (c ∷ b) x y wa wb e = absurd (All-head (λ (v : ℕ). v ≢ 10) c b wb (sym (ap first_of e)))
first_feed (c ∷ a) [] x y wa wb e = absurd (All-head (λ (v : ℕ). v ≢ 10) c a wa (ap first_of e))
first_feed (c ∷ a) (d ∷ b) x y wa wb e =
    let P : ℕ → Type 0 = λ v. v ≢ 10 in
    let same = first_feed a b x y (All-tail P c a wa) (All-tail P d b wb) (ap rest_of e) in
    (ap (λ l. c ∷ l) same.0 ∙ ap (λ (v : ℕ). v ∷ b) (ap first_of e), same.1)

-- data of lines, and more, is data of lines in one way
lines_agree : (m n : ℕ) (lines others : List (List ℕ)) (more part : List ℕ) → All (IsLine m) lines → All (IsLine n) others → IsWithinLine part → lines_bytes lines ++ more ≡ lines_bytes others ++ part
    → (later : List (List ℕ)) × (others ≡ lines ++ later) × (more ≡ lines_bytes later ++ part)
lines_agree m n [] others more part a b w e = (others, refl, e)
lines_agree m n (line ∷ lines) [] more part a b w e =
    absurd (within-none part line (lines_bytes lines ++ more) w (sym e ∙ append_assoc (line ++ 10 ∷ []) (lines_bytes lines) more ∙ append_assoc line (10 ∷ []) (lines_bytes lines ++ more)))
lines_agree m n (line ∷ lines) (other ∷ others) more part a b w e =
    let same = first_feed line other (lines_bytes lines ++ more) (lines_bytes others ++ part) (All-head (IsLine m) line lines a).0 (All-head (IsLine n) other others b).0
    (sym (append_assoc (line ++ 10 ∷ []) (lines_bytes lines) more ∙ append_assoc line (10 ∷ []) (lines_bytes lines ++ more)) ∙ e
    ∙ append_assoc (other ++ 10 ∷ []) (lines_bytes others) part ∙ append_assoc other (10 ∷ []) (lines_bytes others ++ part)) in
    let later = lines_agree m n lines others more part (All-tail (IsLine m) line lines a) (All-tail (IsLine n) other others b) w same.1 in
    (later.0, ap (λ l. l ∷ others) (sym same.0) ∙ ap (λ l. line ∷ l) later.1, later.2)

-- no line stands in a part of one
no_lines : (lines : List (List ℕ)) (part : List ℕ) → IsWithinLine part → part ≡ lines_bytes lines ++ [] → lines ≡ []
no_lines [] part w e = refl
no_lines (line ∷ lines) part w e =
    absurd (within-none part line (lines_bytes lines ++ []) w (e ∙ append_assoc (line ++ 10 ∷ []) (lines_bytes lines) [] ∙ append_assoc line (10 ∷ []) (lines_bytes lines ++ [])))

-- ---- pieces

-- a piece has bytes
piece_some : (place : Place) (piece : ChunkPiece) (to : Place) → Follows place piece to → 0 < length (piece_bytes piece)
unfolding print_chunk_line
piece_some place (sized l) to x = omega (arith, length-append (l.digits ++ l.pad ++ print_extension l.extension) (13 ∷ 10 ∷ []))
piece_some place (byte b) to x = omega arith
piece_some place ended to x = omega arith

-- nothing comes behind the end of the body, nor out of no bytes
pub nothing_over : (pieces : List ChunkPiece) (to : Place) → Leads Over pieces to → pieces ≡ []
nothing_over [] to x = refl
nothing_over (piece ∷ pieces) to x = absurd x.1

nothing_of_none : (place : Place) (pieces : List ChunkPiece) (to : Place) (rest : List ℕ) → Leads place pieces to → [] ≡ flat_map piece_bytes pieces ++ rest → pieces ≡ []
nothing_of_none place [] to rest x e = refl
nothing_of_none place (piece ∷ pieces) to rest x e =
    absurd (omega (arith, piece_some place piece x.0 x.1, ap length e, length-append (piece_bytes piece ++ flat_map piece_bytes pieces) rest, length-append (piece_bytes piece) (flat_map piece_bytes pieces)))

-- ---- readers

module _ (limit : ℕ) (lines read : List (List ℕ)) (room : Option ℕ) (most : ℕ) (bytes more : List ℕ) (reader : ReaderData)
    (x : Stands room most bytes read reader) (y : Stands None limit (bytes ++ more) lines (reader_at limit Over)) where
  -- the bodies are one
  same_body : x.body ++ more ≡ y.body
  same_body = (response_prefix_free bytes more x.begins.0 y.begins.0 x.body y.body x.begins.1.reads y.begins.1.reads).1

  p : List ChunkPiece
  p = x.passes.carries.pieces

  q : List ChunkPiece
  q = y.passes.carries.pieces

  same_bytes : flat_map piece_bytes p ++ (reader.kept ++ more) ≡ flat_map piece_bytes q ++ []
  unfolding p q same_body
  same_bytes =
      sym (append_assoc (flat_map piece_bytes x.passes.carries.pieces) reader.kept more)
      ∙ ap (λ l. (l ++ reader.kept) ++ more) (sym x.passes.carries.bytes_are) ∙ ap (λ l. l ++ more) (sym x.passes.bytes_are)
      ∙ same_body ∙ y.passes.bytes_are ∙ ap (λ l. l ++ []) y.passes.carries.bytes_are

  -- what was read of the data is a beginning of it
  read_first : (behind : List ChunkPiece) → q ≡ p ++ behind → (reader.place ≡ Over → behind ≡ []) → AreRead lines read reader
  unfolding p q
  read_first behind e none =
      let more_data = flat_map piece_data behind in
      let all : y.content ≡ x.content ++ more_data =
      y.passes.carries.content_are ∙ ap (flat_map piece_data) e ∙ flat_map-append piece_data x.passes.carries.pieces behind ∙ ap (λ l. l ++ more_data) (sym x.passes.carries.content_are) in
      let later = lines_agree most limit read lines (reader.part ++ more_data) [] x.holds.lines_are y.holds.lines_are y.holds.part_is.0
      (sym (append_assoc (lines_bytes read) reader.part more_data) ∙ ap (λ l. l ++ more_data) (sym x.holds.joined) ∙ sym all ∙ y.holds.joined) in record {
        later = later.0;
        joined = later.1;
        all = λ over. no_lines later.0 reader.part x.holds.part_is.0 (sym (append-nil reader.part) ∙ ap (λ b. reader.part ++ flat_map piece_data b) (sym (none over)) ∙ later.2);
      }

  pub reads-first : AreRead lines read reader
  unfolding p q same_bytes
  reads-first =
      elim (pieces-agree AtSize p q reader.place Over (reader.kept ++ more) [] x.passes.carries.leads y.passes.carries.leads same_bytes) [
        | inl b ↦ read_first b.more b.joined (λ over. nothing_over b.more Over (subst (λ place. Leads place b.more Over) over b.leads))
        | inr b ↦
            let none = nothing_of_none Over b.more reader.place (reader.kept ++ more) b.leads b.bytes in
            read_first [] (sym (append-nil q) ∙ ap (λ l. q ++ l) (sym none) ∙ sym b.joined ∙ sym (append-nil p)) (λ over. refl)
      ]

pub streams-read-back : StreamsReadBack
streams-read-back limit lines read room most bytes more reader all x e =
    reads-first limit lines read room most bytes more reader x (subst (λ b. Stands None limit b lines (reader_at limit Over)) (sym e) (streams-stand limit lines all).1)

-- ---- two readers

-- more pieces have more data
data_on : (pieces others behind : List ChunkPiece) (content other : List ℕ) → content ≡ flat_map piece_data pieces → other ≡ flat_map piece_data others → others ≡ pieces ++ behind
    → other ≡ content ++ flat_map piece_data behind
data_on pieces others behind content other one two e =
    two ∙ ap (flat_map piece_data) e ∙ flat_map-append piece_data pieces behind ∙ ap (λ l. l ++ flat_map piece_data behind) (sym one)

-- and more data has more lines
lines_on : (m n : ℕ) (content other data_behind : List ℕ) (lines others : List (List ℕ)) (part open_part : List ℕ) → HoldsLines m content lines part → HoldsLines n other others open_part → other ≡ content ++ data_behind
    → (later : List (List ℕ)) × (others ≡ lines ++ later)
lines_on m n content other data_behind lines others part open_part x y e =
    let later = lines_agree m n lines others (part ++ data_behind) open_part x.lines_are y.lines_are y.part_is.0
    (sym (append_assoc (lines_bytes lines) part data_behind) ∙ ap (λ l. l ++ data_behind) (sym x.joined) ∙ sym e ∙ y.joined) in
    (later.0, later.1)

pub readings-agree : ReadingsAgree
readings-agree lines others room bound most limit bytes more reader other x y =
    let body : x.body ++ more ≡ y.body = (response_prefix_free bytes more x.begins.0 y.begins.0 x.body y.body x.begins.1.reads y.begins.1.reads).1 in
    let ps : List ChunkPiece = x.passes.carries.pieces in
    let qs : List ChunkPiece = y.passes.carries.pieces in
    let same : flat_map piece_bytes ps ++ (reader.kept ++ more) ≡ flat_map piece_bytes qs ++ other.kept =
    sym (append_assoc (flat_map piece_bytes ps) reader.kept more)
    ∙ ap (λ l. (l ++ reader.kept) ++ more) (sym x.passes.carries.bytes_are) ∙ ap (λ l. l ++ more) (sym x.passes.bytes_are)
    ∙ body ∙ y.passes.bytes_are ∙ ap (λ l. l ++ other.kept) y.passes.carries.bytes_are in
    elim (pieces-agree AtSize ps qs reader.place other.place (reader.kept ++ more) other.kept x.passes.carries.leads y.passes.carries.leads same) [
      | inl b ↦ inl (lines_on most limit x.content y.content (flat_map piece_data b.more) lines others reader.part other.part x.holds y.holds
          (data_on ps qs b.more x.content y.content x.passes.carries.content_are y.passes.carries.content_are b.joined))
      | inr b ↦ inr (lines_on limit most y.content x.content (flat_map piece_data b.more) others lines other.part reader.part y.holds x.holds
          (data_on qs ps b.more y.content x.content y.passes.carries.content_are x.passes.carries.content_are b.joined))
    ]
