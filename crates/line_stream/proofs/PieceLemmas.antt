-- Pieces that follow each other.
use Rattle.std.proofs.Common.{◌≡◌, ℕ, ◌+◌, List, [], ◌∷◌, ◌++◌, length, refl, sym, ap, subst, ◌∙◌, arith, append_assoc, append-nil, inl, inr, ◌⊎◌}
use Rattle.std.specs.List.{flat_map}
use Rattle.std.proofs.lemmas.List.Concat.{flat_map-append}
use Rattle.httparse.specs.Grammar.{print_chunk_line, chunk_size}
use Rattle.httparse.proofs.ChunkLemmas.{chunk_line_unique}
use Rattle.line_stream.specs.Chunks.{ChunkPiece, sized, byte, ended, piece_bytes, piece_data, place_behind, Follows, Leads, Carries}
use Rattle.line_stream.specs.declared.place.Place.{Place}
use Rattle.line_stream.specs.declared.place.Place.TheVariants.{AtSize, Inside, Last, Over}

-- ---- what follows what

pub leads-append : (from between to : Place) (first second : List ChunkPiece) → Leads from first between → Leads between second to → Leads from (first ++ second) to
leads-append from between to [] second x y = subst (λ p. Leads p second to) (sym x) y
leads-append from between to (p ∷ first) second x y = (x.0, x.1, leads-append x.0 between to first second x.2 y)

pub carries-none : (place : Place) → Carries place [] [] place
carries-none place = record { pieces = []; leads = refl; bytes_are = refl; content_are = refl }

pub carries-append : (from between to : Place) (a b d e : List ℕ) → Carries from a d between → Carries between b e to → Carries from (a ++ b) (d ++ e) to
carries-append from between to a b d e x y = record {
  pieces = x.pieces ++ y.pieces;
  leads = leads-append from between to x.pieces y.pieces x.leads y.leads;
  bytes_are = ap (λ l. l ++ b) x.bytes_are ∙ ap (λ l. flat_map piece_bytes x.pieces ++ l) y.bytes_are ∙ sym (flat_map-append piece_bytes x.pieces y.pieces);
  content_are = ap (λ l. l ++ e) x.content_are ∙ ap (λ l. flat_map piece_data x.pieces ++ l) y.content_are ∙ sym (flat_map-append piece_data x.pieces y.pieces);
}

-- one piece
pub carries-one : (from to : Place) (piece : ChunkPiece) → Follows from piece to → Carries from (piece_bytes piece) (piece_data piece) to
carries-one from to piece x = record {
  pieces = piece ∷ [];
  leads = (to, x, refl);
  bytes_are = sym (append-nil (piece_bytes piece));
  content_are = sym (append-nil (piece_data piece));
}

-- data of one chunk
pub carries-data : (content : List ℕ) (left : ℕ) → Carries (Inside (length content + left)) content content (Inside left)
carries-data [] left = subst (λ (n : ℕ). Carries (Inside n) [] [] (Inside left)) {x = left} {y = length {A = ℕ} [] + left} (omega arith) (carries-none (Inside left))
carries-data (b ∷ content) left =
    let later = carries-data content left in
    carries-append (Inside (length (b ∷ content) + left)) (Inside (length content + left)) (Inside left) (b ∷ []) content (b ∷ []) content
    (carries-one (Inside (length (b ∷ content) + left)) (Inside (length content + left)) (byte b) (length content + left, omega arith, refl)) later

-- ---- bytes are pieces in one way

tail : List ℕ → List ℕ
tail [] = []
tail (b ∷ bytes) = bytes

head_or_none : List ℕ → ℕ
head_or_none [] = 0
head_or_none (b ∷ bytes) = b

inside_first : (n : ℕ) (p q : ChunkPiece) (to end : Place) (r s : List ℕ) → Follows (Inside n) p to → Follows (Inside n) q end → piece_bytes p ++ r ≡ piece_bytes q ++ s
    → (p ≡ q) × (to ≡ end) × (r ≡ s)
unfolding tail head_or_none
inside_first n (sized l) q to end r s x y e = absurd x
inside_first n (byte a) (sized l) to end r s x y e = absurd y
inside_first n (byte a) (byte b) to end r s x y e =
    let same : x.0 ≡ y.0 = omega (arith, x.1, y.1) in
    (ap byte (ap head_or_none e), x.2 ∙ ap Inside same ∙ sym y.2, ap tail e)
inside_first n (byte a) ended to end r s x y e = absurd (omega (arith, x.1, y.0))
inside_first n ended (sized l) to end r s x y e = absurd y
inside_first n ended (byte b) to end r s x y e = absurd (omega (arith, x.0, y.1))
inside_first n ended ended to end r s x y e = (refl, x.1 ∙ sym y.1, ap (λ l. tail (tail l)) e)

-- at most one piece stands at a place in front of some bytes
pub first-piece : (from : Place) (p q : ChunkPiece) (to end : Place) (r s : List ℕ) → Follows from p to → Follows from q end → piece_bytes p ++ r ≡ piece_bytes q ++ s
    → (p ≡ q) × (to ≡ end) × (r ≡ s)
unfolding tail head_or_none
first-piece AtSize (sized l) (sized k) to end r s x y e =
    let same = chunk_line_unique (print_chunk_line l ++ r) l k r s (x.0, refl) (y.0, e) in
    (ap sized same.0, x.2 ∙ ap (λ m. place_behind (chunk_size m)) same.0 ∙ sym y.2, same.1)
first-piece AtSize (sized l) (byte b) to end r s x y e = absurd y
first-piece AtSize (sized l) ended to end r s x y e = absurd y
first-piece AtSize (byte a) q to end r s x y e = absurd x
first-piece AtSize ended q to end r s x y e = absurd x
first-piece (Inside n) p q to end r s x y e = inside_first n p q to end r s x y e
first-piece Last (sized l) q to end r s x y e = absurd x
first-piece Last (byte a) q to end r s x y e = absurd x
first-piece Last ended (sized l) to end r s x y e = absurd y
first-piece Last ended (byte b) to end r s x y e = absurd y
first-piece Last ended ended to end r s x y e = (refl, x ∙ sym y, ap (λ l. tail (tail l)) e)
first-piece Over p q to end r s x y e = absurd x

-- behind pieces that lead to a place and leave `rest` come others
pub record IsBehind (pieces : List ChunkPiece) (to : Place) (rest : List ℕ) (all : List ChunkPiece) (end : Place) (left : List ℕ) : Type 0 where
  pub more : List ChunkPiece
  pub joined : all ≡ pieces ++ more
  pub leads : Leads to more end
  pub bytes : rest ≡ flat_map piece_bytes more ++ left

next_behind : (from between : Place) (p : ChunkPiece) (pieces : List ChunkPiece) (to : Place) (rest : List ℕ) (q : ChunkPiece) (all : List ChunkPiece) (end : Place) (left : List ℕ) → p ≡ q
    → IsBehind pieces to rest all end left → IsBehind (p ∷ pieces) to rest (q ∷ all) end left
next_behind from between p pieces to rest q all end left e x = record {
  more = x.more;
  joined = ap (λ l. q ∷ l) x.joined ∙ ap (λ r. r ∷ (pieces ++ x.more)) (sym e);
  leads = x.leads;
  bytes = x.bytes;
}

-- of two lists of pieces in front of the same bytes one is a beginning of the other
pub pieces-agree : (from : Place) (ps qs : List ChunkPiece) (to end : Place) (r s : List ℕ) → Leads from ps to → Leads from qs end
    → flat_map piece_bytes ps ++ r ≡ flat_map piece_bytes qs ++ s → IsBehind ps to r qs end s ⊎ IsBehind qs end s ps to r
pieces-agree from [] qs to end r s x y e =
    inl (record { more = qs; joined = refl; leads = subst (λ p. Leads p qs end) x y; bytes = e })
pieces-agree from (p ∷ ps) [] to end r s x y e =
    inr (record { more = p ∷ ps; joined = refl; leads = subst (λ f. Leads f (p ∷ ps) to) y x; bytes = sym e })
pieces-agree from (p ∷ ps) (q ∷ qs) to end r s x y e =
    let P : List ℕ = flat_map piece_bytes ps in
    let Q : List ℕ = flat_map piece_bytes qs in
    let same = first-piece from p q x.0 y.0 (P ++ r) (Q ++ s) x.1 y.1 (sym (append_assoc (piece_bytes p) P r) ∙ e ∙ append_assoc (piece_bytes q) Q s) in
    elim (pieces-agree x.0 ps qs to end r s x.2 (subst (λ b. Leads b qs end) (sym same.1) y.2) same.2) [
      | inl b ↦ inl (next_behind from x.0 p ps to r q qs end s same.0 b)
      | inr b ↦ inr (next_behind from x.0 q qs end s p ps to r (sym same.0) b)
    ]
