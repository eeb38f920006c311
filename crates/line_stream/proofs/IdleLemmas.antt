-- Where a line stands, and where none does.
use Rattle.std.proofs.Common.{◌≡◌, ℕ, ◌+◌, ◌<◌, List, [], ◌∷◌, ◌++◌, length, drop, refl, sym, ap, subst, ◌∙◌, arith, append_assoc, length-append, eq-zero-or-pos, inl, inr, ◌⊎◌}
use Rattle.std.specs.Prelude.{◌≢◌}
use Rattle.std.specs.List.{flat_map}
use Rattle.std.proofs.lemmas.List.{drop_at}
use Rattle.std.proofs.lemmas.List.Elements.{All-drop, All-head, All-same}
use Rattle.std.proofs.lemmas.List.Concat.{flat_map-append}
use Rattle.httparse.specs.Ascii.{crlf_bytes}
use Rattle.line_stream.specs.Chunks.{ChunkPiece, sized, byte, ended, piece_bytes, piece_data, Follows, Leads, IsOpenAt, MayBecomeEnd, most_size}
use Rattle.line_stream.specs.Readers.{ReaderData, IsWithinLine, GoesOn, EndsLine, HoldsLine}
use Rattle.line_stream.proofs.PieceLemmas.{first-piece, pieces-agree, IsBehind}
use Rattle.line_stream.specs.declared.place.Place.{Place}
use Rattle.line_stream.specs.declared.place.Place.TheVariants.{AtSize, Inside, Last, Over}

end_few : (bytes : List ℕ) → MayBecomeEnd bytes → length bytes < most_size
end_few bytes x = omega (arith, x.1, ap length x.2, length-append bytes x.0)

-- where a piece isn't whole there are few bytes
pub open-few : (place : Place) (bytes : List ℕ) → IsOpenAt place bytes → length bytes < most_size
open-few AtSize bytes x = x.0
open-few (Inside n) bytes x = elim (eq-zero-or-pos n) [
  | inl z ↦ end_few bytes (x.0 z)
  | inr some ↦ omega (arith, ap length (x.1 some))
]
open-few Last bytes x = end_few bytes x
open-few Over bytes x = absurd x

-- and no piece stands there
end_short : (bytes rest : List ℕ) → MayBecomeEnd bytes → bytes ≡ crlf_bytes ++ rest → ⊥
end_short bytes rest x e = omega (arith, x.1, ap length x.2, length-append bytes x.0, ap length e)

pub open-none : (place : Place) (bytes : List ℕ) (piece : ChunkPiece) (to : Place) (rest : List ℕ) → IsOpenAt place bytes → Follows place piece to → bytes ≡ piece_bytes piece ++ rest → ⊥
open-none AtSize bytes (sized l) to rest x f e = x.1 l rest (f.0, e)
open-none AtSize bytes (byte b) to rest x f e = f
open-none AtSize bytes ended to rest x f e = f
open-none (Inside n) bytes (sized l) to rest x f e = f
open-none (Inside n) bytes (byte b) to rest x f e = omega (arith, ap length (sym (x.1 (omega (arith, f.1))) ∙ e))
open-none (Inside n) bytes ended to rest x f e = end_short bytes rest (x.0 f.0) e
open-none Last bytes (sized l) to rest x f e = f
open-none Last bytes (byte b) to rest x f e = f
open-none Last bytes ended to rest x f e = end_short bytes rest x e
open-none Over bytes piece to rest x f e = f

-- ---- two ways over the same bytes

-- the second went on where the first stands
pub record IsAhead (first second : ReaderData) (content whole : List ℕ) : Type 0 where
  pub more : List ChunkPiece
  pub leads : Leads first.place more second.place
  pub bytes : first.kept ≡ flat_map piece_bytes more ++ second.kept
  pub rest : whole ≡ content ++ flat_map piece_data more

is_ahead : (ps qs : List ChunkPiece) (first second : ReaderData) (content whole : List ℕ) → IsBehind ps first.place first.kept qs second.place second.kept
    → content ≡ flat_map piece_data ps → whole ≡ flat_map piece_data qs → IsAhead first second content whole
is_ahead ps qs first second content whole b c w = record {
  more = b.more;
  leads = b.leads;
  bytes = b.bytes;
  rest = w ∙ ap (flat_map piece_data) b.joined ∙ flat_map-append piece_data ps b.more ∙ ap (λ l. l ++ flat_map piece_data b.more) (sym c);
}

-- of two ways over the same bytes one goes on where the other stands
pub goings-agree : (old mid new : ReaderData) (bytes : List ℕ) (x : GoesOn old bytes mid) (y : GoesOn old bytes new)
    → IsAhead mid new x.content y.content ⊎ IsAhead new mid y.content x.content
goings-agree old mid new bytes x y =
    let p = x.passes.carries in
    let q = y.passes.carries in
    elim (pieces-agree old.place p.pieces q.pieces mid.place new.place mid.kept new.kept p.leads q.leads
    (ap (λ l. l ++ mid.kept) (sym p.bytes_are) ∙ sym x.passes.bytes_are ∙ y.passes.bytes_are ∙ ap (λ l. l ++ new.kept) q.bytes_are)) [
      | inl b ↦ inl (is_ahead p.pieces q.pieces mid new x.content y.content b p.content_are q.content_are)
      | inr b ↦ inr (is_ahead q.pieces p.pieces new mid y.content x.content b q.content_are p.content_are)
    ]

-- bytes without a line feed have none
pub within-none : (content rest more : List ℕ) → IsWithinLine content → content ≡ rest ++ 10 ∷ more → ⊥
within-none content rest more w e =
    let P : ℕ → Type 0 = λ b. b ≢ 10 in
    let behind : drop (length rest) content ≡ 10 ∷ more = ap (drop (length rest)) e ∙ drop_at rest (10 ∷ more) (length rest) refl in
    All-head P 10 more (All-same P (10 ∷ more) (drop (length rest) content) (sym behind) (All-drop P (length rest) content w)) refl

-- a reader stands before a line feed that ends its line
abbrev pub AtFeed : Place → List ℕ → Type 0
AtFeed place bytes = (left : ℕ) × (after : List ℕ) × (place ≡ Inside (1 + left)) × (bytes ≡ 10 ∷ after)

pub at-feed : (old new : ReaderData) → EndsLine old new → AtFeed old.place old.kept
at-feed old new x = (x.left, new.kept, x.inside, x.feed)

-- the piece that stands there is the line feed
feed_piece : (place : Place) (bytes : List ℕ) (piece : ChunkPiece) (to : Place) (rest : List ℕ) → AtFeed place bytes → Follows place piece to → bytes ≡ piece_bytes piece ++ rest → piece ≡ byte 10
feed_piece place bytes piece to rest a f e =
    (first-piece (Inside (1 + a.0)) piece (byte 10) to (Inside a.0) rest a.1
    (subst (λ p. Follows p piece to) a.2 f) (a.0, omega arith, refl) (sym e ∙ a.3)).0

-- so no pieces without a line feed lead over it
pub feed-none : (place : Place) (bytes : List ℕ) (pieces : List ChunkPiece) (to : Place) (rest content before : List ℕ) → AtFeed place bytes → Leads place pieces to
    → bytes ≡ flat_map piece_bytes pieces ++ rest → IsWithinLine content → content ≡ before ++ flat_map piece_data pieces → pieces ≡ []
feed-none place bytes [] to rest content before a leads e w c = refl
feed-none place bytes (piece ∷ pieces) to rest content before a leads e w c =
    let is = feed_piece place bytes piece leads.0 (flat_map piece_bytes pieces ++ rest) a leads.1 (e ∙ append_assoc (piece_bytes piece) (flat_map piece_bytes pieces) rest) in
    absurd (within-none content before (flat_map piece_data pieces) w (c ∙ ap (λ p. before ++ (piece_data p ++ flat_map piece_data pieces)) is))

-- where a piece isn't whole, no line ends
open_no_feed : (place : Place) (bytes : List ℕ) → IsOpenAt place bytes → AtFeed place bytes → ⊥
open_no_feed place bytes x a =
    open-none (Inside (1 + a.0)) bytes (byte 10) (Inside a.0) a.1 (subst (λ p. IsOpenAt p bytes) a.2 x) (a.0, omega arith, refl) a.3

-- a line of which a reader has read no end, and which waits for more bytes, doesn't stand in the bytes that it had
pub open-holds-none : (old mid : ReaderData) → GoesOn old old.kept mid → IsOpenAt mid.place mid.kept → HoldsLine old → ⊥
open-holds-none old mid x waits holds =
    let before = holds.2.before in
    let y = holds.2.goes in
    let feed = at-feed before holds.1 holds.2.ends in
    elim (goings-agree old mid before old.kept x y) [
      | inl b ↦ ahead b.more b.leads b.bytes feed
      | inr b ↦ behind b.more b.leads b.bytes b.rest feed
    ]
  where
    stays : (place other : Place) (bytes more : List ℕ) → place ≡ other → bytes ≡ more → AtFeed place bytes → AtFeed other more
    stays place other bytes more p e a = (a.0, a.1, sym p ∙ a.2, sym e ∙ a.3)

    ahead : (more : List ChunkPiece) → Leads mid.place more holds.2.before.place → mid.kept ≡ flat_map piece_bytes more ++ holds.2.before.kept → AtFeed holds.2.before.place holds.2.before.kept → ⊥
    ahead [] leads e feed = open_no_feed mid.place mid.kept waits (stays holds.2.before.place mid.place holds.2.before.kept mid.kept (sym leads) (sym e) feed)
    ahead (piece ∷ more) leads e feed =
        open-none mid.place mid.kept piece leads.0 (flat_map piece_bytes more ++ holds.2.before.kept) waits leads.1 (e ∙ append_assoc (piece_bytes piece) (flat_map piece_bytes more) holds.2.before.kept)

    behind : (more : List ChunkPiece) → Leads holds.2.before.place more mid.place → holds.2.before.kept ≡ flat_map piece_bytes more ++ mid.kept
        → x.content ≡ holds.2.goes.content ++ flat_map piece_data more → AtFeed holds.2.before.place holds.2.before.kept → ⊥
    behind more leads e c feed =
        let none = feed-none holds.2.before.place holds.2.before.kept more mid.place mid.kept x.content holds.2.goes.content feed leads e x.within c in
        open_no_feed mid.place mid.kept waits
        (stays holds.2.before.place mid.place holds.2.before.kept mid.kept (subst (λ m. Leads holds.2.before.place m mid.place) none leads) (e ∙ ap (λ m. flat_map piece_bytes m ++ mid.kept) none) feed)
