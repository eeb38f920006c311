-- A body is read in one way.
use Rattle.std.proofs.Common.{◌≡◌, ℕ, List, [], ◌∷◌, ◌++◌, Some, length, take, drop, refl, sym, ap, ◌∙◌, append_assoc, append-nil, inl, inr}
use Rattle.std.specs.List.{flat_map}
use Rattle.std.proofs.lemmas.List.{take_at, drop_at}
use Rattle.httparse.proofs.GrammarLemmas.{response_prefix_free}
use Rattle.line_stream.specs.Bodies.{IsInCounted, IsInChunks}
use Rattle.line_stream.specs.BodyLaws.{BodiesAreDetermined}
use Rattle.line_stream.specs.Chunks.{ChunkPiece, piece_bytes, piece_data}
use Rattle.line_stream.specs.Framings.{BeginsFramed, framing_in}
use Rattle.line_stream.proofs.AgreeLemmas.{nothing_over}
use Rattle.line_stream.proofs.PieceLemmas.{pieces-agree, IsBehind}
use Rattle.line_stream.specs.declared.framing.Framing.{Framing}
use Rattle.line_stream.specs.declared.framing.Framing.TheVariants.{Counted, Chunked}
use Rattle.line_stream.specs.declared.place.Place.TheVariants.{AtSize, Over}

-- the heads are one, and say the same
bodies_same : (bytes more body whole : List ℕ) (f g : Framing) → BeginsFramed bytes f body → BeginsFramed (bytes ++ more) g whole → body ++ more ≡ whole
bodies_same bytes more body whole f g x y = (response_prefix_free bytes more x.0 y.0 body whole x.1.reads y.1.reads).1

framings_same : (bytes more body whole : List ℕ) (f g : Framing) → BeginsFramed bytes f body → BeginsFramed (bytes ++ more) g whole → Some f ≡ Some g
framings_same bytes more body whole f g x y =
    sym x.3 ∙ ap framing_in (response_prefix_free bytes more x.0 y.0 body whole x.1.reads y.1.reads).0 ∙ y.3

sizes_same : (n m : ℕ) → Some (Counted n) ≡ Some (Counted m) → n ≡ m
sizes_same n m e = cc

never_both : (n : ℕ) → Some (Counted n) ≡ Some Chunked → ⊥
never_both n e = cc

counted : (bytes more text other after later : List ℕ) → IsInCounted bytes (length text) text after → IsInCounted (bytes ++ more) (length other) other later
    → (other ≡ text) × (later ≡ after ++ more)
counted bytes more text other after later x y =
    let size : length other ≡ length text = sym (sizes_same (length text) (length other) (framings_same bytes more x.body y.body (Counted (length text)) (Counted (length other)) x.begins y.begins)) in
    let all : text ++ (after ++ more) ≡ other ++ later =
    sym (append_assoc text after more) ∙ ap (λ l. l ++ more) (sym x.joined) ∙ bodies_same bytes more x.body y.body (Counted (length text)) (Counted (length other)) x.begins y.begins ∙ y.joined in (
      sym (take_at other later (length text) size) ∙ ap (take (length text)) (sym all) ∙ take_at text (after ++ more) (length text) refl,
      sym (drop_at other later (length text) size) ∙ ap (drop (length text)) (sym all) ∙ drop_at text (after ++ more) (length text) refl,
    )

-- pieces up to the end of a body, with nothing but more behind it
ended : (ps qs : List ChunkPiece) (rest left : List ℕ) → IsBehind ps Over rest qs Over left → (qs ≡ ps) × (rest ≡ left)
ended ps qs rest left b =
    let none = nothing_over b.more Over b.leads in
    (b.joined ∙ ap (λ m. ps ++ m) none ∙ append-nil ps, b.bytes ∙ ap (λ m. flat_map piece_bytes m ++ left) none)

chunks : (bytes more text other after later : List ℕ) → IsInChunks bytes text after Over → IsInChunks (bytes ++ more) other later Over
    → (other ≡ text) × (later ≡ after ++ more)
chunks bytes more text other after later x y =
    let p = x.carries in
    let q = y.carries in
    let all : flat_map piece_bytes p.pieces ++ (after ++ more) ≡ flat_map piece_bytes q.pieces ++ later =
    ap (λ l. l ++ (after ++ more)) (sym p.bytes_are) ∙ sym (append_assoc x.framed after more) ∙ ap (λ l. l ++ more) (sym x.joined)
    ∙ bodies_same bytes more x.body y.body Chunked Chunked x.begins y.begins ∙ y.joined ∙ ap (λ l. l ++ later) q.bytes_are in
    let same : (q.pieces ≡ p.pieces) × (after ++ more ≡ later) = elim (pieces-agree AtSize p.pieces q.pieces Over Over (after ++ more) later p.leads q.leads all) [
      | inl b ↦ ended p.pieces q.pieces (after ++ more) later b
      | inr b ↦ let turned = ended q.pieces p.pieces later (after ++ more) b in (sym turned.0, sym turned.1)
    ] in
    (q.content_are ∙ ap (flat_map piece_data) same.0 ∙ sym p.content_are, sym same.1)

pub bodies-are-determined : BodiesAreDetermined
bodies-are-determined bytes more text other after later (inl x) (inl y) = counted bytes more text other after later x y
bodies-are-determined bytes more text other after later (inl x) (inr y) =
    absurd (never_both (length text) (framings_same bytes more x.body y.body (Counted (length text)) Chunked x.begins y.begins))
bodies-are-determined bytes more text other after later (inr x) (inl y) =
    absurd (never_both (length other) (sym (framings_same bytes more x.body y.body Chunked (Counted (length other)) x.begins y.begins)))
bodies-are-determined bytes more text other after later (inr x) (inr y) = chunks bytes more text other after later x y
