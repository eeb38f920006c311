use Rattle.std.proofs.Common.{◌≡◌, ℕ, ◌-◌, ◌/◌, List, [], length, take, get_or, ap, sym, ◌∙◌, arith, length-take}
use Rattle.std.specs.Simd.{first_chunks}
use Rattle.std.proofs.lemmas.List.{take_all}
use Rattle.std.proofs.lemmas.List.Sums.{fold_more}
use Rattle.kube_meta.specs.Hashes.{stirred, spelled, stirred_by}
use Rattle.kube_meta.proofs.HashLemmas.{chunks_within, chunk_long, eight_spell}
use Rattle.kube_meta.proofs.hashes.front_hash.Goals as goal

pub loop-piece-preserved : goal.loop-piece-preserved
loop-piece-preserved c =
    let first = take (length c.args.bytes.now - 1) c.args.bytes.now in
    let pieces = c.as_chunks.result.0.now in
    let i = c.loop-piece.piece-index in
    let are : pieces ≡ first_chunks 8 (length first / 8) first = c.as_chunks.ensures.front in
    let many : length pieces ≡ length first / 8 = c.as_chunks.ensures.front_len in
    let long : length (get_or pieces i []) ≡ 8 =
    ap (λ (p : List (List ℕ)). length (get_or p i [])) are ∙ chunk_long (length first / 8) i first (omega arith) (omega (arith, many, c.loop-piece-test.true)) in
    let number : c.from_be_bytes.result ≡ spelled (get_or pieces i []) = c.from_be_bytes.ensures ∙ eight_spell (get_or pieces i []) long in
    c.stirred-hash.ensures
    ∙ ap (stirred c.loop-piece.hash) number
    ∙ ap (λ (h : ℕ). stirred h (spelled (get_or pieces i []))) c.loop-piece.invariant
    ∙ sym (fold_more (λ (h : ℕ) (piece : List ℕ). stirred h (spelled piece)) c.args.seed pieces i [] c.loop-piece-test.true)

pub returns : goal.returns
returns c =
    let bytes = c.args.bytes.now in
    let first = take (length bytes - 1) bytes in
    let pieces = c.as_chunks.result.0.now in
    let are : pieces ≡ first_chunks 8 (length first / 8) first = c.as_chunks.ensures.front in
    let count : length first ≡ length bytes - 1 = omega (arith, length-take (length bytes - 1) bytes) in
    c.loop-piece.invariant
    ∙ ap (stirred_by c.args.seed) (take_all c.loop-piece.piece-index pieces c.loop-piece-test.false ∙ are
    ∙ chunks_within (length first / 8) (length bytes - 1) bytes (omega (arith, count))
    ∙ ap (λ (n : ℕ). first_chunks 8 (n / 8) bytes) count)
