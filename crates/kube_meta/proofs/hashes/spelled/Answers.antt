use Rattle.std.proofs.Common.{◌<◌, ◌^◌, take, length, arith, length-take}
use Rattle.kube_meta.specs.Hashes.{spelled}
use Rattle.kube_meta.proofs.HashLemmas.{bytes_first, few_spell}
use Rattle.kube_meta.proofs.hashes.spelled.Goals as goal

pub overflow_mul-number : goal.overflow_mul-number
overflow_mul-number c =
    let i = c.loop-byte.byte-index in
    let bytes = c.args.bytes.now in
    let few : length (take i bytes) < 8 = omega (arith, length-take i bytes, c.requires) in
    let small : spelled (take i bytes) < 2 ^ 56 = few_spell (take i bytes) few (bytes_first i bytes (λ k. omega (arith, c.type_inv.bytes k))) in
    omega (arith, small, c.loop-byte.invariant)

pub overflow_add-number : goal.overflow_add-number
overflow_add-number c =
    let i = c.loop-byte.byte-index in
    let bytes = c.args.bytes.now in
    let few : length (take i bytes) < 8 = omega (arith, length-take i bytes, c.requires) in
    let small : spelled (take i bytes) < 2 ^ 56 = few_spell (take i bytes) few (bytes_first i bytes (λ k. omega (arith, c.type_inv.bytes k))) in
    let byte = c.type_inv.bytes i in
    omega (arith, small, byte, c.loop-byte.invariant)
