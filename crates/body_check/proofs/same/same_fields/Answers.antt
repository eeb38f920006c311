use Rattle.std.proofs.Common.{◌≡◌, ℕ, suc, ◌<◌, ◌≤◌, List, [], ◌∷◌, length, Some, refl, arith}
use Rattle.std.specs.List.{slice_get}
use Rattle.body_check.proofs.same.same_fields.Goals as goal

one : {x y : List ℕ} → Some x ≡ Some y → x ≡ y
one e = cc

-- lists that have the same at each place
same_at : (xs ys : List (List ℕ)) → length xs ≡ length ys → ((k : ℕ) → k < length xs → slice_get xs k ≡ slice_get ys k) → xs ≡ ys
same_at [] [] long at = refl
same_at [] (y ∷ ys) long at = absurd (omega (arith, long))
same_at (x ∷ xs) [] long at = absurd (omega (arith, long))
same_at (x ∷ xs) (y ∷ ys) long at =
    let head : x ≡ y = one (at 0 (omega arith)) in
    let tail : xs ≡ ys = same_at xs ys (omega (arith, long)) (λ k inside. at (suc k) (omega (arith, inside))) in
    λ i. head i ∷ tail i

pub returns : goal.returns
returns c =
    let size : length c.args.a.now ≤ c.loop-i.i = omega (arith, c.loop-i-test.false, c.len-i-end.ensures) in (
      λ is. same_at c.args.a.now c.args.b.now c.loop-i.invariant.long (λ k inside. c.loop-i.invariant.same k (omega (arith, inside, size))),
      λ e. refl,
    )
