-- Whether an object stood before, among the writes themselves.
use Rattle.std.proofs.Common.{◌≡◌, ℕ, ◌<◌, sym, arith, Bool, ◌||◌, List, [], ◌∷◌, length, map, take, get_or, refl, ap, ◌∙◌}
use Rattle.std.specs.List.{list_any}
use Rattle.std.proofs.lemmas.List.{take-map}
use Rattle.std.proofs.lemmas.Option.{slice_get-get_or, slice_get-map}
use Rattle.std.proofs.lemmas.List.{length-map}
use Rattle.up_store.specs.declared.writes.WriteAsk.{WriteAsk}
use Rattle.up_store.specs.Transactions.{target_of, same_target, stands_before}

-- a test of mapped items
any-map : {X Y : Type 0} (f : X → Y) (p : Y → Bool) (xs : List X) → list_any p (map f xs) ≡ list_any (λ x. p (f x)) xs
any-map f p [] = refl
any-map f p (x ∷ xs) = ap (λ found. p (f x) || found) (any-map f p xs)

pub stands_before_among : (items : List WriteAsk) (i : ℕ) (item : WriteAsk) → i < length items → item ≡ get_or items i item →
    (found : Bool) → found ≡ list_any (λ earlier. same_target (target_of earlier) (target_of item)) (take i items) →
    stands_before (map target_of items) i ≡ found
stands_before_among items i item below is found e =
    rw (slice_get-map target_of items i) (rw (slice_get-get_or items i item below) (rw (take-map target_of i items)
    (any-map target_of (λ earlier. same_target earlier (target_of (get_or items i item))) (take i items)
    ∙ rw (sym is) (sym e))))

pub in_targets : (items : List WriteAsk) (i : ℕ) → i < length items → i < length (map target_of items)
in_targets items i below = rw (length-map items target_of) below

pub from_targets : (items : List WriteAsk) (i : ℕ) → i < length (map target_of items) → i < length items
from_targets items i below = let same : length (map target_of items) ≡ length items = length-map items target_of in omega arith
