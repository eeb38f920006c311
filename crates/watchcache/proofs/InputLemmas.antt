-- Bytes that are read piece by piece.
use Rattle.std.proofs.Common.{◌≡◌, ◌∙◌, sym, ap, ℕ, List, [], ◌++◌, take, Option}
use Rattle.edge_io.specs.Told.{prepended}
use Rattle.edge_io.proofs.ToldLemmas.{prepended-prepended, prepended-nil}

pub begun : (old : Option (List ℕ)) (bytes : List ℕ) → bytes ≡ [] → old ≡ prepended bytes old
begun old bytes none = sym (prepended-nil old) ∙ ap (λ xs. prepended xs old) (sym none)

pub ended : (old mid new : Option (List ℕ)) (bytes buf : List ℕ) (n : ℕ) → old ≡ prepended bytes mid → mid ≡ prepended (take n buf) new → n ≡ 0 →
    old ≡ prepended bytes new
ended old mid new bytes buf n first then none =
    first ∙ ap (prepended bytes) (then ∙ ap (λ k. prepended (take k buf) new) none ∙ prepended-nil new)

pub more : (old mid new : Option (List ℕ)) (bytes buf all : List ℕ) (n : ℕ) → old ≡ prepended bytes mid → mid ≡ prepended (take n buf) new → all ≡ bytes ++ take n buf →
    old ≡ prepended all new
more old mid new bytes buf all n first then all-is =
    first ∙ ap (prepended bytes) then ∙ prepended-prepended bytes (take n buf) new ∙ ap (λ xs. prepended xs new) (sym all-is)
