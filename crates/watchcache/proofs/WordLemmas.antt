-- What is wrong with words, by the command that the first of them names.
use Rattle.std.proofs.Common.{◌≡◌, sym, subst, Bool, true, false}
use Rattle.watchcache.specs.Words.{Chosen}

pub chosen : (test : Bool) (here there : Type 0) → test ≡ true → here → Chosen test here there
chosen test here there is holds = subst (λ (t : Bool). Chosen t here there) (sym is) holds

pub passed : (test : Bool) (here there : Type 0) → test ≡ false → there → Chosen test here there
passed test here there is holds = subst (λ (t : Bool). Chosen t here there) (sym is) holds
