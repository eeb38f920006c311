-- The texts of replies, as they are put together.
use Rattle.std.proofs.Common.{◌≡◌, ℕ, ◌<◌, ◌≤◌, [], Bool, true, refl, ap, arith, unwrap_or, cond}
use Rattle.std.specs.Prelude.{Option, None, Some, nat_le, nat_lt, ◌&&◌}
use Rattle.std.specs.Option.{option_map}
use Rattle.std.proofs.lemmas.Bool.Decides.{nat_tests}
use Rattle.http.specs.StatusCode.{reason_phrase}
use Rattle.http_send.specs.Replies.{phrase}

is_code : (code : ℕ) → 100 ≤ code → code < 1000 → (nat_le 100 code && nat_lt code 1000) ≡ true
is_code code low high = grind (arith, nat_tests)

-- the phrase of a status code
pub phrase-code : (code : ℕ) → 100 ≤ code → code < 1000 → phrase code ≡ unwrap_or (reason_phrase code) []
phrase-code code low high =
    ap (λ (b : Bool). cond b (unwrap_or (reason_phrase code) []) []) {x = nat_le 100 code && nat_lt code 1000} {y = true} (is_code code low high)

-- what a reading of an option's value gives
pub unwrap_or-map : {A B : Type 0} (f : A → B) (o : Option A) (d : A) → f (unwrap_or o d) ≡ unwrap_or (option_map f o) (f d)
unwrap_or-map f None d = refl
unwrap_or-map f (Some x) d = refl
