-- What a writer prints for a text, and which texts need no escape.
use Rattle.std.proofs.Common.{◌≡◌, ℕ, List, [], ◌∷◌, ◌++◌, Bool, true, false, ◌&&◌, refl, ap, ◌∙◌, append-nil, arith}
use Rattle.std.specs.List.{list_all}
use Rattle.std.proofs.lemmas.Bool.Decides.{nat_tests}
use Rattle.json.specs.Token.{string}
use Rattle.json.specs.Print.{quoted, escape, escape_byte, print, print_from}
use Rattle.json_obj.specs.Plain.{is_plain_byte}

pub print-string : (s : List ℕ) → print (string s ∷ []) ≡ quoted s
unfolding print_from
print-string s = append-nil _

escape_plain_byte : (x : ℕ) → is_plain_byte x ≡ true → escape_byte x ≡ x ∷ []
unfolding escape_byte
escape_plain_byte x plain = grind (arith, nat_tests)

both-true : (a b : Bool) → (a && b) ≡ true → (a ≡ true) × (b ≡ true)
both-true true b e = (refl, e)
both-true false b e = cc

pub escape_plain : (s : List ℕ) → list_all is_plain_byte s ≡ true → escape s ≡ s
escape_plain [] plain = refl
escape_plain (x ∷ s) plain =
    let both = both-true (is_plain_byte x) (list_all is_plain_byte s) plain in
    ap (λ ys. ys ++ escape s) (escape_plain_byte x both.0) ∙ ap (λ ys. x ∷ ys) (escape_plain s both.1)
