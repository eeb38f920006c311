-- Tests on the kinds of tokens.
use Rattle.std.proofs.Common.{◌≡◌, ℕ, Bool, true, false, eqb, refl, sym, ap, ◌∙◌}
use Rattle.std.proofs.lemmas.Bool.{eqb-true}
use Rattle.label_select.specs.declared.lexer.TokenKind.{TokenKind}
use Rattle.label_select.specs.declared.lexer.TokenKind.TheVariants.{Word, Equal, DoubleEqual, NotEqual, Not, Comma, Open, Close, Less, Greater}
use Rattle.label_select.specs.Pieces.{number_of, is_kind}

kind_at : ℕ → TokenKind
kind_at n =
    let pick : (b : Bool) → TokenKind → TokenKind → TokenKind = λ b x y. elim b [ true ↦ x | false ↦ y ] in
    pick (eqb n 0) Word (pick (eqb n 1) Equal (pick (eqb n 2) DoubleEqual (pick (eqb n 3) NotEqual (pick (eqb n 4) Not (pick (eqb n 5) Comma (pick (eqb n 6) Open (pick (eqb n 7) Close (pick (eqb n 8) Less Greater))))))))

kind_back : (k : TokenKind) → kind_at (number_of k) ≡ k
unfolding kind_at
kind_back Word = refl
kind_back Equal = refl
kind_back DoubleEqual = refl
kind_back NotEqual = refl
kind_back Not = refl
kind_back Comma = refl
kind_back Open = refl
kind_back Close = refl
kind_back Less = refl
kind_back Greater = refl

-- a test that passes tells the kind
pub kind_is : (a b : TokenKind) → is_kind a b ≡ true → a ≡ b
kind_is a b e = sym (kind_back a) ∙ ap kind_at (eqb-true (number_of a) (number_of b) e) ∙ kind_back b

-- a token of one kind is of no other
pub kind_apart : (a b other : TokenKind) → is_kind a b ≡ true → is_kind b other ≡ false → is_kind a other ≡ false
kind_apart a b other e apart = ap (λ k. is_kind k other) (kind_is a b e) ∙ apart

pub is_itself : (a b : TokenKind) → a ≡ b → is_kind b b ≡ true → is_kind a b ≡ true
is_itself a b e same = ap (λ k. is_kind k b) e ∙ same
