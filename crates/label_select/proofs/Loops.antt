-- Reading values and requirements one after the other, as the loops do.
use Rattle.std.proofs.Common.{◌≡◌, ℕ, suc, ◌≤◌, inl, inr, Bool, true, false, List, [], ◌∷◌, ◌++◌, length, Option, Some, None, Result, Ok, Err, refl, sym, ap, ◌∙◌, append_assoc, arith}
use Rattle.kube_meta.specs.Names.{is_label_value}
use Rattle.label_select.specs.declared.lexer.TokenKind.{TokenKind}
use Rattle.label_select.specs.declared.lexer.TokenKind.TheVariants.{Word, Comma, Close, Open, Not}
use Rattle.label_select.specs.declared.requirements.Requirement.{Requirement}
use Rattle.label_select.specs.declared.refusal.LabelNo.{LabelNo}
use Rattle.label_select.specs.declared.refusal.LabelNo.TheVariants.{Syntax, BadKey, BadValue, EmptySet, TooLong, Memory}
use Rattle.label_select.specs.Pieces.{Piece, is_kind}
use Rattle.label_select.specs.Reading.{◌>>=◌, Fails, Read, place, key_at, value_at, values_at, set_at, inside_at, behind_key, followed_by, requirement_at, requirements_at}
use Rattle.label_select.specs.Left.{StepsOver}
use Rattle.label_select.proofs.Bytes.{either}
use Rattle.label_select.proofs.KindTests.{kind_apart}

pub Fails-follows : {X Y : Type 0} (fault : LabelNo) (a : Result X LabelNo) (b : Result Y LabelNo) → (a ≡ Err fault → b ≡ Err fault) → Fails fault a → Fails fault b
Fails-follows (Syntax at) a b h e = h e
Fails-follows (BadKey at) a b h e = h e
Fails-follows (BadValue at) a b h e = h e
Fails-follows (EmptySet at) a b h e = h e
Fails-follows TooLong a b h e = h e
Fails-follows Memory a b h e = tt

-- ---- values

abbrev value_is : List ℕ → List Piece → Read (List ℕ)
value_is v rest = Ok (v, rest)

abbrev bad_value : ℕ → Read (List ℕ)
bad_value at = Err (BadValue at)

-- what was read before, and what is still read
abbrev pub with_front : List (List ℕ) → Read (List (List ℕ)) → Read (List (List ℕ))
with_front front read = read >>= λ x. Ok (front ++ x.0, x.1)

regroup : (front : List (List ℕ)) (v : List ℕ) (read : Read (List (List ℕ))) → with_front front (read >>= λ x. Ok (v ∷ x.0, x.1)) ≡ with_front (front ++ v ∷ []) read
regroup front v (Ok x) = ap (λ (vs : List (List ℕ)). Ok (vs, x.1)) (simp append_assoc)
regroup front v (Err f) = refl

-- a value, and then what stands behind it
values_then : (end : ℕ) (ts : List Piece) → values_at end None ts ≡ (value_at end ts >>= λ v. values_at end (Some v.0) v.1)
unfolding value_at values_at
values_then end [] = refl
values_then end (t ∷ ts) =
    elim (either (is_kind t.kind Word)) [
      | inl word ↦ elim (either (is_label_value t.text)) [
        | inl good ↦ rw (word, good) refl
        | inr bad ↦ rw (word, bad) refl
      ]
      | inr other ↦ simp other refl
    ]

-- whether the next token is of the kind
abbrev next_is : TokenKind → List Piece → Bool
next_is kind [] = false
next_is kind (t ∷ ts) = is_kind t.kind kind

abbrev pub behind : List Piece → List Piece
behind [] = []
behind (t ∷ ts) = ts

pub stepped : (old : List Piece) (kind : TokenKind) (new : List Piece) → StepsOver old kind true new → (next_is kind old ≡ true) × (new ≡ behind old) × (length old ≡ suc (length new))
stepped [] kind new steps = absurd (let wrong : true ≡ false = steps.0 in cc)
stepped (t ∷ ts) kind new steps =
    let new-is : new ≡ ts = rw (← steps.0) at steps.1 in
    (sym steps.0, new-is, sym (ap (λ (x : List Piece). suc (length x)) new-is))

pub stayed : (old : List Piece) (kind : TokenKind) (new : List Piece) → StepsOver old kind false new → (next_is kind old ≡ false) × (new ≡ old)
stayed [] kind new steps = (refl, steps.1)
stayed (t ∷ ts) kind new steps = (sym steps.0, rw (← steps.0) at steps.1)

-- the last value
values_close : (end : ℕ) (v : List ℕ) (ts : List Piece) → next_is Close ts ≡ true → values_at end (Some v) ts ≡ Ok (v ∷ [], behind ts)
unfolding values_at
values_close end v [] close = absurd cc
values_close end v (t ∷ ts) close = rw (kind_apart t.kind Close Word close refl, kind_apart t.kind Close Comma close refl, close) refl

-- a value, and others behind a comma
values_comma : (end : ℕ) (v : List ℕ) (ts : List Piece) → next_is Comma ts ≡ true → values_at end (Some v) ts ≡ (values_at end None (behind ts) >>= λ others. Ok (v ∷ others.0, others.1))
unfolding values_at
values_comma end v [] comma = absurd cc
values_comma end v (t ∷ ts) comma = rw (kind_apart t.kind Comma Word comma refl, comma) refl

-- what can't stand behind a value
values_stuck : (end : ℕ) (v : List ℕ) (ts : List Piece) → next_is Close ts ≡ false → next_is Comma ts ≡ false → values_at end (Some v) ts ≡ Err (Syntax (place end ts))
unfolding values_at
values_stuck end v [] no_close no_comma = refl
values_stuck end v (t ∷ ts) no_close no_comma =
    elim (either (is_kind t.kind Word)) [
      | inl word ↦ rw word refl
      | inr other ↦ rw (other, no_comma, no_close) refl
    ]

-- ---- one turn of the loop over values

module _ (end : ℕ) (front : List (List ℕ)) (ts : List Piece) (total : Read (List (List ℕ))) (so_far : with_front front (values_at end None ts) ≡ total) where
  pub values_fail : (fault : LabelNo) → Fails fault (value_at end ts) → Fails fault total
  values_fail fault fails =
      Fails-follows fault (value_at end ts) total (λ e. sym so_far ∙ ap (with_front front) (values_then end ts ∙ ap (λ (r : Read (List ℕ)). r >>= λ v. values_at end (Some v.0) v.1) e)) fails

  values_read : (v : List ℕ) (rest : List Piece) → value_at end ts ≡ Ok (v, rest) → total ≡ with_front front (values_at end (Some v) rest)
  values_read v rest e = sym so_far ∙ ap (with_front front) (values_then end ts ∙ ap (λ (r : Read (List ℕ)). r >>= λ v. values_at end (Some v.0) v.1) e)

  pub values_end : (v : List ℕ) (rest left : List Piece) → value_at end ts ≡ Ok (v, rest) → StepsOver rest Close true left → total ≡ Ok (front ++ v ∷ [], left)
  values_end v rest left e close =
      let s = stepped rest Close left close in
      values_read v rest e ∙ ap (with_front front) (values_close end v rest s.0) ∙ ap (λ (l : List Piece). Ok (front ++ v ∷ [], l)) (sym s.1)

  pub values_more : (v : List ℕ) (rest same left : List Piece) → value_at end ts ≡ Ok (v, rest) → StepsOver rest Close false same → StepsOver same Comma true left → with_front (front ++ v ∷ []) (values_at end None left) ≡ total
  values_more v rest same left e close comma =
      let here = stayed rest Close same close in
      let s = stepped same Comma left comma in
      let at_comma : next_is Comma rest ≡ true = ap (next_is Comma) (sym here.1) ∙ s.0 in
      let left-is : left ≡ behind rest = s.1 ∙ ap behind here.1 in
      sym (values_read v rest e ∙ ap (with_front front) (values_comma end v rest at_comma) ∙ regroup front v (values_at end None (behind rest)) ∙ ap (λ (l : List Piece). with_front (front ++ v ∷ []) (values_at end None l)) (sym left-is))

  pub values_wrong : (v : List ℕ) (rest same left : List Piece) → value_at end ts ≡ Ok (v, rest) → StepsOver rest Close false same → StepsOver same Comma false left → total ≡ Err (Syntax (place end left))
  values_wrong v rest same left e close comma =
      let here = stayed rest Close same close in
      let s = stayed same Comma left comma in
      let no_comma : next_is Comma rest ≡ false = ap (next_is Comma) (sym here.1) ∙ s.0 in
      values_read v rest e ∙ ap (with_front front) (values_stuck end v rest here.0 no_comma) ∙ ap (λ (l : List Piece). Err (Syntax (place end l))) (sym (s.1 ∙ here.1))

ok_rest : (v w : List ℕ) (r s : List Piece) → value_is v r ≡ value_is w s → r ≡ s
ok_rest v w r s e = let pairs : ◌≡◌ {A = List ℕ × List Piece} (v, r) (w, s) = cc in ap (λ (x : List ℕ × List Piece). x.1) pairs

pub value_shorter : (end : ℕ) (ts : List Piece) (v : List ℕ) (rest : List Piece) → value_at end ts ≡ Ok (v, rest) → length rest ≤ length ts
unfolding value_at
value_shorter end [] v rest e = omega (arith, ap (length {A = Piece}) (ok_rest [] v [] rest e))
value_shorter end (t ∷ ts) v rest e =
    elim (either (is_kind t.kind Word)) [
      | inl word ↦ elim (either (is_label_value t.text)) [
        | inl good ↦ omega (arith, ap (length {A = Piece}) (ok_rest t.text v ts rest (sym (rw (word, good) refl) ∙ e)))
        | inr bad ↦ absurd (let read : bad_value t.at ≡ Ok (v, rest) = sym (rw (word, bad) refl) ∙ e in cc)
      ]
      | inr other ↦ omega (arith, ap (length {A = Piece}) (ok_rest [] v (t ∷ ts) rest (sym (rw other refl) ∙ e)))
    ]

values_none : (end : ℕ) (word : Option (List ℕ)) → values_at end word [] ≡ Err (Syntax end)
unfolding values_at
values_none end word = refl

inside_values : (at end : ℕ) (inside : List Piece) → next_is Close inside ≡ false → inside_at at end inside ≡ values_at end None inside
unfolding inside_at
inside_values at end [] no_close = sym (values_none end None)
inside_values at end (u ∷ inside) no_close = rw no_close refl

-- a set begins behind its `(`, where no `)` follows
pub set_inside : (end : ℕ) (ts inside rest : List Piece) → StepsOver ts Open true inside → StepsOver inside Close false rest → set_at end ts ≡ values_at end None rest
unfolding set_at
set_inside end [] inside rest open' close = absurd (let wrong : true ≡ false = open'.0 in cc)
set_inside end (t ∷ ts) inside rest open' close =
    let s = stepped (t ∷ ts) Open inside open' in
    let here = stayed inside Close rest close in
    let inside-is : ts ≡ inside = sym s.1 in
    rw s.0 (ap (inside_at t.at end) inside-is ∙ inside_values t.at end inside here.0 ∙ ap (values_at end None) (sym here.1))

-- a requirement without `!` begins with its key
pub requirement_by_key : (end : ℕ) (ts rest : List Piece) → StepsOver ts Not false rest → requirement_at end ts ≡ (key_at end rest >>= λ key. behind_key key.0 end key.1)
unfolding requirement_at key_at
requirement_by_key end [] rest no_not = rw no_not.1 refl
requirement_by_key end (t ∷ ts) rest no_not =
    let here = stayed (t ∷ ts) Not rest no_not in
    rw (here.0, here.1) refl

-- ---- requirements

abbrev Found : Type 0
Found = Result (List Requirement) LabelNo

-- what was read before, and what is still read
abbrev pub after_these : List Requirement → Found → Found
after_these front read = read >>= λ rs. Ok (front ++ rs)

regroup_requirements : (front : List Requirement) (r : Requirement) (read : Found) → after_these front (read >>= λ rs. Ok (r ∷ rs)) ≡ after_these (front ++ r ∷ []) read
regroup_requirements front r (Ok rs) = ap (λ (x : List Requirement). Ok x) (simp append_assoc)
regroup_requirements front r (Err f) = refl

module _ (end : ℕ) (front : List Requirement) (more : ℕ) (ts : List Piece) (total : Found) (so_far : after_these front (requirements_at (suc more) end ts) ≡ total) where
  pub requirements_fail : (fault : LabelNo) → Fails fault (requirement_at end ts) → Fails fault total
  unfolding requirements_at
  requirements_fail fault fails =
      Fails-follows fault (requirement_at end ts) total (λ e. sym so_far ∙ ap (λ (r : Read Requirement). after_these front (r >>= λ x. followed_by (requirements_at more end) x.0 x.1)) e) fails

  requirement_read : (r : Requirement) (rest : List Piece) → requirement_at end ts ≡ Ok (r, rest) → total ≡ after_these front (followed_by (requirements_at more end) r rest)
  unfolding requirements_at
  requirement_read r rest e = sym so_far ∙ ap (λ (x : Read Requirement). after_these front (x >>= λ y. followed_by (requirements_at more end) y.0 y.1)) e

  pub requirements_end : (r : Requirement) (rest : List Piece) → requirement_at end ts ≡ Ok (r, rest) → length rest ≡ 0 → total ≡ Ok (front ++ r ∷ [])
  unfolding followed_by
  requirements_end r [] e none = requirement_read r [] e
  requirements_end r (t ∷ rest) e none = absurd (omega arith)

  pub requirements_wrong : (r : Requirement) (rest left : List Piece) → requirement_at end ts ≡ Ok (r, rest) → (length rest ≡ 0 → ⊥) → StepsOver rest Comma false left → total ≡ Err (Syntax (place end left))
  unfolding followed_by
  requirements_wrong r [] left e some comma = absurd (some refl)
  requirements_wrong r (t ∷ rest) left e some comma =
      let here = stayed (t ∷ rest) Comma left comma in
      requirement_read r (t ∷ rest) e ∙ rw (here.0, here.1) refl

  pub requirements_more : (r : Requirement) (rest left : List Piece) → requirement_at end ts ≡ Ok (r, rest) → StepsOver rest Comma true left → after_these (front ++ r ∷ []) (requirements_at more end left) ≡ total
  unfolding followed_by
  requirements_more r [] left e comma = absurd (let wrong : true ≡ false = comma.0 in cc)
  requirements_more r (t ∷ rest) left e comma =
      let s = stepped (t ∷ rest) Comma left comma in
      sym (requirement_read r (t ∷ rest) e ∙ rw s.0 (regroup_requirements front r (requirements_at more end rest)) ∙ ap (λ (l : List Piece). after_these (front ++ r ∷ []) (requirements_at more end l)) (sym s.1))

pub requirements_spent : (end : ℕ) (front : List Requirement) (ts : List Piece) (total : Found) → after_these front (requirements_at 0 end ts) ≡ total → total ≡ Err TooLong
unfolding requirements_at
requirements_spent end front ts total so_far = sym so_far

pub requirement_at_key : (end : ℕ) (ts rest : List Piece) → StepsOver ts Not false rest → (key : List ℕ) (behind : List Piece) → key_at end rest ≡ Ok (key, behind) → requirement_at end ts ≡ behind_key key end behind
requirement_at_key end ts rest no_not key behind e = requirement_by_key end ts rest no_not ∙ ap (λ (r : Read (List ℕ)). r >>= λ k. behind_key k.0 end k.1) e

pub requirement_no_key : (end : ℕ) (ts rest : List Piece) → StepsOver ts Not false rest → (fault : LabelNo) → Fails fault (key_at end rest) → Fails fault (requirement_at end ts)
requirement_no_key end ts rest no_not fault fails =
    Fails-follows fault (key_at end rest) (requirement_at end ts) (λ e. requirement_by_key end ts rest no_not ∙ ap (λ (r : Read (List ℕ)). r >>= λ k. behind_key k.0 end k.1) e) fails
