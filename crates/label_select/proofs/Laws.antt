-- What is read is in the grammar, and what is in the grammar is read.
use Rattle.std.proofs.Common.{◌≡◌, ℕ, inl, inr, Bool, true, false, cond, List, [], ◌∷◌, ◌++◌, Option, Some, None, Result, Ok, Err, refl, sym, ap, ◌∙◌, subst, append_assoc}
use Rattle.std.specs.Prelude.{unwrap_or}
use Rattle.kube_meta.specs.Names.{is_label_key, is_label_value, IsLabelKey, IsLabelValue}
use Rattle.label_select.specs.declared.lexer.TokenKind.{TokenKind}
use Rattle.label_select.specs.declared.lexer.TokenKind.TheVariants.{Word, Comma, Close}
use Rattle.label_select.specs.declared.refusal.LabelNo.{LabelNo}
use Rattle.label_select.specs.declared.refusal.LabelNo.TheVariants.{Syntax, BadKey, BadValue}
use Rattle.label_select.specs.Pieces.{Piece, is_kind}
use Rattle.label_select.specs.Grammar.{IsWord, IsKey, IsValue, Joined}
use Rattle.label_select.specs.Reading.{◌>>=◌, Read, key_at, value_at, values_at}
use Rattle.label_select.proofs.Bytes.{either}
use Rattle.label_select.proofs.KindTests.{kind_is, kind_apart, is_itself}

abbrev pub read : {A : Type 0} → A → List Piece → Read A
read x rest = Ok (x, rest)

-- what was read is one thing
pub both : {A : Type 0} (x y : A) (r s : List Piece) → read x r ≡ read y s → (x ≡ y) × (r ≡ s)
both {A} x y r s e = let pairs : ◌≡◌ {A = A × List Piece} (x, r) (y, s) = cc in (ap (λ (p : A × List Piece). p.0) pairs, ap (λ (p : A × List Piece). p.1) pairs)

pub never : {A B : Type 0} (n : LabelNo) (y : A) → ◌≡◌ {A = Result A LabelNo} (Err n) (Ok y) → B
never n y e = absurd cc

-- the value of a step that was not refused
pub bind_ok : {A B : Type 0} (r : Result A LabelNo) (f : A → Result B LabelNo) (y : B) → (r >>= f) ≡ Ok y → (x : A) × (r ≡ Ok x) × (f x ≡ Ok y)
bind_ok (Ok x) f y e = (x, refl, e)
bind_ok (Err n) f y e = never n y e

-- the tokens at the front stand for x
abbrev pub Front : {A : Type 0} → (List Piece → A → Type 0) → List Piece → A → List Piece → Type 0
Front Is ts x rest = (front : List Piece) × (ts ≡ front ++ rest) × Is front x

-- ---- keys

pub key_takes : (end : ℕ) (ts : List Piece) (k : List ℕ) (rest : List Piece) → key_at end ts ≡ Ok (k, rest) → (t : Piece) × (ts ≡ t ∷ rest) × IsKey t k
unfolding key_at
key_takes end [] k rest e = never (Syntax end) (k, rest) e
key_takes end (t ∷ ts) k rest e =
    elim (either (is_kind t.kind Word)) [
      | inl word ↦ elim (either (is_label_key t.text)) [
        | inl good ↦
            let b = both t.text k ts rest (rw (word, good) at e) in
            (t, ap (λ (x : List Piece). t ∷ x) b.1, ((kind_is t.kind Word word, b.0), subst IsLabelKey b.0 good))
        | inr bad ↦ never (BadKey t.at) (k, rest) (rw (word, bad) at e)
      ]
      | inr other ↦ never (Syntax t.at) (k, rest) (rw other at e)
    ]

pub key_again : (end : ℕ) (t : Piece) (k : List ℕ) (rest : List Piece) → IsKey t k → key_at end (t ∷ rest) ≡ Ok (k, rest)
unfolding key_at
key_again end t k rest key =
    let good : is_label_key t.text ≡ true = ap is_label_key key.0.1 ∙ key.1 in
    rw (is_itself t.kind Word key.0.0 refl, good) (ap (λ (x : List ℕ). read x rest) key.0.1)

-- ---- values

pub value_takes : (end : ℕ) (ts : List Piece) (v : List ℕ) (rest : List Piece) → value_at end ts ≡ Ok (v, rest) → Front IsValue ts v rest
unfolding value_at
value_takes end [] v rest e = let b = both [] v [] rest e in ([], b.1, sym b.0)
value_takes end (t ∷ ts) v rest e =
    elim (either (is_kind t.kind Word)) [
      | inl word ↦ elim (either (is_label_value t.text)) [
        | inl good ↦
            let b = both t.text v ts rest (rw (word, good) at e) in
            (t ∷ [], ap (λ (x : List Piece). t ∷ x) b.1, ((kind_is t.kind Word word, b.0), subst IsLabelValue b.0 good))
        | inr bad ↦ never (BadValue t.at) (v, rest) (rw (word, bad) at e)
      ]
      | inr other ↦ let b = both [] v (t ∷ ts) rest (rw other at e) in ([], b.1, sym b.0)
    ]

-- whether the next token is of the kind
abbrev pub next_is : TokenKind → List Piece → Bool
next_is kind [] = false
next_is kind (t ∷ ts) = is_kind t.kind kind

pub value_again : (end : ℕ) (front : List Piece) (v : List ℕ) (rest : List Piece) → IsValue front v → next_is Word rest ≡ false → value_at end (front ++ rest) ≡ Ok (v, rest)
unfolding value_at
value_again end [] v [] value no_word = ap (λ (x : List ℕ). read x []) (sym value)
value_again end [] v (t ∷ rest) value no_word = rw no_word (ap (λ (x : List ℕ). read x (t ∷ rest)) (sym value))
value_again end (t ∷ []) v rest value no_word =
    let good : is_label_value t.text ≡ true = ap is_label_value value.0.1 ∙ value.1 in
    rw (is_itself t.kind Word value.0.0 refl, good) (ap (λ (x : List ℕ). read x rest) value.0.1)
value_again end (t ∷ u ∷ front) v rest value no_word = absurd value

-- ---- sets

-- the tokens are values joined by `,`, a `)` and the rest
abbrev pub Closed : List Piece → List (List ℕ) → List Piece → Type 0
Closed ts vs rest = (inner : List Piece) × (close : Piece) × (ts ≡ inner ++ close ∷ rest) × (close.kind ≡ Close) × Joined IsValue inner vs

-- the tokens since the last comma
abbrev Pending : Option (List ℕ) → List Piece → Type 0
Pending None before = before ≡ []
Pending (Some v) before = (t : Piece) × (before ≡ t ∷ []) × IsWord t v × IsLabelValue v

pending_value : (word : Option (List ℕ)) (before : List Piece) → Pending word before → IsValue before (unwrap_or word [])
pending_value None before none = subst (λ x. IsValue x []) (sym none) refl
pending_value (Some v) before (t, one, word, good) = subst (λ x. IsValue x v) (sym one) (word, good)

pub joined_more : {A : Type 0} (Is : List Piece → A → Type 0) (front : List Piece) (comma : Piece) (back : List Piece) (x : A) (xs : List A) → Is front x → comma.kind ≡ Comma → Joined Is back xs → Joined Is (front ++ comma ∷ back) (x ∷ xs)
joined_more Is front comma back x [] first comma-is others = absurd others
joined_more Is front comma back x (y ∷ ys) first comma-is others = (front, comma, back, refl, comma-is, first, others)

abbrev after_comma : List ℕ → Read (List (List ℕ)) → Read (List (List ℕ))
after_comma v others = others >>= λ x. Ok (v ∷ x.0, x.1)

abbrev behind_value : ℕ → List ℕ → Piece → List Piece → Read (List (List ℕ))
behind_value end v t ts =
    cond (is_kind t.kind Comma) (after_comma v (values_at end None ts)) (cond (is_kind t.kind Close) (Ok (v ∷ [], ts)) (Err (Syntax t.at)))

behind_take : (end : ℕ) (v : List ℕ) (t : Piece) (ts before : List Piece) (vs : List (List ℕ)) (rest : List Piece) → IsValue before v → behind_value end v t ts ≡ Ok (vs, rest)
    → ((ws : List (List ℕ)) → values_at end None ts ≡ Ok (ws, rest) → Closed ts ws rest) → Closed (before ++ t ∷ ts) vs rest
behind_take end v t ts before vs rest value e others =
    elim (either (is_kind t.kind Comma)) [
      | inl comma ↦
          let h = bind_ok (values_at end None ts) (λ x. Ok (v ∷ x.0, x.1)) (vs, rest) (rw comma at e) in
          let b = both (v ∷ h.0.0) vs h.0.1 rest h.2 in
          let o = others h.0.0 (h.1 ∙ ap (λ (l : List Piece). read h.0.0 l) b.1) in
          let parts : before ++ t ∷ ts ≡ (before ++ t ∷ o.0) ++ o.1 ∷ rest = ap (λ (l : List Piece). before ++ t ∷ l) o.2 ∙ sym (append_assoc before (t ∷ o.0) (o.1 ∷ rest)) in
          (before ++ t ∷ o.0, o.1, parts, o.3, subst (Joined IsValue (before ++ t ∷ o.0)) b.0 (joined_more IsValue before t o.0 v h.0.0 value (kind_is t.kind Comma comma) o.4))
      | inr no_comma ↦ elim (either (is_kind t.kind Close)) [
        | inl close ↦
            let b = both (v ∷ []) vs ts rest (rw (no_comma, close) at e) in
            (before, t, ap (λ (l : List Piece). before ++ t ∷ l) b.1, kind_is t.kind Close close, subst (Joined IsValue before) b.0 value)
        | inr no_close ↦ never (Syntax t.at) (vs, rest) (rw (no_comma, no_close) at e)
      ]
    ]

pub values_take : (end : ℕ) (word : Option (List ℕ)) (ts before : List Piece) (vs : List (List ℕ)) (rest : List Piece) → Pending word before → values_at end word ts ≡ Ok (vs, rest) → Closed (before ++ ts) vs rest
unfolding values_at
values_take end word [] before vs rest pending e = never (Syntax end) (vs, rest) e
values_take end None (t ∷ ts) before vs rest pending e =
    elim (either (is_kind t.kind Word)) [
      | inl word ↦ elim (either (is_label_value t.text)) [
        | inl good ↦
            subst (λ x. Closed (x ++ t ∷ ts) vs rest) (sym pending) (values_take end (Some t.text) ts (t ∷ []) vs rest (t, refl, (kind_is t.kind Word word, refl), good) (rw (word, good) at e))
        | inr bad ↦ never (BadValue t.at) (vs, rest) (rw (word, bad) at e)
      ]
      | inr other ↦ behind_take end [] t ts before vs rest (pending_value None before pending) (rw other at e) (λ ws h. values_take end None ts [] ws rest refl h)
    ]
values_take end (Some v) (t ∷ ts) before vs rest pending e =
    elim (either (is_kind t.kind Word)) [
      | inl word ↦ never (Syntax t.at) (vs, rest) (rw word at e)
      | inr other ↦ behind_take end v t ts before vs rest (pending_value (Some v) before pending) (rw other at e) (λ ws h. values_take end None ts [] ws rest refl h)
    ]

-- a value in front of a `,` or a `)`
value_before : (end : ℕ) (front : List Piece) (v : List ℕ) (t : Piece) (ts : List Piece) → IsValue front v → is_kind t.kind Word ≡ false → values_at end None (front ++ t ∷ ts) ≡ behind_value end v t ts
unfolding values_at
value_before end [] v t ts value no_word = rw no_word (ap (λ (x : List ℕ). behind_value end x t ts) (sym value))
value_before end (u ∷ []) v t ts value no_word =
    let good : is_label_value u.text ≡ true = ap is_label_value value.0.1 ∙ value.1 in
    rw (is_itself u.kind Word value.0.0 refl, good, no_word) (ap (λ (x : List ℕ). behind_value end x t ts) value.0.1)
value_before end (u ∷ w ∷ front) v t ts value no_word = absurd value

pub values_again : (end : ℕ) (inner : List Piece) (vs : List (List ℕ)) (close : Piece) (rest : List Piece) → Joined IsValue inner vs → close.kind ≡ Close → values_at end None (inner ++ close ∷ rest) ≡ Ok (vs, rest)
values_again end inner [] close rest joined close-is = absurd joined
values_again end inner (v ∷ []) close rest joined close-is =
    let test = is_itself close.kind Close close-is refl in
    value_before end inner v close rest joined (kind_apart close.kind Close Word test refl) ∙ rw (kind_apart close.kind Close Comma test refl, test) refl
values_again end inner (v ∷ w ∷ vs) close rest (front, comma, back, parts, comma-is, value, others) close-is =
    let test = is_itself comma.kind Comma comma-is refl in
    let regrouped : inner ++ close ∷ rest ≡ front ++ comma ∷ (back ++ close ∷ rest) = ap (λ (l : List Piece). l ++ close ∷ rest) parts ∙ append_assoc front (comma ∷ back) (close ∷ rest) in
    ap (values_at end None) regrouped ∙ value_before end front v comma (back ++ close ∷ rest) value (kind_apart comma.kind Comma Word test refl) ∙ rw test (ap (after_comma v) (values_again end back (w ∷ vs) close rest others close-is))

-- some tokens of values don't begin with `)`
pub values_not_closed : (u : Piece) (inner : List Piece) (vs : List (List ℕ)) → Joined IsValue (u ∷ inner) vs → is_kind u.kind Close ≡ false
values_not_closed u inner [] joined = absurd joined
values_not_closed u [] (v ∷ []) value = kind_apart u.kind Word Close (is_itself u.kind Word value.0.0 refl) refl
values_not_closed u (w ∷ inner) (v ∷ []) value = absurd value
values_not_closed u inner (v ∷ w ∷ vs) ([], comma, back, parts, comma-is, value, others) =
    let u-is : u ≡ comma = cc in
    kind_apart u.kind Comma Close (is_itself u.kind Comma (ap (λ (t : Piece). t.kind) u-is ∙ comma-is) refl) refl
values_not_closed u inner (v ∷ w ∷ vs) (t ∷ [], comma, back, parts, comma-is, value, others) =
    let u-is : u ≡ t = cc in
    kind_apart u.kind Word Close (is_itself u.kind Word (ap (λ (x : Piece). x.kind) u-is ∙ value.0.0) refl) refl
values_not_closed u inner (v ∷ w ∷ vs) (t ∷ x ∷ front, comma, back, parts, comma-is, value, others) = absurd value
