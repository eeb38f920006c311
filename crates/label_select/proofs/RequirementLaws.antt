-- Sets, requirements and selectors: what is read is in the grammar, and what is in the grammar is read.
use Rattle.std.proofs.Common.{◌≡◌, ℕ, zero, suc, ◌<◌, ◌≤◌, ◌⊎◌, inl, inr, Bool, true, false, ltb, List, [], ◌∷◌, ◌++◌, length, None, Result, Ok, Err, refl, sym, ap, ◌∙◌, subst, append_assoc, arith}
use Rattle.std.specs.Prelude.{codes, IfOk, ◌||◌}
use Rattle.std.specs.Str.{bytes_eq}
use Rattle.std.proofs.lemmas.Bool.{ltb-false, le-ltb, false_from_ne_true}
use Rattle.std.proofs.lemmas.List.{append-nil}
use Rattle.std.proofs.lemmas.Slice.Eq.{bytes_eq-Decides}
use Rattle.label_select.specs.declared.lexer.TokenKind.TheVariants.{Word, Equal, DoubleEqual, NotEqual, Not, Comma, Open, Close}
use Rattle.label_select.specs.declared.requirements.Requirement.{Requirement}
use Rattle.label_select.specs.declared.requirements.Requirement.TheVariants.{Exists, Absent, In, NotIn}
use Rattle.label_select.specs.declared.refusal.LabelNo.{LabelNo}
use Rattle.label_select.specs.declared.refusal.LabelNo.TheVariants.{Syntax, EmptySet, TooLong}
use Rattle.label_select.specs.Pieces.{Piece, is_kind, tokens_of}
use Rattle.label_select.specs.Grammar.{IsWord, IsKey, IsValue, Joined, IsSet, IsEquality, IsInequality, IsRequirement, AreRequirements, IsSelector}
use Rattle.label_select.specs.Reading.{◌>>=◌, key_at, value_at, set_at, inside_at, behind_key, requirement_at, followed_by, requirements_at, selector_at, selector_of}
use Rattle.label_select.specs.Left.{ReadsRequirements}
use Rattle.label_select.proofs.Bytes.{either}
use Rattle.label_select.proofs.KindTests.{kind_is, kind_apart, is_itself}
use Rattle.label_select.proofs.TokenLaws.{tokens_unique, tokens_computed}
use Rattle.label_select.proofs.Laws.{read, both, never, bind_ok, Front, next_is, key_takes, key_again, value_takes, value_again, values_take, values_again, values_not_closed, joined_more}

-- ---- sets

-- values that don't begin with `)` are some
some_inner : (inner : List Piece) (close u : Piece) (ts rest : List Piece) → u ∷ ts ≡ inner ++ close ∷ rest → close.kind ≡ Close → is_kind u.kind Close ≡ false → 0 < length inner
some_inner [] close u ts rest parts close-is no_close =
    let u-is : u ≡ close = cc in
    absurd (let wrong : true ≡ false = sym (is_itself u.kind Close (ap (λ (t : Piece). t.kind) u-is ∙ close-is) refl) ∙ no_close in cc)
some_inner (t ∷ inner) close u ts rest parts close-is no_close = omega arith

-- the first of values that are some is no `)`
inside_again : (at end : ℕ) (inner : List Piece) (vs : List (List ℕ)) (close : Piece) (rest : List Piece) → Joined IsValue inner vs → 0 < length inner → close.kind ≡ Close → inside_at at end (inner ++ close ∷ rest) ≡ Ok (vs, rest)
unfolding inside_at
inside_again at end [] vs close rest values some close-is = absurd (omega arith)
inside_again at end (u ∷ inner) vs close rest values some close-is =
    rw (values_not_closed u inner vs values) (values_again end (u ∷ inner) vs close rest values close-is)

set_takes : (end : ℕ) (ts : List Piece) (vs : List (List ℕ)) (rest : List Piece) → set_at end ts ≡ Ok (vs, rest) → Front IsSet ts vs rest
unfolding set_at inside_at
set_takes end [] vs rest e = never (Syntax end) (vs, rest) e
set_takes end (t ∷ []) vs rest e =
    elim (either (is_kind t.kind Open)) [
      | inl open' ↦ never (Syntax end) (vs, rest) (rw open' at e)
      | inr other ↦ never (Syntax t.at) (vs, rest) (rw other at e)
    ]
set_takes end (t ∷ u ∷ ts) vs rest e =
    elim (either (is_kind t.kind Open)) [
      | inl open' ↦ elim (either (is_kind u.kind Close)) [
        | inl close ↦ never (EmptySet t.at) (vs, rest) (rw (open', close) at e)
        | inr no_close ↦
            let h = values_take end None (u ∷ ts) [] vs rest refl (rw (open', no_close) at e) in
            (t ∷ (h.0 ++ h.1 ∷ []), ap (λ (l : List Piece). t ∷ l) (h.2 ∙ sym (append_assoc h.0 (h.1 ∷ []) rest)), (h.0, h.1, refl, kind_is t.kind Open open', h.3, some_inner h.0 h.1 u ts rest h.2 h.3 no_close, h.4))
      ]
      | inr other ↦ never (Syntax t.at) (vs, rest) (rw other at e)
    ]

set_again : (end : ℕ) (front : List Piece) (vs : List (List ℕ)) (rest : List Piece) → IsSet front vs → set_at end (front ++ rest) ≡ Ok (vs, rest)
unfolding set_at
set_again end [] vs rest set = absurd set
set_again end (t ∷ ts) vs rest (inner, close, parts, open-is, close-is, some, values) =
    let regrouped : ts ++ rest ≡ inner ++ close ∷ rest = ap (λ (l : List Piece). l ++ rest) parts ∙ append_assoc inner (close ∷ []) rest in
    rw (is_itself t.kind Open open-is refl) (ap (inside_at t.at end) regrouped ∙ inside_again t.at end inner vs close rest values some close-is)

-- ---- requirements

or_true : (x y : Bool) → (x || y) ≡ true → (x ≡ true) ⊎ (y ≡ true)
or_true true y e = inl refl
or_true false y e = inr e

is_equality : (t : Piece) → (is_kind t.kind Equal || is_kind t.kind DoubleEqual) ≡ true → IsEquality t
is_equality t e =
    elim (or_true (is_kind t.kind Equal) (is_kind t.kind DoubleEqual) e) [ inl h ↦ inl (kind_is t.kind Equal h) | inr h ↦ inr (kind_is t.kind DoubleEqual h) ]

-- what stands behind the key completes a requirement
abbrev Completes : Piece → List Piece → Requirement → List Piece → Type 0
Completes k ts r rest = (front : List Piece) × (ts ≡ front ++ rest) × IsRequirement (k ∷ front) r

completes_value : (make : List ℕ → List (List ℕ) → Requirement) (key : List ℕ) (k t : Piece) (end : ℕ) (ts : List Piece) (r : Requirement) (rest : List Piece)
    → ((front : List Piece) (v : List ℕ) → IsValue front v → IsRequirement (k ∷ t ∷ front) (make key (v ∷ [])))
    → (value_at end ts >>= λ value. read (make key (value.0 ∷ [])) value.1) ≡ Ok (r, rest) → Completes k (t ∷ ts) r rest
completes_value make key k t end ts r rest is e =
    let h = bind_ok (value_at end ts) (λ value. Ok (make key (value.0 ∷ []), value.1)) (r, rest) e in
    let b = both (make key (h.0.0 ∷ [])) r h.0.1 rest h.2 in
    let v = value_takes end ts h.0.0 h.0.1 h.1 in
    (t ∷ v.0, ap (λ (l : List Piece). t ∷ l) (v.1 ∙ ap (λ (l : List Piece). v.0 ++ l) b.1), subst (IsRequirement (k ∷ t ∷ v.0)) b.0 (is v.0 h.0.0 v.2))

completes_set : (make : List ℕ → List (List ℕ) → Requirement) (key : List ℕ) (k t : Piece) (end : ℕ) (ts : List Piece) (r : Requirement) (rest : List Piece)
    → ((front : List Piece) (vs : List (List ℕ)) → IsSet front vs → IsRequirement (k ∷ t ∷ front) (make key vs))
    → (set_at end ts >>= λ values. read (make key values.0) values.1) ≡ Ok (r, rest) → Completes k (t ∷ ts) r rest
completes_set make key k t end ts r rest is e =
    let h = bind_ok (set_at end ts) (λ values. Ok (make key values.0, values.1)) (r, rest) e in
    let b = both (make key h.0.0) r h.0.1 rest h.2 in
    let v = set_takes end ts h.0.0 h.0.1 h.1 in
    (t ∷ v.0, ap (λ (l : List Piece). t ∷ l) (v.1 ∙ ap (λ (l : List Piece). v.0 ++ l) b.1), subst (IsRequirement (k ∷ t ∷ v.0)) b.0 (is v.0 h.0.0 v.2))

completes_alone : (key : List ℕ) (k : Piece) (ts : List Piece) (r : Requirement) (rest : List Piece) → IsKey k key → read (Exists key) ts ≡ Ok (r, rest) → Completes k ts r rest
completes_alone key k ts r rest is e =
    let b = both (Exists key) r ts rest e in
    ([], b.1, subst (IsRequirement (k ∷ [])) b.0 is)

is_word : (t : Piece) (word : List ℕ) → is_kind t.kind Word ≡ true → bytes_eq t.text word ≡ true → IsWord t word
is_word t word kind same = (kind_is t.kind Word kind, (bytes_eq-Decides t.text word).0 same)

behind_takes : (key : List ℕ) (k : Piece) (end : ℕ) (ts : List Piece) (r : Requirement) (rest : List Piece) → IsKey k key → behind_key key end ts ≡ Ok (r, rest) → Completes k ts r rest
unfolding behind_key
behind_takes key k end [] r rest is e = completes_alone key k [] r rest is e
behind_takes key k end (t ∷ ts) r rest is e =
    elim (either (is_kind t.kind Equal || is_kind t.kind DoubleEqual)) [
      | inl equality ↦ completes_value In key k t end ts r rest (λ front v value. (is, inl (is_equality t equality, (v, value, refl)))) (rw equality at e)
      | inr no_equality ↦ elim (either (is_kind t.kind NotEqual)) [
        | inl inequality ↦ completes_value NotIn key k t end ts r rest (λ front v value. (is, inl (kind_is t.kind NotEqual inequality, (v, value, refl)))) (rw (no_equality, inequality) at e)
        | inr no_inequality ↦ elim (either (is_kind t.kind Word)) [
          | inl word ↦ elim (either (bytes_eq t.text (codes "in"))) [
            | inl in' ↦ completes_set In key k t end ts r rest (λ front vs set. (is, inr (is_word t (codes "in") word in', set))) (rw (no_equality, no_inequality, word, in') at e)
            | inr no_in ↦ elim (either (bytes_eq t.text (codes "notin"))) [
              | inl notin ↦ completes_set NotIn key k t end ts r rest (λ front vs set. (is, inr (is_word t (codes "notin") word notin, set))) (rw (no_equality, no_inequality, word, no_in, notin) at e)
              | inr no_notin ↦ never (Syntax t.at) (r, rest) (rw (no_equality, no_inequality, word, no_in, no_notin) at e)
            ]
          ]
          | inr no_word ↦ completes_alone key k (t ∷ ts) r rest is (rw (no_equality, no_inequality, no_word) at e)
        ]
      ]
    ]

pub requirement_takes : (end : ℕ) (ts : List Piece) (r : Requirement) (rest : List Piece) → requirement_at end ts ≡ Ok (r, rest) → Front IsRequirement ts r rest
unfolding requirement_at
requirement_takes end [] r rest e = never (Syntax end) (r, rest) e
requirement_takes end (t ∷ ts) r rest e =
    elim (either (is_kind t.kind Not)) [
      | inl not' ↦
          let h = bind_ok (key_at end ts) (λ key. Ok (Absent key.0, key.1)) (r, rest) (rw not' at e) in
          let b = both (Absent h.0.0) r h.0.1 rest h.2 in
          let k = key_takes end ts h.0.0 h.0.1 h.1 in
          (t ∷ k.0 ∷ [], ap (λ (l : List Piece). t ∷ l) (k.1 ∙ ap (λ (l : List Piece). k.0 ∷ l) b.1), subst (IsRequirement (t ∷ k.0 ∷ [])) b.0 (kind_is t.kind Not not', k.2))
      | inr no_not ↦
          let h = bind_ok (key_at end (t ∷ ts)) (λ key. behind_key key.0 end key.1) (r, rest) (rw no_not at e) in
          let k = key_takes end (t ∷ ts) h.0.0 h.0.1 h.1 in
          let b = behind_takes h.0.0 k.0 end h.0.1 r rest k.2 h.2 in
          (k.0 ∷ b.0, k.1 ∙ ap (λ (l : List Piece). k.0 ∷ l) b.1, b.2)
    ]

-- ---- the other direction

-- a requirement ends: nothing follows, or a comma
abbrev ends : List Piece → Bool
ends [] = true
ends (t ∷ ts) = is_kind t.kind Comma

ends_no_word : (rest : List Piece) → ends rest ≡ true → next_is Word rest ≡ false
ends_no_word [] e = refl
ends_no_word (t ∷ rest) e = kind_apart t.kind Comma Word e refl

alone_again : (key : List ℕ) (end : ℕ) (rest : List Piece) → ends rest ≡ true → behind_key key end rest ≡ Ok (Exists key, rest)
unfolding behind_key
alone_again key end [] e = refl
alone_again key end (t ∷ rest) e =
    rw (kind_apart t.kind Comma Equal e refl, kind_apart t.kind Comma DoubleEqual e refl, kind_apart t.kind Comma NotEqual e refl, kind_apart t.kind Comma Word e refl) refl

or_left : (x y : Bool) → x ≡ true → (x || y) ≡ true
or_left x y e = ap (λ b. b || y) e

or_right : (x y : Bool) → y ≡ true → (x || y) ≡ true
or_right true y e = refl
or_right false y e = e

equality_test : (t : Piece) → IsEquality t → (is_kind t.kind Equal || is_kind t.kind DoubleEqual) ≡ true
equality_test t (inl e) = or_left (is_kind t.kind Equal) (is_kind t.kind DoubleEqual) (is_itself t.kind Equal e refl)
equality_test t (inr e) = or_right (is_kind t.kind Equal) (is_kind t.kind DoubleEqual) (is_itself t.kind DoubleEqual e refl)

behind_equality : (key : List ℕ) (end : ℕ) (t : Piece) (front : List Piece) (v : List ℕ) (rest : List Piece) → IsEquality t → IsValue front v → ends rest ≡ true → behind_key key end (t ∷ (front ++ rest)) ≡ Ok (In key (v ∷ []), rest)
unfolding behind_key
behind_equality key end t front v rest equality value e =
    rw (equality_test t equality, value_again end front v rest value (ends_no_word rest e)) refl

behind_inequality : (key : List ℕ) (end : ℕ) (t : Piece) (front : List Piece) (v : List ℕ) (rest : List Piece) → IsInequality t → IsValue front v → ends rest ≡ true → behind_key key end (t ∷ (front ++ rest)) ≡ Ok (NotIn key (v ∷ []), rest)
unfolding behind_key
behind_inequality key end t front v rest inequality value e =
    let test = is_itself t.kind NotEqual inequality refl in
    rw (kind_apart t.kind NotEqual Equal test refl, kind_apart t.kind NotEqual DoubleEqual test refl, test, value_again end front v rest value (ends_no_word rest e)) refl

behind_in : (key : List ℕ) (end : ℕ) (t : Piece) (front : List Piece) (vs : List (List ℕ)) (rest : List Piece) → IsWord t (codes "in") → IsSet front vs → behind_key key end (t ∷ (front ++ rest)) ≡ Ok (In key vs, rest)
unfolding behind_key
behind_in key end t front vs rest word set =
    let test = is_itself t.kind Word word.0 refl in
    let same : bytes_eq t.text (codes "in") ≡ true = (bytes_eq-Decides t.text (codes "in")).1 word.1 in
    rw (kind_apart t.kind Word Equal test refl, kind_apart t.kind Word DoubleEqual test refl, kind_apart t.kind Word NotEqual test refl, test, same, set_again end front vs rest set) refl

not_in : (text : List ℕ) → text ≡ codes "notin" → bytes_eq text (codes "in") ≡ false
not_in text e = false_from_ne_true (bytes_eq text (codes "in")) (λ same. let e2 = (bytes_eq-Decides text (codes "in")).0 same in omega (arith, ap (length {A = ℕ}) (sym e2 ∙ e)))

behind_notin : (key : List ℕ) (end : ℕ) (t : Piece) (front : List Piece) (vs : List (List ℕ)) (rest : List Piece) → IsWord t (codes "notin") → IsSet front vs → behind_key key end (t ∷ (front ++ rest)) ≡ Ok (NotIn key vs, rest)
unfolding behind_key
behind_notin key end t front vs rest word set =
    let test = is_itself t.kind Word word.0 refl in
    let same : bytes_eq t.text (codes "notin") ≡ true = (bytes_eq-Decides t.text (codes "notin")).1 word.1 in
    rw (kind_apart t.kind Word Equal test refl, kind_apart t.kind Word DoubleEqual test refl, kind_apart t.kind Word NotEqual test refl, test, not_in t.text word.1, same, set_again end front vs rest set) refl

-- a requirement begins with its key
by_key : (end : ℕ) (t : Piece) (key : List ℕ) (ts : List Piece) → IsKey t key → requirement_at end (t ∷ ts) ≡ behind_key key end ts
unfolding requirement_at
by_key end t key ts is =
    let test = is_itself t.kind Word is.0.0 refl in
    rw (kind_apart t.kind Word Not test refl, key_again end t key ts is) refl

pub requirement_again : (end : ℕ) (front : List Piece) (r : Requirement) (rest : List Piece) → IsRequirement front r → ends rest ≡ true → requirement_at end (front ++ rest) ≡ Ok (r, rest)
unfolding requirement_at
requirement_again end [] (Exists key) rest is e = absurd is
requirement_again end (t ∷ []) (Exists key) rest is e = by_key end t key rest is ∙ alone_again key end rest e
requirement_again end (t ∷ u ∷ ts) (Exists key) rest is e = absurd is
requirement_again end [] (Absent key) rest is e = absurd is
requirement_again end (t ∷ []) (Absent key) rest is e = absurd is
requirement_again end (t ∷ u ∷ []) (Absent key) rest is e = rw (is_itself t.kind Not is.0 refl, key_again end u key rest is.1) refl
requirement_again end (t ∷ u ∷ w ∷ ts) (Absent key) rest is e = absurd is
requirement_again end [] (In key vs) rest is e = absurd is
requirement_again end (t ∷ []) (In key vs) rest is e = absurd is
requirement_again end (t ∷ u ∷ ts) (In key vs) rest (is, inl (equality, (v, value, one))) e =
    by_key end t key (u ∷ (ts ++ rest)) is ∙ behind_equality key end u ts v rest equality value e ∙ ap (λ (x : List (List ℕ)). read (In key x) rest) (sym one)
requirement_again end (t ∷ u ∷ ts) (In key vs) rest (is, inr (word, set)) e = by_key end t key (u ∷ (ts ++ rest)) is ∙ behind_in key end u ts vs rest word set
requirement_again end [] (NotIn key vs) rest is e = absurd is
requirement_again end (t ∷ []) (NotIn key vs) rest is e = absurd is
requirement_again end (t ∷ u ∷ ts) (NotIn key vs) rest (is, inl (inequality, (v, value, one))) e =
    by_key end t key (u ∷ (ts ++ rest)) is ∙ behind_inequality key end u ts v rest inequality value e ∙ ap (λ (x : List (List ℕ)). read (NotIn key x) rest) (sym one)
requirement_again end (t ∷ u ∷ ts) (NotIn key vs) rest (is, inr (word, set)) e = by_key end t key (u ∷ (ts ++ rest)) is ∙ behind_notin key end u ts vs rest word set

-- ---- selectors

ok_is : {A : Type 0} (x y : A) → ◌≡◌ {A = Result A LabelNo} (Ok x) (Ok y) → x ≡ y
ok_is x y e = cc

followed : (most end : ℕ) (ts : List Piece) (r : Requirement) (rest front : List Piece) (rs : List Requirement) → ts ≡ front ++ rest → IsRequirement front r → followed_by (requirements_at most end) r rest ≡ Ok rs
    → ((us : List Piece) (qs : List Requirement) → requirements_at most end us ≡ Ok qs → Joined IsRequirement us qs × (length qs ≤ most)) → Joined IsRequirement ts rs × (length rs ≤ suc most)
unfolding followed_by
followed most end ts r [] front rs parts is e others =
    let one = ok_is (r ∷ []) rs e in
    subst (λ (x : List Requirement). Joined IsRequirement ts x × (length x ≤ suc most)) one (subst (λ (x : List Piece). IsRequirement x r) (sym (parts ∙ append-nil front)) is, omega arith)
followed most end ts r (t ∷ rest) front rs parts is e others =
    elim (either (is_kind t.kind Comma)) [
      | inl comma ↦
          let h = bind_ok (requirements_at most end rest) (λ qs. Ok (r ∷ qs)) rs (rw comma at e) in
          let o = others rest h.0 h.1 in
          let some = ok_is (r ∷ h.0) rs h.2 in
          subst (λ (x : List Requirement). Joined IsRequirement ts x × (length x ≤ suc most)) some
          (subst (λ (x : List Piece). Joined IsRequirement x (r ∷ h.0)) (sym parts) (joined_more IsRequirement front t rest r h.0 is (kind_is t.kind Comma comma) o.0), omega (arith, o.1))
      | inr other ↦ never (Syntax t.at) rs (rw other at e)
    ]

requirements_take : (most end : ℕ) (ts : List Piece) (rs : List Requirement) → requirements_at most end ts ≡ Ok rs → Joined IsRequirement ts rs × (length rs ≤ most)
unfolding requirements_at followed_by
requirements_take zero end ts rs e = never TooLong rs e
requirements_take (suc most) end ts rs e =
    let h = bind_ok (requirement_at end ts) (λ r. followed_by (requirements_at most end) r.0 r.1) rs e in
    let t = requirement_takes end ts h.0.0 h.0.1 h.1 in
    followed most end ts h.0.0 h.0.1 t.0 rs t.1 t.2 h.2 (λ us qs f. requirements_take most end us qs f)

requirements_again : (most end : ℕ) (ts : List Piece) (rs : List Requirement) → Joined IsRequirement ts rs → length rs ≤ most → requirements_at most end ts ≡ Ok rs
unfolding requirements_at followed_by
requirements_again most end ts [] joined few = absurd joined
requirements_again zero end ts (r ∷ rs) joined few = absurd (omega arith)
requirements_again (suc most) end ts (r ∷ []) joined few =
    let e = ap (requirement_at end) (sym (append-nil ts)) ∙ requirement_again end ts r [] joined refl in
    rw e refl
requirements_again (suc most) end ts (r ∷ q ∷ rs) (front, comma, back, parts, comma-is, is, others) few =
    let test = is_itself comma.kind Comma comma-is refl in
    let e = ap (requirement_at end) parts ∙ requirement_again end front r (comma ∷ back) is test in
    rw (e, test, requirements_again most end back (q ∷ rs) others (omega arith)) refl

joined_some : (ts : List Piece) (rs : List Requirement) → Joined IsRequirement ts rs → AreRequirements ts rs
joined_some ts [] joined = absurd joined
joined_some ts (r ∷ rs) joined = joined

-- no requirement stands for no tokens
joined_nothing : (r : Requirement) (rs : List Requirement) → Joined IsRequirement [] (r ∷ rs) → ⊥
joined_nothing (Exists key) [] is = is
joined_nothing (Absent key) [] is = is
joined_nothing (In key vs) [] is = is
joined_nothing (NotIn key vs) [] is = is
joined_nothing r (q ∷ rs) ([], comma, back, parts, comma-is, is, others) = cc
joined_nothing r (q ∷ rs) (t ∷ front, comma, back, parts, comma-is, is, others) = cc

selector_takes : (end : ℕ) (ts : List Piece) (rs : List Requirement) → selector_at end ts ≡ Ok rs → AreRequirements ts rs × (length rs ≤ 64)
unfolding selector_at
selector_takes end [] rs e = subst (λ (x : List Requirement). AreRequirements [] x × (length x ≤ 64)) (ok_is [] rs e) (refl, omega arith)
selector_takes end (t ∷ ts) rs e =
    let h = requirements_take 64 end (t ∷ ts) rs e in
    (joined_some (t ∷ ts) rs h.0, h.1)

selector_again : (end : ℕ) (ts : List Piece) (rs : List Requirement) → AreRequirements ts rs → length rs ≤ 64 → selector_at end ts ≡ Ok rs
unfolding selector_at
selector_again end ts [] none few = ap (selector_at end) none
selector_again end [] (r ∷ rs) joined few = absurd (joined_nothing r rs joined)
selector_again end (t ∷ ts) (r ∷ rs) joined few = requirements_again 64 end (t ∷ ts) (r ∷ rs) joined few

selector_found : (text : List ℕ) (rs : List Requirement) → selector_of text ≡ Ok rs → IsSelector text rs
unfolding selector_of
selector_found text rs e =
    elim (either (ltb 8192 (length text))) [
      | inl long ↦ never TooLong rs (rw long at e)
      | inr short ↦
          let h = selector_takes (length text) (tokens_of 0 text) rs (rw short at e) in
          record { tokens = tokens_of 0 text; are_tokens = tokens_computed 0 text; requirements = h.0; few = h.1; short = ltb-false 8192 (length text) short }
    ]

is_read : (text : List ℕ) (rs : List Requirement) → IsSelector text rs → selector_of text ≡ Ok rs
unfolding selector_of
is_read text rs is =
    rw (le-ltb 8192 (length text) is.short) (ap (selector_at (length text)) (tokens_unique is.tokens 0 text is.are_tokens) ∙ selector_again (length text) is.tokens rs is.requirements is.few)

-- what is read is in the grammar
pub is_found : (text : List ℕ) (r : Result (List Requirement) LabelNo) → ReadsRequirements r (selector_of text) → IfOk r (IsSelector text)
is_found text (Ok rs) e = selector_found text rs e
is_found text (Err n) e = tt

-- what is in the grammar is read
pub is_only : (text : List ℕ) (r : Result (List Requirement) LabelNo) → ReadsRequirements r (selector_of text) → (rs : List Requirement) → IsSelector text rs → ReadsRequirements r (Ok rs)
is_only text r e rs is = subst (ReadsRequirements r) (is_read text rs is) e

-- a text stands for one selector at most
pub one_selector : (text : List ℕ) (a b : List Requirement) → IsSelector text a → IsSelector text b → a ≡ b
one_selector text a b is also = ok_is a b (sym (is_read text a is) ∙ is_read text b also)
