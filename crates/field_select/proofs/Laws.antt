-- What is read is in the grammar, and what is in the grammar is read.
use Rattle.std.proofs.Common.{◌≡◌, ℕ, zero, suc, ◌<◌, ◌≤◌, inl, inr, Bool, true, false, cond, eqb, ltb, List, [], ◌∷◌, ◌++◌, length, Option, Some, None, Result, Ok, Err, refl, sym, ap, ◌∙◌, subst, append_assoc, arith}
use Rattle.std.specs.Prelude.{codes, IfOk, option_map, bytes_eq}
use Rattle.std.proofs.lemmas.Bool.{eqb-true, ltb-false, le-ltb, false_from_ne_true}
use Rattle.std.proofs.lemmas.List.{append-nil, length-append}
use Rattle.std.proofs.lemmas.List.Concat.{flat_map-cons}
use Rattle.std.proofs.lemmas.Slice.Eq.{bytes_eq-Decides}
use Rattle.kube_meta.specs.declared.resources.Resource.{Resource}
use Rattle.kube_meta.specs.declared.resources.Resource.TheVariants.{Pods, ConfigMaps, Deployments}
use Rattle.kube_meta.specs.Resources.{listed_fields_of}
use Rattle.field_select.specs.declared.reader.Run.TheVariants as runs
use Rattle.field_select.specs.declared.refusal.FieldNo.{FieldNo}
use Rattle.field_select.specs.declared.refusal.FieldNo.TheVariants.{Syntax, TooLong, UnknownField}
use Rattle.field_select.specs.declared.terms.Field.{Field}
use Rattle.field_select.specs.declared.terms.Field.TheVariants.{Name, Namespace, Listed}
use Rattle.field_select.specs.declared.terms.Term.{Term}
use Rattle.field_select.specs.Bytes.{is_in, is_escaped, begins_with, without, taken, left}
use Rattle.field_select.specs.Grammar.{IsName, IsOperator, escaped, IsTerm, AreCommas, AreTerms, IsSelector}
use Rattle.field_select.specs.Reading.{◌>>=◌, place, value_at, operator_at, field_named, place_among, of_field, behind_name, term_at, terms_at, followed_by, selector_of}
use Rattle.field_select.specs.Left.{ReadsTerms}
use Rattle.field_select.proofs.Runs.{either, taken_left}
use Rattle.field_select.proofs.Loops.{read, plain_byte, terms_step, terms_none}

both : {A : Type 0} (x y : A) (r s : List ℕ) → read x r ≡ read y s → (x ≡ y) × (r ≡ s)
both {A} x y r s e = let pairs : ◌≡◌ {A = A × List ℕ} (x, r) (y, s) = cc in (ap (λ (p : A × List ℕ). p.0) pairs, ap (λ (p : A × List ℕ). p.1) pairs)

never : {A B : Type 0} (n : FieldNo) (y : A) → ◌≡◌ {A = Result A FieldNo} (Err n) (Ok y) → B
never n y e = absurd cc

bind_ok : {A B : Type 0} (r : Result A FieldNo) (f : A → Result B FieldNo) (y : B) → (r >>= f) ≡ Ok y → (x : A) × (r ≡ Ok x) × (f x ≡ Ok y)
bind_ok (Ok x) f y e = (x, refl, e)
bind_ok (Err n) f y e = never n y e

-- ---- values

-- a value ends before these bytes: they are none, or a comma is first
abbrev Stops : List ℕ → Type 0
Stops [] = Unit {0}
Stops (b ∷ bytes) = eqb b 44 ≡ true

escaped-cons : (b : ℕ) (value : List ℕ) → escaped (b ∷ value) ≡ cond (is_escaped b) (92 ∷ b ∷ []) (b ∷ []) ++ escaped value
escaped-cons b value = flat_map-cons (λ b. cond (is_escaped b) (92 ∷ b ∷ []) (b ∷ [])) b value

escaped-special : (b : ℕ) (value : List ℕ) → is_escaped b ≡ true → escaped (b ∷ value) ≡ 92 ∷ b ∷ escaped value
escaped-special b value e = escaped-cons b value ∙ rw e refl

escaped-plain : (b : ℕ) (value : List ℕ) → is_escaped b ≡ false → escaped (b ∷ value) ≡ b ∷ escaped value
escaped-plain b value e = escaped-cons b value ∙ rw e refl

-- the bytes are a spelled value and the rest; behind a `\`, with it
abbrev Spelled : Bool → List ℕ → List ℕ → List ℕ → Type 0
Spelled true bytes value rest = (92 ∷ bytes ≡ escaped value ++ rest) × Stops rest
Spelled false bytes value rest = (bytes ≡ escaped value ++ rest) × Stops rest

not_special : (b : ℕ) → eqb b 92 ≡ false → eqb b 44 ≡ false → eqb b 61 ≡ false → is_escaped b ≡ false
not_special b e f g = rw (e, f, g) refl

value_takes : (end : ℕ) (behind : Bool) (bytes value rest : List ℕ) → value_at end behind bytes ≡ Ok (value, rest) → Spelled behind bytes value rest
unfolding value_at
value_takes end true [] value rest e = never (Syntax (place end (92 ∷ []))) (value, rest) e
value_takes end true (b ∷ bytes) value rest e =
    elim (either (is_escaped b)) [
      | inl special ↦
          let h = bind_ok (value_at end false bytes) (λ x. Ok (b ∷ x.0, x.1)) (value, rest) (rw special at e) in
          let p = both (b ∷ h.0.0) value h.0.1 rest h.2 in
          let s = value_takes end false bytes h.0.0 h.0.1 h.1 in
          let parts : 92 ∷ b ∷ bytes ≡ escaped (b ∷ h.0.0) ++ h.0.1 = ap (λ (l : List ℕ). 92 ∷ b ∷ l) s.0 ∙ ap (λ (l : List ℕ). l ++ h.0.1) (sym (escaped-special b h.0.0 special)) in
          (parts ∙ (λ i. escaped (p.0 i) ++ p.1 i), subst Stops p.1 s.1)
      | inr plain ↦ never (Syntax (place end (92 ∷ b ∷ bytes))) (value, rest) (rw plain at e)
    ]
value_takes end false [] value rest e = let p = both [] value [] rest e in ((λ i. escaped (p.0 i) ++ p.1 i), subst Stops p.1 tt)
value_takes end false (b ∷ bytes) value rest e =
    elim (either (eqb b 44)) [
      | inl comma ↦ let p = both [] value (b ∷ bytes) rest (rw comma at e) in ((λ i. escaped (p.0 i) ++ p.1 i), subst Stops p.1 comma)
      | inr no_comma ↦ elim (either (eqb b 61)) [
        | inl equal ↦ never (Syntax (place end (b ∷ bytes))) (value, rest) (rw (no_comma, equal) at e)
        | inr no_equal ↦ elim (either (eqb b 92)) [
          | inl escape ↦
              let s = value_takes end true bytes value rest (rw (no_comma, no_equal, escape) at e) in
              (ap (λ n. n ∷ bytes) (eqb-true b 92 escape) ∙ s.0, s.1)
          | inr no_escape ↦
              let h = bind_ok (value_at end false bytes) (λ x. Ok (b ∷ x.0, x.1)) (value, rest) (rw (no_comma, no_equal, no_escape) at e) in
              let p = both (b ∷ h.0.0) value h.0.1 rest h.2 in
              let s = value_takes end false bytes h.0.0 h.0.1 h.1 in
              let parts : b ∷ bytes ≡ escaped (b ∷ h.0.0) ++ h.0.1 = ap (λ (l : List ℕ). b ∷ l) s.0 ∙ ap (λ (l : List ℕ). l ++ h.0.1) (sym (escaped-plain b h.0.0 (not_special b no_escape no_comma no_equal))) in
              (parts ∙ (λ i. escaped (p.0 i) ++ p.1 i), subst Stops p.1 s.1)
        ]
      ]
    ]

value_again : (end : ℕ) (value rest : List ℕ) → Stops rest → value_at end false (escaped value ++ rest) ≡ Ok (value, rest)
unfolding value_at
value_again end [] [] stops = refl
value_again end [] (b ∷ rest) stops = rw stops refl
value_again end (b ∷ value) rest stops =
    elim (either (is_escaped b)) [
      | inl special ↦ ap (λ (l : List ℕ). value_at end false (l ++ rest)) (escaped-special b value special) ∙ rw (special, value_again end value rest stops) refl
      | inr plain ↦
          let p = plain_byte b plain in
          ap (λ (l : List ℕ). value_at end false (l ++ rest)) (escaped-plain b value plain) ∙ rw (p.1, p.2, p.0, value_again end value rest stops) refl
    ]

-- ---- operators

-- the bytes don't begin with `=`
abbrev NoEqual : List ℕ → Type 0
NoEqual bytes = begins_with 61 bytes ≡ false

without_first : (bytes : List ℕ) → NoEqual bytes → without 61 bytes ≡ bytes
without_first [] no_equal = refl
without_first (b ∷ bytes) no_equal = rw no_equal refl

-- an operator and the rest
abbrev Parted : List ℕ → Bool → List ℕ → Type 0
Parted bytes equal rest = (operator : List ℕ) × IsOperator equal operator × (bytes ≡ operator ++ rest)

some_is : {A : Type 0} (x y : A) → ◌≡◌ {A = Option A} (Some x) (Some y) → x ≡ y
some_is x y e = cc

found_is : (a b : Bool) (r s : List ℕ) → ◌≡◌ {A = Option (Bool × List ℕ)} (Some (a, r)) (Some (b, s)) → (a ≡ b) × (r ≡ s)
found_is a b r s e = let pairs : ◌≡◌ {A = Bool × List ℕ} (a, r) (b, s) = cc in (ap (λ (p : Bool × List ℕ). p.0) pairs, ap (λ (p : Bool × List ℕ). p.1) pairs)

nothing_found : {B : Type 0} (x : Bool × List ℕ) → ◌≡◌ {A = Option (Bool × List ℕ)} None (Some x) → B
nothing_found x e = absurd cc

equal_parted : (b : ℕ) (bytes : List ℕ) → eqb b 61 ≡ true → Parted (b ∷ bytes) true (without 61 bytes)
equal_parted b [] e = (codes "=", inl refl, ap (λ n. n ∷ []) (eqb-true b 61 e))
equal_parted b (c ∷ bytes) e =
    elim (either (eqb c 61)) [
      | inl double ↦ (codes "==", inr refl, rw double ((λ i. eqb-true b 61 e i ∷ eqb-true c 61 double i ∷ bytes)))
      | inr single ↦ (codes "=", inl refl, rw single (ap (λ n. n ∷ c ∷ bytes) (eqb-true b 61 e)))
    ]

not_equal_parted : (b : ℕ) (bytes : List ℕ) → eqb b 33 ≡ true → begins_with 61 bytes ≡ true → Parted (b ∷ bytes) false (without 61 bytes)
not_equal_parted b [] e f = absurd cc
not_equal_parted b (c ∷ bytes) e f = (codes "!=", refl, rw f ((λ i. eqb-true b 33 e i ∷ eqb-true c 61 f i ∷ bytes)))

operator_takes : (bytes : List ℕ) (equal : Bool) (rest : List ℕ) → operator_at bytes ≡ Some (equal, rest) → Parted bytes equal rest
unfolding operator_at
operator_takes [] equal rest e = nothing_found (equal, rest) e
operator_takes (b ∷ bytes) equal rest e =
    elim (either (eqb b 61)) [
      | inl is ↦
          let p = found_is true equal (without 61 bytes) rest (rw is at e) in
          subst (λ x. Parted (b ∷ bytes) x rest) p.0 (subst (Parted (b ∷ bytes) true) p.1 (equal_parted b bytes is))
      | inr isnt ↦ elim (either (eqb b 33)) [
        | inl not' ↦ elim (either (begins_with 61 bytes)) [
          | inl is ↦
              let p = found_is false equal (without 61 bytes) rest (rw (isnt, not', is) at e) in
              subst (λ x. Parted (b ∷ bytes) x rest) p.0 (subst (Parted (b ∷ bytes) false) p.1 (not_equal_parted b bytes not' is))
          | inr none ↦ nothing_found (equal, rest) (rw (isnt, not', none) at e)
        ]
        | inr other ↦ nothing_found (equal, rest) (rw (isnt, other) at e)
      ]
    ]

operator_again : (equal : Bool) (operator rest : List ℕ) → IsOperator equal operator → NoEqual rest → operator_at (operator ++ rest) ≡ Some (equal, rest)
unfolding operator_at
operator_again true operator rest (inl one) no_equal = ap (λ (l : List ℕ). operator_at (l ++ rest)) one ∙ ap (λ (l : List ℕ). Some (true, l)) (without_first rest no_equal)
operator_again true operator rest (inr two) no_equal = ap (λ (l : List ℕ). operator_at (l ++ rest)) two
operator_again false operator rest is no_equal = ap (λ (l : List ℕ). operator_at (l ++ rest)) is

-- ---- names of fields

-- the name ends before these bytes
abbrev NameStops : List ℕ → Type 0
NameStops [] = Unit {0}
NameStops (b ∷ bytes) = is_in runs.Name b ≡ false

-- each byte is part of a name
abbrev all_of_name : List ℕ → Bool
all_of_name [] = true
all_of_name (b ∷ bytes) = cond (is_in runs.Name b) (all_of_name bytes) false

name_run : (name rest : List ℕ) → all_of_name name ≡ true → NameStops rest → (taken (is_in runs.Name) (name ++ rest) ≡ name) × (left (is_in runs.Name) (name ++ rest) ≡ rest)
name_run [] [] all stops = (refl, refl)
name_run [] (b ∷ rest) all stops = rw stops (refl, refl)
name_run (b ∷ name) rest all stops =
    elim (either (is_in runs.Name b)) [
      | inl is ↦ let more = name_run name rest (rw is at all) stops in rw is (ap (λ (l : List ℕ). b ∷ l) more.0, more.1)
      | inr isnt ↦ absurd (let wrong : false ≡ true = rw isnt at all in cc)
    ]

good-name : all_of_name (codes "metadata.name") ≡ true
unfolding is_in
good-name = refl

good-namespace : all_of_name (codes "metadata.namespace") ≡ true
unfolding is_in
good-namespace = refl

good-node : all_of_name (codes "spec.nodeName") ≡ true
unfolding is_in
good-node = refl

good-phase : all_of_name (codes "status.phase") ≡ true
unfolding is_in
good-phase = refl

differs : (a b : List ℕ) → (a ≡ b → ⊥) → bytes_eq a b ≡ false
differs a b apart = false_from_ne_true (bytes_eq a b) (λ e. apart ((bytes_eq-Decides a b).0 e))

same_text : (a b : List ℕ) → a ≡ b → bytes_eq a b ≡ true
same_text a b e = (bytes_eq-Decides a b).1 e

-- a name of a field of the resource: its bytes, that no comma is first, and that it is found
pub record Known (resource : Resource) (field : Field) (name : List ℕ) : Type 0 where
  pub good : all_of_name name ≡ true
  pub some : 0 < length name
  pub no_comma : (rest : List ℕ) → left (is_in runs.Commas) (name ++ rest) ≡ name ++ rest
  pub found : field_named resource name ≡ Some field

first-name : (rest : List ℕ) → left (is_in runs.Commas) (codes "metadata.name" ++ rest) ≡ codes "metadata.name" ++ rest
unfolding is_in
first-name rest = refl

first-namespace : (rest : List ℕ) → left (is_in runs.Commas) (codes "metadata.namespace" ++ rest) ≡ codes "metadata.namespace" ++ rest
unfolding is_in
first-namespace rest = refl

first-node : (rest : List ℕ) → left (is_in runs.Commas) (codes "spec.nodeName" ++ rest) ≡ codes "spec.nodeName" ++ rest
unfolding is_in
first-node rest = refl

first-phase : (rest : List ℕ) → left (is_in runs.Commas) (codes "status.phase" ++ rest) ≡ codes "status.phase" ++ rest
unfolding is_in
first-phase rest = refl

known-name : (resource : Resource) → Known resource Name (codes "metadata.name")
unfolding field_named
known-name resource = record { good = good-name; some = omega arith; no_comma = first-name; found = refl }

known-namespace : (resource : Resource) → Known resource Namespace (codes "metadata.namespace")
unfolding field_named
known-namespace resource = record { good = good-namespace; some = omega arith; no_comma = first-namespace; found = refl }

known-node : Known Pods (Listed 0) (codes "spec.nodeName")
unfolding field_named
known-node = record { good = good-node; some = omega arith; no_comma = first-node; found = refl }

known-phase : Known Pods (Listed 1) (codes "status.phase")
unfolding field_named
known-phase = record { good = good-phase; some = omega arith; no_comma = first-phase; found = refl }

text_is : (a b : List ℕ) → ◌≡◌ {A = Option (List ℕ)} (Some a) (Some b) → a ≡ b
text_is a b e = cc

no_text : {B : Type 0} (a : List ℕ) → ◌≡◌ {A = Option (List ℕ)} None (Some a) → B
no_text a e = absurd cc

is_known : (resource : Resource) (field : Field) (name : List ℕ) → IsName resource field name → Known resource field name
is_known resource Name name e = subst (Known resource Name) (sym e) (known-name resource)
is_known resource Namespace name e = subst (Known resource Namespace) (sym e) (known-namespace resource)
is_known Pods (Listed zero) name e = subst (Known Pods (Listed 0)) (text_is (codes "spec.nodeName") name e) known-node
is_known Pods (Listed (suc zero)) name e = subst (Known Pods (Listed 1)) (text_is (codes "status.phase") name e) known-phase
is_known Pods (Listed (suc (suc i))) name e = no_text name e
is_known ConfigMaps (Listed i) name e = no_text name e
is_known Deployments (Listed i) name e = no_text name e

field_is : (a b : Field) → ◌≡◌ {A = Option Field} (Some a) (Some b) → a ≡ b
field_is a b e = cc

no_field : {B : Type 0} (a : Field) → ◌≡◌ {A = Option Field} None (Some a) → B
no_field a e = absurd cc

listed_is : (resource : Resource) (field : Field) (name : List ℕ) → option_map (λ i. Listed i) (place_among (listed_fields_of resource) 0 name) ≡ Some field → IsName resource field name
listed_is Pods field name e =
    elim (either (bytes_eq name (codes "spec.nodeName"))) [
      | inl node ↦
          let f = field_is (Listed 0) field (rw node at e) in
          subst (λ x. IsName Pods x name) f (ap (λ (x : List ℕ). Some x) (sym ((bytes_eq-Decides name (codes "spec.nodeName")).0 node)))
      | inr other ↦ elim (either (bytes_eq name (codes "status.phase"))) [
        | inl phase ↦
            let f = field_is (Listed 1) field (rw (other, phase) at e) in
            subst (λ x. IsName Pods x name) f (ap (λ (x : List ℕ). Some x) (sym ((bytes_eq-Decides name (codes "status.phase")).0 phase)))
        | inr none ↦ no_field field (rw (other, none) at e)
      ]
    ]
listed_is ConfigMaps field name e = no_field field e
listed_is Deployments field name e = no_field field e

named_is : (resource : Resource) (field : Field) (name : List ℕ) → field_named resource name ≡ Some field → IsName resource field name
unfolding field_named
named_is resource field name e =
    elim (either (bytes_eq name (codes "metadata.name"))) [
      | inl is ↦ let f = field_is Name field (rw is at e) in subst (λ x. IsName resource x name) f ((bytes_eq-Decides name (codes "metadata.name")).0 is)
      | inr other ↦ elim (either (bytes_eq name (codes "metadata.namespace"))) [
        | inl is ↦ let f = field_is Namespace field (rw (other, is) at e) in subst (λ x. IsName resource x name) f ((bytes_eq-Decides name (codes "metadata.namespace")).0 is)
        | inr listed ↦ listed_is resource field name (rw (other, listed) at e)
      ]
    ]

-- ---- terms

-- a term, and the rest
abbrev Front : Resource → List ℕ → Term → List ℕ → Type 0
Front resource bytes term rest = (front : List ℕ) × (bytes ≡ front ++ rest) × IsTerm resource front term × Stops rest

of_field_takes : (resource : Resource) (name : List ℕ) (found : Option Field) (at end : ℕ) (equal : Bool) (bytes : List ℕ) (term : Term) (rest : List ℕ) → field_named resource name ≡ found
    → of_field found at end equal bytes ≡ Ok (term, rest) → (value : List ℕ) × IsName resource term.field name × (term.equal ≡ equal) × (value ≡ term.value) × (bytes ≡ escaped value ++ rest) × Stops rest
of_field_takes resource name None at end equal bytes term rest is e = never (UnknownField at) (term, rest) e
of_field_takes resource name (Some field) at end equal bytes term rest is e =
    let made : List ℕ → Term = λ v. record { field = field; equal = equal; value = v } in
    let h = bind_ok (value_at end false bytes) (λ value. read (made value.0) value.1) (term, rest) e in
    let p = both (made h.0.0) term h.0.1 rest h.2 in
    let s = value_takes end false bytes h.0.0 h.0.1 h.1 in
    let field-is : field ≡ term.field = ap (λ (t : Term). t.field) p.0 in
    (h.0.0, subst (λ x. IsName resource x name) field-is (named_is resource field name is), sym (ap (λ (t : Term). t.equal) p.0), ap (λ (t : Term). t.value) p.0, s.0 ∙ ap (λ (l : List ℕ). escaped h.0.0 ++ l) p.1, subst Stops p.1 s.1)

behind_name_takes : (resource : Resource) (name : List ℕ) (at end : ℕ) (after : List ℕ) (found : Option (Bool × List ℕ)) (term : Term) (rest : List ℕ) → operator_at after ≡ found
    → behind_name resource name at end after found ≡ Ok (term, rest) → Front resource (name ++ after) term rest
behind_name_takes resource name at end after None term rest is e = never (Syntax (place end after)) (term, rest) e
behind_name_takes resource name at end after (Some (equal, bytes)) term rest is e =
    let o = operator_takes after equal bytes is in
    let f = of_field_takes resource name (field_named resource name) at end equal bytes term rest refl e in
    let spelled : List ℕ = escaped term.value in
    let bytes-is : bytes ≡ spelled ++ rest = f.4 ∙ ap (λ (v : List ℕ). escaped v ++ rest) f.3 in
    let parts : name ++ after ≡ (name ++ (o.0 ++ spelled)) ++ rest = ap (λ (l : List ℕ). name ++ l) (o.2 ∙ ap (λ (l : List ℕ). o.0 ++ l) bytes-is ∙ sym (append_assoc o.0 spelled rest)) ∙ sym (append_assoc name (o.0 ++ spelled) rest) in
    (name ++ (o.0 ++ spelled), parts, (name, o.0, f.1, subst (λ b. IsOperator b o.0) (sym f.2) o.1, refl), f.5)

term_takes : (resource : Resource) (end : ℕ) (bytes : List ℕ) (term : Term) (rest : List ℕ) → term_at resource end bytes ≡ Ok (term, rest) → Front resource bytes term rest
unfolding term_at
term_takes resource end bytes term rest e =
    let name = taken (is_in runs.Name) bytes in
    let after = left (is_in runs.Name) bytes in
    let f = behind_name_takes resource name (place end bytes) end after (operator_at after) term rest refl e in
    subst (λ (l : List ℕ). Front resource l term rest) (taken_left (is_in runs.Name) bytes) f

-- an operator ends a name
operator_stops : (equal : Bool) (operator rest : List ℕ) → IsOperator equal operator → NameStops (operator ++ rest)
unfolding is_in
operator_stops true operator rest (inl one) = subst (λ (l : List ℕ). NameStops (l ++ rest)) (sym one) refl
operator_stops true operator rest (inr two) = subst (λ (l : List ℕ). NameStops (l ++ rest)) (sym two) refl
operator_stops false operator rest is = subst (λ (l : List ℕ). NameStops (l ++ rest)) (sym is) refl

-- a spelled value doesn't begin with `=`
value_no_equal : (value rest : List ℕ) → Stops rest → NoEqual (escaped value ++ rest)
value_no_equal [] [] stops = refl
value_no_equal [] (b ∷ rest) stops = ap (λ n. eqb n 61) (eqb-true b 44 stops)
value_no_equal (b ∷ value) rest stops =
    elim (either (is_escaped b)) [
      | inl special ↦ ap (λ (l : List ℕ). begins_with 61 (l ++ rest)) (escaped-special b value special)
      | inr plain ↦ ap (λ (l : List ℕ). begins_with 61 (l ++ rest)) (escaped-plain b value plain) ∙ (plain_byte b plain).2
    ]

term_again : (resource : Resource) (end : ℕ) (front : List ℕ) (term : Term) (rest : List ℕ) → IsTerm resource front term → Stops rest → term_at resource end (front ++ rest) ≡ Ok (term, rest)
unfolding term_at
term_again resource end front term rest (name, operator, named, is, parts) stops =
    let known = is_known resource term.field name named in
    let spelled : List ℕ = escaped term.value in
    let regrouped : front ++ rest ≡ name ++ (operator ++ (spelled ++ rest)) = ap (λ (l : List ℕ). l ++ rest) parts ∙ append_assoc name (operator ++ spelled) rest ∙ ap (λ (l : List ℕ). name ++ l) (append_assoc operator spelled rest) in
    let run = name_run name (operator ++ (spelled ++ rest)) known.good (operator_stops term.equal operator (spelled ++ rest) is) in
    ap (term_at resource end) regrouped ∙ rw (run.0, run.1, operator_again term.equal operator (spelled ++ rest) is (value_no_equal term.value rest stops), known.found, value_again end term.value rest stops) refl

-- ---- selectors

ok_is : {A : Type 0} (x y : A) → ◌≡◌ {A = Result A FieldNo} (Ok x) (Ok y) → x ≡ y
ok_is x y e = cc

commas-append : (cs text : List ℕ) → AreCommas cs → AreCommas text → AreCommas (cs ++ text)
commas-append [] text each more = more
commas-append (c ∷ cs) text each more = (each.0, commas-append cs text each.1 more)

-- commas may be put in front
terms_behind_commas : (resource : Resource) (cs text : List ℕ) (ts : List Term) → AreCommas cs → AreTerms resource text ts → AreTerms resource (cs ++ text) ts
terms_behind_commas resource cs text [] each are = commas-append cs text each are
terms_behind_commas resource cs text (t ∷ ts) each (commas, front, back, parts, all, is, others) =
    (cs ++ commas, front, back, ap (λ (l : List ℕ). cs ++ l) parts ∙ sym (append_assoc cs commas (front ++ back)), commas-append cs commas each all, is, others)

taken_commas : (bytes : List ℕ) → AreCommas (taken (is_in runs.Commas) bytes)
unfolding is_in
taken_commas [] = tt
taken_commas (b ∷ bytes) =
    elim (either (eqb b 44)) [
      | inl comma ↦ rw comma (eqb-true b 44 comma, taken_commas bytes)
      | inr other ↦ rw other tt
    ]

left_commas : (cs text : List ℕ) → AreCommas cs → left (is_in runs.Commas) (cs ++ text) ≡ left (is_in runs.Commas) text
unfolding is_in
left_commas [] text each = refl
left_commas (c ∷ cs) text each =
    let test : eqb c 44 ≡ true = ap (λ n. eqb n 44) each.0 in
    rw test (left_commas cs text each.1)

left_none : (text : List ℕ) → AreCommas text → left (is_in runs.Commas) text ≡ []
left_none text each = ap (left (is_in runs.Commas)) (sym (append-nil text)) ∙ left_commas text [] each

comma_left_out : (rest : List ℕ) → left (is_in runs.Commas) (44 ∷ rest) ≡ left (is_in runs.Commas) rest
unfolding is_in
comma_left_out rest = refl

-- what is read behind a term
others_take : (resource : Resource) (most end : ℕ) (rest front bytes : List ℕ) (t : Term) (qs : List Term) → bytes ≡ front ++ rest → IsTerm resource front t → Stops rest → terms_at resource most end (left (is_in runs.Commas) rest) ≡ Ok qs
    → AreTerms resource (left (is_in runs.Commas) rest) qs → AreTerms resource bytes (t ∷ qs)
others_take resource most end [] front bytes t qs parts is stops e others =
    let none : [] ≡ qs = ok_is [] qs (sym (terms_none resource most end [] refl) ∙ e) in
    ([], front, [], parts, tt, is, inl (refl, sym none))
others_take resource most end (b ∷ rest) front bytes t qs parts is stops e others =
    let comma = eqb-true b 44 stops in
    let more : AreTerms resource (left (is_in runs.Commas) rest) qs = subst (λ (l : List ℕ). AreTerms resource l qs) (ap (λ n. left (is_in runs.Commas) (n ∷ rest)) comma ∙ comma_left_out rest) others in
    let whole : AreTerms resource rest qs = subst (λ (l : List ℕ). AreTerms resource l qs) (taken_left (is_in runs.Commas) rest) (terms_behind_commas resource (taken (is_in runs.Commas) rest) (left (is_in runs.Commas) rest) qs (taken_commas rest) more) in
    ([], front, b ∷ rest, parts, tt, is, inr (rest, ap (λ n. n ∷ rest) comma, whole))

terms_take : (resource : Resource) (most end : ℕ) (bytes : List ℕ) (ts : List Term) → terms_at resource most end bytes ≡ Ok ts → AreTerms resource bytes ts × (length ts ≤ most)
unfolding terms_at
terms_take resource most end [] ts e = subst (λ (x : List Term). AreTerms resource [] x × (length x ≤ most)) (ok_is [] ts e) (tt, omega arith)
terms_take resource zero end (b ∷ bytes) ts e = never TooLong ts e
terms_take resource (suc most) end (b ∷ bytes) ts e =
    let h = bind_ok (term_at resource end (b ∷ bytes)) (λ t. followed_by t.0 (terms_at resource most end (left (is_in runs.Commas) t.1))) ts e in
    let f = term_takes resource end (b ∷ bytes) h.0.0 h.0.1 h.1 in
    let o = bind_ok (terms_at resource most end (left (is_in runs.Commas) h.0.1)) (λ qs. Ok (h.0.0 ∷ qs)) ts h.2 in
    let more = terms_take resource most end (left (is_in runs.Commas) h.0.1) o.0 o.1 in
    let are = others_take resource most end h.0.1 f.0 (b ∷ bytes) h.0.0 o.0 f.1 f.2 f.3 o.1 more.0 in
    subst (λ (x : List Term). AreTerms resource (b ∷ bytes) x × (length x ≤ suc most)) (ok_is (h.0.0 ∷ o.0) ts o.2) (are, omega (arith, more.1))

-- a term begins with its name
term_first : (resource : Resource) (front : List ℕ) (t : Term) (back : List ℕ) → IsTerm resource front t → (left (is_in runs.Commas) (front ++ back) ≡ front ++ back) × (0 < length (front ++ back))
term_first resource front t back (name, operator, named, is, parts) =
    let known = is_known resource t.field name named in
    let spelled : List ℕ = escaped t.value in
    let regrouped : front ++ back ≡ name ++ ((operator ++ spelled) ++ back) = ap (λ (l : List ℕ). l ++ back) parts ∙ append_assoc name (operator ++ spelled) back in
    (ap (left (is_in runs.Commas)) regrouped ∙ known.no_comma ((operator ++ spelled) ++ back) ∙ sym regrouped, omega (arith, known.some, ap (length {A = ℕ}) regrouped, length-append name ((operator ++ spelled) ++ back)))

terms_again : (resource : Resource) (end : ℕ) (ts : List Term) (most : ℕ) (text : List ℕ) → AreTerms resource text ts → length ts ≤ most → terms_at resource most end (left (is_in runs.Commas) text) ≡ Ok ts
terms_again resource end [] most text commas few = ap (terms_at resource most end) (left_none text commas) ∙ terms_none resource most end [] refl
terms_again resource end (t ∷ ts) zero text are few = absurd (omega arith)
terms_again resource end (t ∷ ts) (suc most) text (commas, front, back, parts, all, is, others) few =
    let first = term_first resource front t back is in
    let skipped : left (is_in runs.Commas) text ≡ front ++ back = ap (left (is_in runs.Commas)) parts ∙ left_commas commas (front ++ back) all ∙ first.0 in
    let stops_and_others : Stops back × (terms_at resource most end (left (is_in runs.Commas) back) ≡ Ok ts) = elim others [
      | inl h ↦ (subst Stops (sym h.0) tt, ap (λ (l : List ℕ). terms_at resource most end (left (is_in runs.Commas) l)) h.0 ∙ terms_none resource most end [] refl ∙ ap (λ (x : List Term). Ok x) (sym h.1))
      | inr h ↦ (subst Stops (sym h.1) refl, ap (λ (l : List ℕ). terms_at resource most end (left (is_in runs.Commas) l)) h.1 ∙ ap (terms_at resource most end) (comma_left_out h.0) ∙ terms_again resource end ts most h.0 h.2 (omega arith))
    ] in
    ap (terms_at resource (suc most) end) skipped ∙ terms_step resource most end (front ++ back) (λ none. omega (arith, first.1)) ∙ rw (term_again resource end front t back is stops_and_others.0, stops_and_others.1) refl

selector_found : (resource : Resource) (text : List ℕ) (ts : List Term) → selector_of resource text ≡ Ok ts → IsSelector resource text ts
unfolding selector_of
selector_found resource text ts e =
    elim (either (ltb 8192 (length text))) [
      | inl long ↦ never TooLong ts (rw long at e)
      | inr short ↦
          let h = terms_take resource 64 (length text) (left (is_in runs.Commas) text) ts (rw short at e) in
          let are = subst (λ (l : List ℕ). AreTerms resource l ts) (taken_left (is_in runs.Commas) text) (terms_behind_commas resource (taken (is_in runs.Commas) text) (left (is_in runs.Commas) text) ts (taken_commas text) h.0) in
          record { are_terms = are; few = h.1; short = ltb-false 8192 (length text) short }
    ]

is_read : (resource : Resource) (text : List ℕ) (ts : List Term) → IsSelector resource text ts → selector_of resource text ≡ Ok ts
unfolding selector_of
is_read resource text ts is = rw (le-ltb 8192 (length text) is.short) (terms_again resource (length text) ts 64 text is.are_terms is.few)

-- what is read is in the grammar
pub is_found : (resource : Resource) (text : List ℕ) (r : Result (List Term) FieldNo) → ReadsTerms r (selector_of resource text) → IfOk r (IsSelector resource text)
is_found resource text (Ok ts) e = selector_found resource text ts e
is_found resource text (Err n) e = tt

-- what is in the grammar is read
pub is_only : (resource : Resource) (text : List ℕ) (r : Result (List Term) FieldNo) → ReadsTerms r (selector_of resource text) → (ts : List Term) → IsSelector resource text ts → ReadsTerms r (Ok ts)
is_only resource text r e ts is = subst (ReadsTerms r) (is_read resource text ts is) e

-- a text stands for one selector of a resource at most
pub one_selector : (resource : Resource) (text : List ℕ) (a b : List Term) → IsSelector resource text a → IsSelector resource text b → a ≡ b
one_selector resource text a b is also = ok_is a b (sym (is_read resource text a is) ∙ is_read resource text b also)
