-- The two parts of a joined text.
use Rattle.std.proofs.Common.{◌≡◌, ℕ, Bool, ◌||◌, true, false, [], take, drop, inl, inr, ltb, drop-cons, refl, ◌+◌, List, ◌∷◌, ◌++◌, length, sym, ap, ◌∙◌, subst, arith, ap₂, suc, ◌<◌, get_or, length-append, append_assoc, bytes_eq, Decides}
use Rattle.std.proofs.Math.Seq.{take-append_seam, drop-append-add, get_or-append_seam}
use Rattle.std.proofs.lemmas.Bool.{and_parts, cases_Bool, lt-ltb, ltb-true, eqb-true, false_from_ne_true, false≢true}
use Rattle.std.proofs.lemmas.List.{take-append-drop}
use Rattle.std.proofs.lemmas.Slice.Eq.{bytes_eq-Decides}
use Rattle.std.specs.Prelude.{slice_index_or}
use Rattle.std.specs.List.{list_all, list_any, position_or_len}
use Rattle.kube_meta.specs.Names.{is_slash, is_dns_byte, IsNamespace, IsObjectName}
use Rattle.kube_meta.specs.Keys.{joined, namespace_of, name_of, is_key, is_in, IsIn, IsKey, JoinedTellsApart, KeysAreTested, KeysAreInTheirNamespace}
use Rattle.kube_meta.proofs.NameLemmas.{place_of_slash, list_any-position, is_name_byte, bytes_of_name, bytes_of_namespace as name_bytes_of_namespace}

-- each byte of a namespace is one of a DNS name
bytes_of_namespace : (ns : List ℕ) → IsNamespace ns → list_all is_dns_byte ns ≡ true
bytes_of_namespace ns passes = (and_parts _ _ (and_parts _ _ (and_parts _ _ passes).1).1).0

-- so the first slash of a joined text stands behind it
place : (ns name : List ℕ) → IsNamespace ns → position_or_len is_slash (joined ns name) ≡ length ns
place ns name passes = place_of_slash ns name (bytes_of_namespace ns passes)

pub namespace_of-joined : (ns name : List ℕ) → IsNamespace ns → namespace_of (joined ns name) ≡ ns
namespace_of-joined ns name passes = rw (place ns name passes) (take-append_seam ns (47 ∷ name))

pub name_of-joined : (ns name : List ℕ) → IsNamespace ns → name_of (joined ns name) ≡ name
name_of-joined ns name passes = rw (place ns name passes) (drop-append-add ns (47 ∷ name) 1)

-- a namespace and a name make a key
pub IsKey-joined : (ns name : List ℕ) → IsNamespace ns → IsObjectName name → IsKey (joined ns name)
IsKey-joined ns name ns_passes name_passes = record {
  namespace = subst IsNamespace (sym (namespace_of-joined ns name ns_passes)) ns_passes;
  name = subst IsObjectName (sym (name_of-joined ns name ns_passes)) name_passes;
  parted = sym (ap₂ joined (namespace_of-joined ns name ns_passes) (name_of-joined ns name ns_passes));
}

pub tells_apart : JoinedTellsApart
tells_apart ns name other_ns other_name ns_passes other_passes same = (
  sym (namespace_of-joined ns name ns_passes) ∙ ap namespace_of same ∙ namespace_of-joined other_ns other_name other_passes,
  sym (name_of-joined ns name ns_passes) ∙ ap name_of same ∙ name_of-joined other_ns other_name other_passes,
)

-- in the text of a key a slash stands behind the namespace
pub slash_at : (key : List ℕ) (at : ℕ) → IsKey key → at ≡ length (namespace_of key) → (at < length key) × (get_or key at 0 ≡ 47)
slash_at key at is_key place_is =
    let e : key ≡ namespace_of key ++ 47 ∷ name_of key = is_key.parted in
    let long : length key ≡ length (namespace_of key) + suc (length (name_of key)) = ap length e ∙ length-append (namespace_of key) (47 ∷ name_of key) in
    (omega arith, rw place_is (ap (λ text. get_or text (length (namespace_of key)) 0) e ∙ get_or-append_seam (namespace_of key) 47 (name_of key) 0))

-- ---- the first slash of a text

pub any-at : (p : ℕ → Bool) (text : List ℕ) (at : ℕ) → position_or_len p text ≡ at → at < length text → list_any p text ≡ true
any-at p text at found within = list_any-position p text ∙ ap (λ (n : ℕ). ltb n (length text)) found ∙ lt-ltb at (length text) within

pub any-none : (p : ℕ → Bool) (text : List ℕ) → position_or_len p text ≡ length text → list_any p text ≡ false
any-none p text none = list_any-position p text ∙ ap (λ (n : ℕ). ltb n (length text)) none ∙ same (length text)
  where
    same : (n : ℕ) → ltb n n ≡ false
    same n = elim (cases_Bool (ltb n n)) [
      | inl less ↦ let h = ltb-true n n less in absurd (omega arith)
      | inr not ↦ not
    ]

-- a text that is cut at a place is the two pieces round the byte there
pub rejoined : (text : List ℕ) (at b : ℕ) → at < length text → get_or text at 0 ≡ b → take at text ++ b ∷ drop (at + 1) text ≡ text
rejoined text at b within is =
    let e : drop at text ≡ get_or text at 0 ∷ drop (suc at) text = drop-cons text at 0 within in
    let next : suc at ≡ at + 1 = omega arith in
    ap (λ (x : ℕ). take at text ++ x ∷ drop (at + 1) text) (sym is) ∙ ap (λ (n : ℕ). take at text ++ get_or text at 0 ∷ drop n text) (sym next)
    ∙ ap (λ (l : List ℕ). take at text ++ l) (sym e) ∙ take-append-drop at text

-- ---- the test for keys

slash_found : (p : ℕ → Bool) (text : List ℕ) → position_or_len p text < length text → p (get_or text (position_or_len p text) 0) ≡ true
slash_found p [] within = absurd (omega arith)
slash_found p (b ∷ text) within = elim (cases_Bool (p b)) [
  | inl here ↦ rw (here, here) refl
  | inr other ↦
      let next : position_or_len p (b ∷ text) ≡ suc (position_or_len p text) = rw other (omega arith) in
      rw next (slash_found p text (omega (arith, next)))
]

-- with a slash the two pieces around the first one make the text
parted : (text : List ℕ) → list_any is_slash text ≡ true → text ≡ joined (namespace_of text) (name_of text)
parted text any =
    let within : position_or_len is_slash text < length text = ltb-true _ _ (sym (list_any-position is_slash text) ∙ any) in
    sym (rejoined text (position_or_len is_slash text) 47 within (eqb-true _ 47 (slash_found is_slash text within)))

some_slash : (ns name : List ℕ) → list_any is_slash (ns ++ 47 ∷ name) ≡ true
some_slash [] name = refl
some_slash (b ∷ ns) name = either (is_slash b) (list_any is_slash (ns ++ 47 ∷ name)) (some_slash ns name)
  where
    either : (a b : Bool) → b ≡ true → (a || b) ≡ true
    either true b e = refl
    either false b e = e

pub tested : KeysAreTested
tested text = (
  λ passes.
      let parts = and_parts _ _ passes in
      let names = and_parts _ _ parts.1 in
      record { namespace = names.0; name = names.1; parted = parted text parts.0 },
  λ is.
      let any : list_any is_slash text ≡ true = ap (list_any is_slash) is.parted ∙ some_slash (namespace_of text) (name_of text) in
      rw (any, is.namespace, is.name) refl,
)

-- ---- the keys of a namespace

begun : (ns name : List ℕ) → joined ns name ≡ joined ns [] ++ name
begun ns name = sym (append_assoc ns (47 ∷ []) name)

pub is_in-Decides : (ns key : List ℕ) → Decides (is_in ns key) (IsIn ns key)
is_in-Decides ns key = (
  λ passes.
      let same = (bytes_eq-Decides (take (length (joined ns [])) key) (joined ns [])).0 passes in
      (drop (length (joined ns [])) key, sym (take-append-drop (length (joined ns [])) key) ∙ ap (λ front. front ++ drop (length (joined ns [])) key) same ∙ sym (begun ns _)),
  λ is.
      (bytes_eq-Decides (take (length (joined ns [])) key) (joined ns [])).1
      (ap (take (length (joined ns []))) (is.1 ∙ begun ns is.0) ∙ take-append_seam (joined ns []) is.0),
)

no_slash : (b : ℕ) → is_name_byte b ≡ true → is_slash b ≡ false
no_slash b passes = false_from_ne_true (is_slash b) (λ slash.
    let here : b ≡ 47 = eqb-true b 47 slash in
    false≢true (subst (λ c. is_name_byte c ≡ true) here passes))

-- where neither piece has a slash, a slash between them parts them
parts_once : (ns name other rest : List ℕ) → list_all is_name_byte ns ≡ true → list_all is_name_byte name ≡ true → joined ns name ≡ joined other rest → ns ≡ other
parts_once [] name [] rest first second same = refl
parts_once [] name (c ∷ other) rest first second same = absurd (inside other name rest second (ap (drop 1) same))
  where
    inside : (other name rest : List ℕ) → list_all is_name_byte name ≡ true → name ≡ joined other rest → ⊥
    inside [] name rest passes is = let all = subst (λ text. list_all is_name_byte text ≡ true) is passes in false≢true all
    inside (c ∷ other) [] rest passes is = absurd (cc)
    inside (c ∷ other) (b ∷ name) rest passes is = inside other name rest (and_parts _ _ passes).1 (ap (drop 1) is)
parts_once (b ∷ ns) name [] rest first second same =
    let here : b ≡ 47 = ap (λ text. slice_index_or text 0 0) same in
    let passes : is_name_byte 47 ≡ true = subst (λ c. is_name_byte c ≡ true) here (and_parts _ _ first).0 in
    absurd (false≢true passes)
parts_once (b ∷ ns) name (c ∷ other) rest first second same =
    let here : b ≡ c = ap (λ text. slice_index_or text 0 0) same in
    ap₂ (λ x xs. x ∷ xs) here (parts_once ns name other rest (and_parts _ _ first).1 second (ap (drop 1) same))

in_theirs : (ns key : List ℕ) → IsKey key → Decides (is_in ns key) (namespace_of key ≡ ns)
in_theirs ns key is = (
  λ passes.
      let within = (is_in-Decides ns key).0 passes in
      parts_once (namespace_of key) (name_of key) ns within.0 (name_bytes_of_namespace (namespace_of key) is.namespace) (bytes_of_name (name_of key) is.name) (sym is.parted ∙ within.1),
  λ same. (is_in-Decides ns key).1 (name_of key, is.parted ∙ ap (λ n. joined n (name_of key)) same),
)

-- the namespace of a key, compared
pub in_its_namespace : (ns key : List ℕ) → IsKey key → bytes_eq (namespace_of key) ns ≡ is_in ns key
in_its_namespace ns key is = elim (cases_Bool (bytes_eq (namespace_of key) ns)) [
  | inl same ↦ same ∙ sym ((in_theirs ns key is).1 ((bytes_eq-Decides (namespace_of key) ns).0 same))
  | inr other ↦ other ∙ sym (false_from_ne_true (is_in ns key) (λ passes. false≢true (sym other ∙ (bytes_eq-Decides (namespace_of key) ns).1 ((in_theirs ns key is).0 passes))))
]

pub keys_in_theirs : KeysAreInTheirNamespace
keys_in_theirs ns key is = (
  (λ within. (in_theirs ns key is).0 ((is_in-Decides ns key).1 within), λ same. (is_in-Decides ns key).0 ((in_theirs ns key is).1 same)),
  is_in-Decides ns key,
)
