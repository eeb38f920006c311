-- What describes the server: the look-up of a path, and the table of paths.
use Rattle.std.proofs.Common.{◌≡◌, ◌==◌, arith, length, append-nil, ℕ, Bool, true, false, cond, ◌&&◌, ◌⊎◌, inl, inr, List, [], ◌∷◌, ◌++◌, codes, Option, Some, None, bytes_eq, refl, sym, ap, subst, ◌∙◌}
use Rattle.std.proofs.lemmas.Bool.{and_parts, cond-true, ne_eqb}
use Rattle.std.proofs.lemmas.Option.{none-some, same_Some}
use Rattle.std.proofs.lemmas.Slice.Eq.{bytes_eq-Decides}
use Rattle.kube_meta.specs.Names.{is_namespace}
use Rattle.kube_meta.specs.declared.resources.Resource.{Resource}
use Rattle.kube_meta.specs.declared.resources.Resource.TheVariants.{Pods}
use Rattle.route_req.specs.declared.documents.Document.{Document}
use Rattle.route_req.specs.declared.documents.Document.TheVariants.{Version, CoreVersions, Groups, AppsGroup, CoreResources, AppsResources, OpenApi, Namespace, Probe}
use Rattle.route_req.specs.declared.documents.Probe.TheVariants.{Livez, Readyz, Healthz}
use Rattle.route_req.specs.Places.{document_path, IsDocument, place_path}
use Rattle.route_req.specs.Lookup.{last_kept, before_slash, document_word, document_pair, apps_document, namespace_document, document_at}
use Rattle.route_req.specs.declared.places.Place.TheVariants.{Everywhere, Namespaced, Named}

-- ---- what a look-up that found something looked at

pub if_found : {A : Type 0} (b : Bool) (o : Option A) (y : A) → cond b o None ≡ Some y → (b ≡ true) × (o ≡ Some y)
if_found true o y e = (refl, e)
if_found false o y e = absurd (none-some y e)

pub first_found : {A : Type 0} (b : Bool) (x : A) (o : Option A) (y : A) → cond b (Some x) o ≡ Some y → ((b ≡ true) × (x ≡ y)) ⊎ (o ≡ Some y)
first_found true x o y e = inl (refl, same_Some x y e)
first_found false x o y e = inr e

pub same_text : (a b : List ℕ) → bytes_eq a b ≡ true → a ≡ b
same_text a b = (bytes_eq-Decides a b).0

-- what stands beside the first of some words that is the given one
abbrev pub beside : {A : Type 0} → List (List ℕ × A) → List ℕ → Option A
beside [] word = None
beside (row ∷ rows) word = cond (bytes_eq word row.0) (Some row.1) (beside rows word)

abbrev pub EachRow : {A : Type 0} → (List ℕ → A → Type 0) → List (List ℕ × A) → Type 0
EachRow P [] = Unit {0}
EachRow P (row ∷ rows) = P row.0 row.1 × EachRow P rows

pub row_found : {A : Type 0} (P : List ℕ → A → Type 0) (rows : List (List ℕ × A)) (word : List ℕ) (y : A)
    → EachRow P rows → beside rows word ≡ Some y → P word y
row_found P [] word y each e = absurd (none-some y e)
row_found P (row ∷ rows) word y each e = elim (first_found (bytes_eq word row.0) row.1 (beside rows word) y e) [
  | inl p ↦ subst (P word) p.1 (subst (λ w. P w row.1) (sym (same_text word row.0 p.0)) each.0)
  | inr later ↦ row_found P rows word y each.1 later
]

-- ---- a text that is found has the path

abbrev pub Has : List (List ℕ) → Document → Type 0
Has path text = (path ≡ document_path text) × IsDocument text

has_moved : (path path' : List (List ℕ)) (a b : Document) → path' ≡ path → a ≡ b → Has path a → Has path' b
has_moved path path' a b e f h = subst (Has path') f (e ∙ h.0, h.1)

word_found : (word : List ℕ) (text : Document) → document_word word ≡ Some text → Has (word ∷ []) text
word_found word text e =
    row_found (λ w t. Has (w ∷ []) t)
    ((codes "version", Version) ∷ (codes "api", CoreVersions) ∷ (codes "apis", Groups)
    ∷ (codes "livez", Probe Livez) ∷ (codes "readyz", Probe Readyz) ∷ (codes "healthz", Probe Healthz) ∷ []) word text
    ((refl, tt), ((refl, tt), ((refl, tt), ((refl, tt), ((refl, tt), ((refl, tt), tt)))))) e

-- two segments that are equal to two words
pair_same : (base word own other : List ℕ) → (bytes_eq base own && bytes_eq word other) ≡ true → base ∷ word ∷ [] ≡ own ∷ other ∷ []
pair_same base word own other good =
    let parts = and_parts (bytes_eq base own) (bytes_eq word other) good in
    ap (λ w. w ∷ word ∷ []) (same_text base own parts.0) ∙ ap (λ w. own ∷ w ∷ []) (same_text word other parts.1)

pair_found : (base word : List ℕ) (text : Document) → document_pair base word ≡ Some text → Has (base ∷ word ∷ []) text
pair_found base word text e =
    elim (first_found (bytes_eq base (codes "api") && bytes_eq word (codes "v1")) CoreResources _ text e) [
      | inl p ↦ has_moved (codes "api" ∷ codes "v1" ∷ []) (base ∷ word ∷ []) CoreResources text (pair_same base word (codes "api") (codes "v1") p.0) p.1 (refl, tt)
      | inr e1 ↦ elim (first_found (bytes_eq base (codes "apis") && bytes_eq word (codes "apps")) AppsGroup _ text e1) [
        | inl p ↦ has_moved (codes "apis" ∷ codes "apps" ∷ []) (base ∷ word ∷ []) AppsGroup text (pair_same base word (codes "apis") (codes "apps") p.0) p.1 (refl, tt)
        | inr e2 ↦ elim (first_found (bytes_eq base (codes "openapi") && bytes_eq word (codes "v2")) OpenApi None text e2) [
          | inl p ↦ has_moved (codes "openapi" ∷ codes "v2" ∷ []) (base ∷ word ∷ []) OpenApi text (pair_same base word (codes "openapi") (codes "v2") p.0) p.1 (refl, tt)
          | inr none ↦ absurd (none-some text none)
        ]
      ]
    ]

apps_found : (base group version : List ℕ) (text : Document) → apps_document base group version ≡ Some text → Has (base ∷ group ∷ version ∷ []) text
apps_found base group version text e =
    let t = if_found (bytes_eq base (codes "apis") && (bytes_eq group (codes "apps") && bytes_eq version (codes "v1"))) (Some AppsResources) text e in
    let good = and_parts (bytes_eq base (codes "apis")) (bytes_eq group (codes "apps") && bytes_eq version (codes "v1")) t.0 in
    has_moved (codes "apis" ∷ codes "apps" ∷ codes "v1" ∷ []) (base ∷ group ∷ version ∷ []) AppsResources text
    (ap (λ w. w ∷ group ∷ version ∷ []) (same_text base (codes "apis") good.0)
    ∙ ap (λ rest. codes "apis" ∷ rest) (pair_same group version (codes "apps") (codes "v1") good.1)) (same_Some AppsResources text t.1) (refl, tt)

namespace_found : (base version word ns : List ℕ) (text : Document) → namespace_document base version word ns ≡ Some text → Has (base ∷ version ∷ word ∷ ns ∷ []) text
namespace_found base version word ns text e =
    let inner = bytes_eq word (codes "namespaces") && is_namespace ns in
    let t = if_found (bytes_eq base (codes "api") && (bytes_eq version (codes "v1") && inner)) (Some (Namespace ns)) text e in
    let good = and_parts (bytes_eq base (codes "api")) (bytes_eq version (codes "v1") && inner) t.0 in
    let more = and_parts (bytes_eq version (codes "v1")) inner good.1 in
    let last = and_parts (bytes_eq word (codes "namespaces")) (is_namespace ns) more.1 in
    has_moved (codes "api" ∷ codes "v1" ∷ codes "namespaces" ∷ ns ∷ []) (base ∷ version ∷ word ∷ ns ∷ []) (Namespace ns) text
    (ap (λ w. w ∷ version ∷ word ∷ ns ∷ []) (same_text base (codes "api") good.0)
    ∙ ap (λ w. codes "api" ∷ w ∷ word ∷ ns ∷ []) (same_text version (codes "v1") more.0)
    ∙ ap (λ w. codes "api" ∷ codes "v1" ∷ w ∷ ns ∷ []) (same_text word (codes "namespaces") last.0)) (same_Some (Namespace ns) text t.1) (refl, last.1)

pub text_found : (path : List (List ℕ)) (text : Document) → document_at path ≡ Some text → Has path text
text_found (word ∷ []) text e = word_found word text e
text_found (base ∷ word ∷ []) text e = pair_found base word text e
text_found (base ∷ group ∷ version ∷ []) text e = apps_found base group version text e
text_found (base ∷ version ∷ word ∷ ns ∷ []) text e = namespace_found base version word ns text e
text_found path text e = absurd (none-some text e)

-- ---- the slash behind a path

last_slashed : (last : List ℕ) → (last ∷ [] ≡ last_kept last) ⊎ (last ∷ [] ≡ last_kept last ++ [] ∷ [])
last_slashed [] = inr refl
last_slashed (byte ∷ more) = inl refl

pub slashed : (path : List (List ℕ)) → (path ≡ before_slash path) ⊎ (path ≡ before_slash path ++ [] ∷ [])
slashed [] = inl refl
slashed (last ∷ []) = last_slashed last
slashed (first ∷ next ∷ rest) = elim (slashed (next ∷ rest)) [
  | inl plain ↦ inl (ap (λ p. first ∷ p) plain)
  | inr behind ↦ inr (ap (λ p. first ∷ p) behind)
]

-- a path in two parts, of which the last is one segment
pub before_last : (path : List (List ℕ)) (last : List ℕ) → before_slash (path ++ last ∷ []) ≡ path ++ last_kept last
before_last [] last = refl
before_last (first ∷ []) last = refl
before_last (first ∷ next ∷ rest) last = ap (λ p. first ∷ p) (before_last (next ∷ rest) last)

-- where the last segment is empty, the path stands before a slash; else it is what it is
kept_empty : (last : List ℕ) → (length last == 0) ≡ true → last_kept last ≡ []
kept_empty [] e = refl
kept_empty (byte ∷ more) e = let some = ne_eqb (length (byte ∷ more)) 0 (omega arith) in absurd (cc)

kept_whole : (last : List ℕ) → (length last == 0) ≡ false → last_kept last ≡ last ∷ []
kept_whole [] e = absurd (cc)
kept_whole (byte ∷ more) e = refl

pub slash_gone : (path rest : List (List ℕ)) (last : List ℕ) → path ≡ rest ++ last ∷ [] → (length last == 0) ≡ true → rest ≡ before_slash path
slash_gone path rest last e none =
    sym (ap before_slash e ∙ before_last rest last ∙ ap (λ kept. rest ++ kept) (kept_empty last none) ∙ append-nil rest)

pub no_slash : (path rest : List (List ℕ)) (last : List ℕ) → path ≡ rest ++ last ∷ [] → (length last == 0) ≡ false → path ≡ before_slash path
no_slash path rest last e some =
    e ∙ sym (ap before_slash e ∙ before_last rest last ∙ ap (λ kept. rest ++ kept) (kept_whole last some))

-- a namespace isn't empty
namespace_kept : (ns : List ℕ) → is_namespace ns ≡ true → last_kept ns ≡ ns ∷ []
namespace_kept [] good = absurd (cc)
namespace_kept (byte ∷ more) good = refl

-- ---- the text that has the path is found

namespace_at : (ns : List ℕ) → is_namespace ns ≡ true → document_at (codes "api" ∷ codes "v1" ∷ codes "namespaces" ∷ ns ∷ []) ≡ Some (Namespace ns)
namespace_at ns good = cond-true (is_namespace ns) (Some (Namespace ns)) None good

pub text_at_path : (text : Document) → IsDocument text → document_at (before_slash (document_path text)) ≡ Some text
text_at_path (Namespace ns) h = ap (λ last. document_at (codes "api" ∷ codes "v1" ∷ codes "namespaces" ∷ last)) (namespace_kept ns h) ∙ namespace_at ns h
text_at_path (Probe Livez) h = refl
text_at_path text h = refl

pub text_at_slash : (text : Document) → IsDocument text → document_at (before_slash (document_path text ++ [] ∷ [])) ≡ Some text
text_at_slash (Namespace ns) h = namespace_at ns h
text_at_slash (Probe Livez) h = refl
text_at_slash text h = refl

-- ---- the paths of resources are no text's

pub no_text_everywhere : (r : Resource) → document_at (before_slash (place_path (Everywhere r))) ≡ None
no_text_everywhere Pods = refl
no_text_everywhere r = refl

pub no_text_namespaced : (r : Resource) (ns : List ℕ) → document_at (before_slash (place_path (Namespaced r ns))) ≡ None
no_text_namespaced Pods ns = refl
no_text_namespaced r ns = refl

pub no_text_named : (r : Resource) (ns name : List ℕ) → document_at (before_slash (place_path (Named r ns name))) ≡ None
no_text_named Pods ns name = refl
no_text_named r ns name = refl
