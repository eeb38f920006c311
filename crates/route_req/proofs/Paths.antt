-- How a path is looked up, and the table of paths: what is found has that path, and what has a path is found.
use Rattle.std.proofs.Common.{◌≡◌, ◌==◌, arith, length, ℕ, true, cond, ◌&&◌, ◌⊎◌, inl, inr, List, [], ◌∷◌, ◌++◌, codes, Option, Some, None, option_map, option_and_then, bytes_eq, refl, sym, ap, subst, ◌∙◌}
use Rattle.std.specs.Option.{option_map_or}
use Rattle.std.proofs.lemmas.Bool.{and_parts, and_from, cond-true, cond-false, ne_eqb}
use Rattle.std.proofs.lemmas.Option.{none-some, same_Some}
use Rattle.kube_meta.specs.Names.{is_namespace, is_object_name}
use Rattle.kube_meta.specs.Resources.{plural_of, group_of, version_of, of_group}
use Rattle.kube_meta.proofs.ResourceLemmas.{groups}
use Rattle.kube_meta.specs.declared.resources.Resource.{Resource}
use Rattle.route_req.specs.Places.{base_by, base_of, place_path, document_path, Names, NamesMaybe, PathsNameOnePlace, takes_memory, MayLackMemory}
use Rattle.route_req.specs.Lookup.{behind, namespaced, named, own_word, own_place, metrics_place, place_behind, core_place, group_place, api_place, before_slash, document_at, place_found}
use Rattle.route_req.specs.declared.documents.Document.{Document}
use Rattle.route_req.proofs.DocumentPaths.{if_found, same_text, row_found, text_found, slashed, text_at_path, text_at_slash, no_text_everywhere, no_text_namespaced, no_text_named}
use Rattle.route_req.specs.declared.places.Place.{Place}
use Rattle.route_req.specs.declared.places.Place.TheVariants.{Described, Everywhere, Namespaced, Named, OfMetrics, OfCut, OfCompact, OfRestart, OfDisconnect, OfTransaction}

-- ---- what a look-up that found something looked at

map_found : {A B : Type 0} (f : A → B) (o : Option A) (y : B) → option_map f o ≡ Some y → (x : A) × (o ≡ Some x) × (f x ≡ y)
map_found f None y e = absurd (none-some y e)
map_found f (Some x) y e = (x, refl, same_Some (f x) y e)

next_found : {A B : Type 0} (f : A → Option B) (o : Option A) (y : B) → option_and_then f o ≡ Some y → (x : A) × (o ≡ Some x) × (f x ≡ Some y)
next_found f None y e = absurd (none-some y e)
next_found f (Some x) y e = (x, refl, e)

either_found : {A B : Type 0} (f : A → Option B) (o : Option A) (d : Option B) (y : B) → option_map_or f o d ≡ Some y → ((x : A) × (o ≡ Some x) × (f x ≡ Some y)) ⊎ (d ≡ Some y)
either_found f None d y e = inr e
either_found f (Some x) d y e = inl (x, refl, e)

-- ---- the segments in front

behind_found : (word : List ℕ) (path rest : List (List ℕ)) → behind word path ≡ Some rest → path ≡ word ∷ rest
behind_found word [] rest e = absurd (none-some rest e)
behind_found word (first ∷ more) rest e =
    let p = if_found (bytes_eq first word) (Some more) rest e in
    let w = same_text first word p.0 in
    let r = same_Some more rest p.1 in
    cc

-- ---- the own paths

moved : (path path' : List (List ℕ)) (p place : Place) → path' ≡ path → p ≡ place → Names path p → Names path' place
moved path path' p place e f n = subst (Names path') f (subst (λ q. Names q p) (sym e) n)

own_word_found : (word : List ℕ) (place : Place) → own_word word ≡ Some place → Names (codes "watchcache" ∷ word ∷ []) place
own_word_found word place e =
    row_found (λ w p. Names (codes "watchcache" ∷ w ∷ []) p)
    ((codes "cut", OfCut) ∷ (codes "compact", OfCompact) ∷ (codes "restart", OfRestart) ∷ (codes "disconnect", OfDisconnect)
    ∷ (codes "transaction", OfTransaction) ∷ []) word place
    ((refl, tt), ((refl, tt), ((refl, tt), ((refl, tt), ((refl, tt), tt))))) e

own_found : (rest : List (List ℕ)) (place : Place) → own_place rest ≡ Some place → Names (codes "watchcache" ∷ rest) place
own_found (word ∷ []) place e = own_word_found word place e
own_found rest place e = absurd (none-some place e)

-- ---- the path of metrics

metrics_found : (rest : List (List ℕ)) (place : Place) → metrics_place rest ≡ Some place → Names (codes "metrics" ∷ rest) place
metrics_found [] place e = subst (Names (codes "metrics" ∷ [])) (same_Some OfMetrics place e) (inl refl, tt)
metrics_found ([] ∷ []) place e = subst (Names (codes "metrics" ∷ [] ∷ [])) (same_Some OfMetrics place e) (inr refl, tt)
metrics_found ((first ∷ more) ∷ []) place e =
    absurd (none-some place (sym (cond-false (length (first ∷ more) == 0) (Some OfMetrics) None (ne_eqb (length (first ∷ more)) 0 (omega arith))) ∙ e))
metrics_found (last ∷ more ∷ rest) place e = absurd (none-some place e)

-- ---- the paths of resources

-- the names of a resource
abbrev IsOf : List ℕ → List ℕ → List ℕ → Resource → Type 0
IsOf group version plural r = (base_by group version ≡ base_of r) × (plural ≡ plural_of r)

resource_found : (group version plural : List ℕ) (r : Resource) → of_group group version plural ≡ Some r → IsOf group version plural r
resource_found group version plural r e =
    let names = (groups group version plural r).0 e in
    (ap (λ g. base_by g version) names.0 ∙ ap (λ v. base_by (group_of r) v) names.1, names.2)

everywhere_found : (group version plural : List ℕ) (place : Place) → option_map (λ r. Everywhere r) (of_group group version plural) ≡ Some place → Names (base_by group version ++ plural ∷ []) place
everywhere_found group version plural place e =
    let p = map_found (λ r. Everywhere r) (of_group group version plural) place e in
    let o = resource_found group version plural p.0 p.1 in
    moved (base_of p.0 ++ plural_of p.0 ∷ []) (base_by group version ++ plural ∷ []) (Everywhere p.0) place
    (ap (λ b. b ++ plural ∷ []) o.0 ∙ ap (λ w. base_of p.0 ++ w ∷ []) o.1) p.2 (refl, tt)

namespaced_found : (group version word ns plural : List ℕ) (place : Place)
    → cond (bytes_eq word (codes "namespaces") && is_namespace ns) (option_map (λ r. Namespaced r ns) (of_group group version plural)) None ≡ Some place
    → Names (base_by group version ++ word ∷ ns ∷ plural ∷ []) place
namespaced_found group version word ns plural place e =
    let t = if_found (bytes_eq word (codes "namespaces") && is_namespace ns) (option_map (λ r. Namespaced r ns) (of_group group version plural)) place e in
    let good = and_parts (bytes_eq word (codes "namespaces")) (is_namespace ns) t.0 in
    let p = map_found (λ r. Namespaced r ns) (of_group group version plural) place t.1 in
    let o = resource_found group version plural p.0 p.1 in
    moved (base_of p.0 ++ codes "namespaces" ∷ ns ∷ plural_of p.0 ∷ []) (base_by group version ++ word ∷ ns ∷ plural ∷ []) (Namespaced p.0 ns) place
    (ap (λ b. b ++ word ∷ ns ∷ plural ∷ []) o.0
    ∙ ap (λ w. base_of p.0 ++ w ∷ ns ∷ plural ∷ []) (same_text word (codes "namespaces") good.0)
    ∙ ap (λ w. base_of p.0 ++ codes "namespaces" ∷ ns ∷ w ∷ []) o.1) p.2 (refl, good.1)

named_found : (group version word ns plural name : List ℕ) (place : Place)
    → cond (bytes_eq word (codes "namespaces") && (is_namespace ns && is_object_name name)) (option_map (λ r. Named r ns name) (of_group group version plural)) None ≡ Some place
    → Names (base_by group version ++ word ∷ ns ∷ plural ∷ name ∷ []) place
named_found group version word ns plural name place e =
    let t = if_found (bytes_eq word (codes "namespaces") && (is_namespace ns && is_object_name name)) (option_map (λ r. Named r ns name) (of_group group version plural)) place e in
    let good = and_parts (bytes_eq word (codes "namespaces")) (is_namespace ns && is_object_name name) t.0 in
    let p = map_found (λ r. Named r ns name) (of_group group version plural) place t.1 in
    let o = resource_found group version plural p.0 p.1 in
    moved (base_of p.0 ++ codes "namespaces" ∷ ns ∷ plural_of p.0 ∷ name ∷ []) (base_by group version ++ word ∷ ns ∷ plural ∷ name ∷ []) (Named p.0 ns name) place
    (ap (λ b. b ++ word ∷ ns ∷ plural ∷ name ∷ []) o.0
    ∙ ap (λ w. base_of p.0 ++ w ∷ ns ∷ plural ∷ name ∷ []) (same_text word (codes "namespaces") good.0)
    ∙ ap (λ w. base_of p.0 ++ codes "namespaces" ∷ ns ∷ w ∷ name ∷ []) o.1) p.2 (refl, and_parts (is_namespace ns) (is_object_name name) good.1)

found_behind : (group version : List ℕ) (rest : List (List ℕ)) (place : Place) → place_behind group version rest ≡ Some place → Names (base_by group version ++ rest) place
found_behind group version (plural ∷ []) place e = everywhere_found group version plural place e
found_behind group version (word ∷ ns ∷ plural ∷ []) place e = namespaced_found group version word ns plural place e
found_behind group version (word ∷ ns ∷ plural ∷ name ∷ []) place e = named_found group version word ns plural name place e
found_behind group version rest place e = absurd (none-some place e)

-- ---- whole paths

-- a group with a name
with_name : (first : ℕ) (more : List ℕ) (found : Option Place) → cond (length (first ∷ more) == 0) None found ≡ found
with_name first more found = cond-false (length (first ∷ more) == 0) None found (ne_eqb (length (first ∷ more)) 0 (omega arith))

core_found : (rest : List (List ℕ)) (place : Place) → core_place rest ≡ Some place → Names (codes "api" ∷ rest) place
core_found [] place e = absurd (none-some place e)
core_found (version ∷ rest) place e = found_behind [] version rest place e

group_found : (rest : List (List ℕ)) (place : Place) → group_place rest ≡ Some place → Names (codes "apis" ∷ rest) place
group_found ([] ∷ version ∷ rest) place e = absurd (none-some place e)
group_found ((first ∷ more) ∷ version ∷ rest) place e =
    found_behind (first ∷ more) version rest place (sym (with_name first more (place_behind (first ∷ more) version rest)) ∙ e)
group_found rest place e = absurd (none-some place e)

api_named_by : (path : List (List ℕ)) (place : Place) → api_place path ≡ Some place → Names path place
api_named_by path place e =
    elim (either_found metrics_place (behind (codes "metrics") path) _ place e) [
      | inl p ↦ subst (λ q. Names q place) (sym (behind_found (codes "metrics") path p.0 p.1)) (metrics_found p.0 place p.2)
      | inr e0 ↦ elim (either_found own_place (behind (codes "watchcache") path) _ place e0) [
        | inl p ↦ subst (λ q. Names q place) (sym (behind_found (codes "watchcache") path p.0 p.1)) (own_found p.0 place p.2)
        | inr e1 ↦ elim (either_found core_place (behind (codes "api") path) _ place e1) [
          | inl p ↦ subst (λ q. Names q place) (sym (behind_found (codes "api") path p.0 p.1)) (core_found p.0 place p.2)
          | inr e2 ↦
              let p = next_found group_place (behind (codes "apis") path) place e2 in
              subst (λ q. Names q place) (sym (behind_found (codes "apis") path p.0 p.1)) (group_found p.0 place p.2)
        ]
      ]
    ]

-- a text that describes the server is found by its path, which may have a slash behind it
described_by : (path : List (List ℕ)) (text : Document) → document_at (before_slash path) ≡ Some text → Names path (Described text)
described_by path text e =
    let has = text_found (before_slash path) text e in
    elim (slashed path) as (λ _. Names path (Described text)) [
      | inl plain ↦ (inl (plain ∙ has.0), has.1)
      | inr behind ↦ (inr (behind ∙ ap (λ p. p ++ [] ∷ []) has.0), has.1)
    ]

-- the place that is found has the path
named_by : (path : List (List ℕ)) (place : Place) → place_found path ≡ Some place → Names path place
named_by path place e =
    elim (either_found (λ text. Some (Described text)) (document_at (before_slash path)) (api_place path) place e) [
      | inl p ↦ subst (Names path) (same_Some (Described p.0) place p.2) (described_by path p.0 p.1)
      | inr other ↦ api_named_by path place other
    ]

-- the place that has the path is found
behind_base : (group version : List ℕ) (rest : List (List ℕ)) → api_place (base_by group version ++ rest) ≡ place_behind group version rest
behind_base [] version rest = refl
behind_base (first ∷ more) version rest = with_name first more (place_behind (first ∷ more) version rest)

of_names : (r : Resource) → of_group (group_of r) (version_of r) (plural_of r) ≡ Some r
of_names r = (groups (group_of r) (version_of r) (plural_of r) r).1 (refl, refl, refl)

-- a path that is no text's is looked up as all else is
not_text : (path : List (List ℕ)) (place : Place) → document_at (before_slash path) ≡ None → api_place path ≡ Some place → place_found path ≡ Some place
not_text path place none e = ap (λ text. option_map_or (λ t. Some (Described t)) text (api_place path)) none ∙ e

found_for : (path : List (List ℕ)) (place : Place) → Names path place → place_found path ≡ Some place
found_for path (Described text) (inl e, h) = ap place_found e ∙ ap (λ found. option_map_or (λ t. Some (Described t)) found (api_place (document_path text))) (text_at_path text h)
found_for path (Described text) (inr e, h) =
    ap place_found e ∙ ap (λ found. option_map_or (λ t. Some (Described t)) found (api_place (document_path text ++ [] ∷ []))) (text_at_slash text h)
found_for path (Everywhere r) (e, h) =
    ap place_found e
    ∙ not_text (place_path (Everywhere r)) (Everywhere r) (no_text_everywhere r)
    (behind_base (group_of r) (version_of r) (plural_of r ∷ []) ∙ ap (option_map (λ r. Everywhere r)) (of_names r))
found_for path (Namespaced r ns) (e, h) =
    ap place_found e
    ∙ not_text (place_path (Namespaced r ns)) (Namespaced r ns) (no_text_namespaced r ns)
    (behind_base (group_of r) (version_of r) (codes "namespaces" ∷ ns ∷ plural_of r ∷ [])
    ∙ ap (namespaced (codes "namespaces") ns) (of_names r) ∙ cond-true (is_namespace ns) (Some (Namespaced r ns)) None h)
found_for path (Named r ns name) (e, h) =
    ap place_found e
    ∙ not_text (place_path (Named r ns name)) (Named r ns name) (no_text_named r ns name)
    (behind_base (group_of r) (version_of r) (codes "namespaces" ∷ ns ∷ plural_of r ∷ name ∷ [])
    ∙ ap (λ found. named (codes "namespaces") ns found name) (of_names r)
    ∙ cond-true (is_namespace ns && is_object_name name) (Some (Named r ns name)) None (and_from (is_namespace ns) (is_object_name name) h.0 h.1))
found_for path OfMetrics (inl e, h) = ap place_found e
found_for path OfMetrics (inr e, h) = ap place_found e
found_for path place (e, h) = ap place_found e

-- what is looked up is what the path names
pub NamesMaybe-found : (path : List (List ℕ)) (found : Option Place) → found ≡ place_found path → NamesMaybe path found
NamesMaybe-found path None e = λ place n. none-some place (e ∙ found_for path place n)
NamesMaybe-found path (Some place) e = named_by path place (sym e)

pub one_place : PathsNameOnePlace
one_place path a b n m = same_Some a b (sym (found_for path a n) ∙ found_for path b m)

-- a place that is found is one whose requests take memory, where that is so
pub MayLackMemory-found : (path : List (List ℕ)) → option_map takes_memory (place_found path) ≡ Some true → MayLackMemory path
MayLackMemory-found path e =
    let p = map_found takes_memory (place_found path) true e in
    (p.0, named_by path p.0 p.1, p.2)
