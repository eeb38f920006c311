-- The grammar of field selectors: how terms are spelled.
use Rattle.std.specs.Prelude.{◌≡◌, ℕ, ◌≤◌, Bool, true, false, ◌⊎◌, List, [], ◌∷◌, ◌++◌, length, codes, Some, slice_get, if◌then◌else◌}
use Rattle.std.specs.List.{flat_map, AllByRecursion}
use Rattle.kube_meta.specs.declared.resources.Resource.{Resource}
use Rattle.kube_meta.specs.Resources.{listed_fields_of}
use Rattle.field_select.specs.declared.terms.Field.{Field}
use Rattle.field_select.specs.declared.terms.Field.TheVariants.{Name, Namespace, Listed}
use Rattle.field_select.specs.declared.terms.Term.{Term}
use Rattle.field_select.specs.Bytes.{is_escaped}

-- the name of a field of this resource
abbrev pub IsName : Resource → Field → List ℕ → Type 0
IsName resource Name name = name ≡ codes "metadata.name"
IsName resource Namespace name = name ≡ codes "metadata.namespace"
IsName resource (Listed i) name = slice_get (listed_fields_of resource) i ≡ Some name

-- `=` or `==` where the values have to be equal, else `!=`
abbrev pub IsOperator : Bool → List ℕ → Type 0
IsOperator true text = (text ≡ codes "=") ⊎ (text ≡ codes "==")
IsOperator false text = text ≡ codes "!="

-- a value, with a `\` before each `\`, `,` and `=`
abbrev pub escaped : List ℕ → List ℕ
escaped value = flat_map (λ b. if is_escaped b then 92 ∷ b ∷ [] else b ∷ []) value

-- a field, an operator and a value
abbrev pub IsTerm : Resource → List ℕ → Term → Type 0
IsTerm resource text term =
    (name : List ℕ) × (operator : List ℕ) × IsName resource term.field name × IsOperator term.equal operator × (text ≡ name ++ (operator ++ escaped term.value))

-- commas alone
abbrev pub AreCommas : List ℕ → Type 0
AreCommas text = AllByRecursion (λ b. b ≡ 44) text

-- terms joined by commas, with any number of commas before, between and after them
abbrev pub AreTerms : Resource → List ℕ → List Term → Type 0
AreTerms resource text [] = AreCommas text
AreTerms resource text (t ∷ ts) =
    (commas : List ℕ) × (front : List ℕ) × (back : List ℕ) × (text ≡ commas ++ (front ++ back)) × AreCommas commas × IsTerm resource front t
    × (((back ≡ []) × (ts ≡ [])) ⊎ ((rest : List ℕ) × (back ≡ 44 ∷ rest) × AreTerms resource rest ts))

-- The text is a selector of these terms: at most 64, in at most 8,192 bytes.
pub record IsSelector (resource : Resource) (text : List ℕ) (terms : List Term) : Type 0 where
  pub are_terms : AreTerms resource text terms
  pub few : length terms ≤ 64
  pub short : length text ≤ 8192
