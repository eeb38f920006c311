-- The key of an object: its namespace and name, joined by `/`. A namespace has no `/`, so the first one parts them again.
use Rattle.std.specs.Prelude.{◌≡◌, ◌↔◌, ℕ, Bool, true, ◌&&◌, List, [], ◌∷◌, ◌++◌, length, take, bytes_eq}
use Rattle.std.specs.List.{before_first, after_first, list_any}
use Rattle.kube_meta.specs.Names.{is_slash, is_namespace, is_object_name, IsNamespace, IsObjectName}

-- `namespace/name`
abbrev pub joined : List ℕ → List ℕ → List ℕ
joined ns name = ns ++ 47 ∷ name

-- the namespace in a key: what stands before the first `/`
abbrev pub namespace_of : List ℕ → List ℕ
namespace_of key = before_first is_slash key

-- the name in a key: what stands behind the first `/`
abbrev pub name_of : List ℕ → List ℕ
name_of key = after_first is_slash key

-- the text of a key: what `Key` keeps of each of its values
pub record IsKey (key : List ℕ) : Type 0 where
  pub namespace : IsNamespace (namespace_of key)
  pub name : IsObjectName (name_of key)
  pub parted : key ≡ joined (namespace_of key) (name_of key)

-- joined texts of namespaces and names are equal only where both parts are
abbrev pub JoinedTellsApart : Type 0
JoinedTellsApart =
    (ns name other_ns other_name : List ℕ) → IsNamespace ns → IsNamespace other_ns →
    joined ns name ≡ joined other_ns other_name → (ns ≡ other_ns) × (name ≡ other_name)

-- the test of that: a namespace and a name around the first `/`
abbrev pub is_key : List ℕ → Bool
is_key text = list_any is_slash text && (is_namespace (namespace_of text) && is_object_name (name_of text))

-- it passes exactly for the texts of keys
abbrev pub KeysAreTested : Type 0
KeysAreTested = (text : List ℕ) → (is_key text ≡ true) ↔ IsKey text

-- a key is in a namespace: it is that and some name, joined
abbrev pub IsIn : List ℕ → List ℕ → Type 0
IsIn ns key = (name : List ℕ) × (key ≡ joined ns name)

-- the test of that: the key begins with the namespace and `/`
abbrev pub is_in : List ℕ → List ℕ → Bool
is_in ns key = bytes_eq (take (length (joined ns [])) key) (joined ns [])

-- so the key of an object is in its own namespace alone
abbrev pub KeysAreInTheirNamespace : Type 0
KeysAreInTheirNamespace = (ns key : List ℕ) → IsKey key → (IsIn ns key ↔ (namespace_of key ≡ ns)) × ((is_in ns key ≡ true) ↔ IsIn ns key)
