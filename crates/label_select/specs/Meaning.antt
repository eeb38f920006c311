-- What a selector says of labels.
use Rattle.std.specs.Prelude.{Bool, not, List, is_some, IsSome, IsNone, All}
use Rattle.std.specs.List.{list_all}
use Rattle.kube_meta.specs.Labels.{Pairs, value_at}
use Rattle.label_select.specs.Values.{HasOneOf, has_one_of}
use Rattle.label_select.specs.declared.requirements.Requirement.{Requirement}
use Rattle.label_select.specs.declared.requirements.Requirement.TheVariants.{Exists, Absent, In, NotIn}

-- A requirement: the key is there; isn't; is there with one of the values; isn't there or has another value.
abbrev pub Holds : Pairs → Requirement → Type 0
Holds labels (Exists key) = IsSome (value_at labels key)
Holds labels (Absent key) = IsNone (value_at labels key)
Holds labels (In key values) = HasOneOf (value_at labels key) values
Holds labels (NotIn key values) = ¬ (HasOneOf (value_at labels key) values)

-- All requirements hold; so the empty selector always does.
abbrev pub Selects : List Requirement → Pairs → Type 0
Selects rs labels = All (Holds labels) rs

-- the same, computed
abbrev pub holds : Pairs → Requirement → Bool
holds labels (Exists key) = is_some (value_at labels key)
holds labels (Absent key) = not (is_some (value_at labels key))
holds labels (In key values) = has_one_of (value_at labels key) values
holds labels (NotIn key values) = not (has_one_of (value_at labels key) values)

-- whether all requirements hold of the labels; so the empty selector selects each object
abbrev pub selects : List Requirement → Pairs → Bool
selects rs labels = list_all (holds labels) rs
