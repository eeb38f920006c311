-- What reads answer, from the rows of a resource at a revision.
use Rattle.std.specs.Prelude.{◌≡◌, ℕ, List, Option, Some, None, Result, Ok, Err}
use Rattle.kube_meta.specs.Rows.{RowData, row_with}
use Rattle.select_all.specs.declared.selection.Meaning.{Meaning}
use Rattle.select_all.specs.declared.selection.Meaning.TheVariants.{Exact}
use Rattle.client_api.specs.declared.answers.ListNo.{ListNo}
use Rattle.client_api.specs.declared.answers.ListNo.TheVariants.{Expired, TooLarge, Absent, Memory}
use Rattle.client_api.specs.Answers.{GotData}

-- the one revision that will do, where a meaning has one
abbrev pub revision_alone : Meaning → Option ℕ
revision_alone (Exact asked) = Some asked
revision_alone meaning = None

-- the row at the key, or that there is none; of want of memory nothing is said
abbrev pub IsFound : List RowData → List ℕ → ℕ → Result GotData ListNo → Type 0
IsFound rows key at (Ok got) = (got.at ≡ at) × (row_with rows key ≡ Some got.row)
IsFound rows key at (Err (Expired asked floor)) = ⊥
IsFound rows key at (Err (TooLarge asked current)) = ⊥
IsFound rows key at (Err (Absent there)) = (there ≡ at) × (row_with rows key ≡ None)
IsFound rows key at (Err Memory) = Unit {0}
