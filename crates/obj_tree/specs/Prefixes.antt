-- The prefix of a page's first row.
use Rattle.std.specs.Prelude.{◌≡◌, List, [], ◌∷◌}
use Rattle.kube_meta.specs.Rows.{RowData, key_of}
use Rattle.encode_once.specs.declared.prefix.KeyPrefix.{KeyPrefix}
use Rattle.encode_once.specs.Prefixes.{first_bytes}

-- the first 48 bytes of the first row's key, if there is a row
abbrev pub IsPrefix : KeyPrefix → List RowData → Type 0
IsPrefix prefix [] = Unit {0}
IsPrefix prefix (row ∷ rows) = prefix.bytes ≡ first_bytes 48 (key_of row)
