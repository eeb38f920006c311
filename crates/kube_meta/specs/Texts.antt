-- The bytes of a text, wherever it lies.
use Rattle.std.specs.Prelude.{ℕ, List, string_bytes}
use Rattle.kube_meta.specs.declared.texts.Held.{Held}
use Rattle.kube_meta.specs.declared.texts.Held.TheVariants.{Short, Long}

abbrev pub bytes_of : Held → List ℕ
bytes_of (Short alloc text) = text.bytes
bytes_of (Long text) = string_bytes text
