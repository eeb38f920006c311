-- Objects and rows as plain data, and the JSON of an object at a revision.
use Rattle.std.specs.Prelude.{ℕ, List, ◌++◌, take, drop, decimal}
use Rattle.kube_meta.specs.declared.objects.Obj.{Obj}

-- an object's JSON at a revision: the decimal text of the revision stands between its two parts
abbrev pub object_json : Obj → ℕ → List ℕ
object_json o revision = o.front ++ decimal revision ++ o.back

-- the JSON of its metadata: from the place in the front on, up to the place in the back
abbrev pub metadata_json : Obj → ℕ → List ℕ
metadata_json o revision = drop o.meta_from o.front ++ decimal revision ++ take o.meta_to o.back
