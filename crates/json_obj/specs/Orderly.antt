-- Values as a reader of JSON gives them: integers of 64 bits, and each object's names in strict order.
use Rattle.std.specs.Prelude.{◌≡◌, ℕ, ◌^◌, ◌<◌, List, pos, negsuc, ⊤}
use Rattle.std.specs.Ordering.{nat_cmp}
use Rattle.std.specs.declared.cmp.Ordering.TheVariants.{Less}
use Rattle.std.specs.Cmp.Lexicographic.{slice_cmp}
use Rattle.serde_json.specs.Data.{Num, unsigned, negative, float, Data, null, boolean, number, string, array, object, Items, no_items, item, Members, no_members, member}

-- an integer fits 64 bits, with a sign or without; of a float nothing is asked
abbrev pub IsOrderlyNumber : Num → Type 0
IsOrderlyNumber (unsigned n) = n < 2 ^ 64
IsOrderlyNumber (negative (pos n)) = ⊥
IsOrderlyNumber (negative (negsuc n)) = n < 2 ^ 63
IsOrderlyNumber (float x) = ⊤

-- the name stands before the first member's
abbrev pub IsBelow : List ℕ → Members → Type 0
IsBelow name no_members = ⊤
IsBelow name (member l e ms) = slice_cmp nat_cmp name l ≡ Less

abbrev mutual
  pub IsOrderly : Data → Type 0
  IsOrderly null = ⊤
  IsOrderly (boolean b) = ⊤
  IsOrderly (number n) = IsOrderlyNumber n
  IsOrderly (string s) = ⊤
  IsOrderly (array ds) = AreOrderlyItems ds
  IsOrderly (object ms) = AreOrderly ms

  pub AreOrderlyItems : Items → Type 0
  AreOrderlyItems no_items = ⊤
  AreOrderlyItems (item d ds) = IsOrderly d × AreOrderlyItems ds

  pub AreOrderly : Members → Type 0
  AreOrderly no_members = ⊤
  AreOrderly (member k d ms) = IsOrderly d × IsBelow k ms × AreOrderly ms
