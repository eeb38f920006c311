-- What a reader of JSON gives is orderly, and so is what is put together of it.
use Rattle.std.proofs.Common.{◌≡◌, ℕ, zero, suc, ◌^◌, pos, neg_ℤ, List, Ordering, Less, Equal, Greater, Bool, true, false, Option, Some, None, option_map, option_and_then, refl, subst, arith}
use Rattle.std.specs.Prelude.{⊤, ◌&&◌, ◌==◌, nat_lt, nat_le, slice_index, drop, if◌then◌else◌}
use Rattle.std.specs.Float.{binary64, float_is_finite}
use Rattle.std.proofs.lemmas.Bool.{ltb-true, leb-true}
use Rattle.std.specs.Ordering.{match_ordering}
use Rattle.std.specs.Float.Numeral.{minus, Parts, scan_numeral as scan, numeral_digits as digits_of, nearest_float as nearest}
use Rattle.json.specs.Lex.{tokens}
use Rattle.json.specs.Json as json
use Rattle.serde_json.specs.Data.{Num, unsigned, negative, float, Data, null, boolean, number, string, array, object, Items, no_items, item, Members, no_members, member, put}
use Rattle.serde_json.specs.Find.{get, get_member, get_item, at}
use Rattle.serde_json.specs.Read.{is_integer, float_of, number_from, number_of, of_json, of_items, of_members, max_depth, read}
use Rattle.json_obj.specs.Orderly.{IsOrderlyNumber, IsBelow, IsOrderly, AreOrderlyItems, AreOrderly}
use Rattle.json_obj.proofs.Puts.{cmp, turned, IsBelow-put}

-- each answer has the fact
abbrev Each : {A : Type 0} → (A → Type 0) → Option A → Type 0
Each P None = ⊤
Each P (Some a) = P a

Each-map : {A B : Type 0} (P : A → Type 0) (Q : B → Type 0) (f : A → B) → ((a : A) → P a → Q (f a)) → (o : Option A) → Each P o → Each Q (option_map f o)
Each-map P Q f h None e = tt
Each-map P Q f h (Some a) e = h a e

Each-and_then : {A B : Type 0} (P : A → Type 0) (Q : B → Type 0) (f : A → Option B) → ((a : A) → P a → Each Q (f a)) → (o : Option A) → Each P o → Each Q (option_and_then f o)
Each-and_then P Q f h None e = tt
Each-and_then P Q f h (Some a) e = h a e

-- ---- members

put-either : (k l : List ℕ) (d e : Data) (ms : Members) (o : Ordering) → cmp k l ≡ o → IsOrderly d → IsOrderly e → IsBelow l ms → AreOrderly ms → AreOrderly (put k d ms)
    → AreOrderly (match_ordering o (member k d (member l e ms)) (member l d ms) (member l e (put k d ms)))
put-either k l d e ms Less is first second below rest more = (first, is, (second, below, rest))
put-either k l d e ms Equal is first second below rest more = (first, below, rest)
put-either k l d e ms Greater is first second below rest more = (second, IsBelow-put l k d ms (turned k l Greater is) below, more)

pub AreOrderly-put : (k : List ℕ) (d : Data) (ms : Members) → IsOrderly d → AreOrderly ms → AreOrderly (put k d ms)
AreOrderly-put k d no_members first rest = (first, tt, tt)
AreOrderly-put k d (member l e ms) first rest = put-either k l d e ms (cmp k l) refl first rest.0 rest.1 rest.2 (AreOrderly-put k d ms first rest.2)

-- ---- numbers

float_of-orderly : (sign : Bool) (p : Parts) → Each IsOrderlyNumber (float_of sign p)
float_of-orderly sign p = finite (float_is_finite (nearest binary64 sign p))
  where
    finite : (b : Bool) → Each IsOrderlyNumber (if b then Some (float (nearest binary64 sign p)) else None)
    finite true = tt
    finite false = tt

unsigned-orderly : (whole : Bool) (n : ℕ) (more : Option Num) → Each IsOrderlyNumber more → (b : Bool) → nat_lt n (2 ^ 64) ≡ b → Each IsOrderlyNumber (if whole && b then Some (unsigned n) else more)
unsigned-orderly true n more h true e = ltb-true n (2 ^ 64) e
unsigned-orderly true n more h false e = h
unsigned-orderly false n more h b e = h

negative-orderly : (whole : Bool) (n : ℕ) (more : Option Num) → Each IsOrderlyNumber more → (some small : Bool) → nat_lt 0 n ≡ some → nat_le n (2 ^ 63) ≡ small
    → Each IsOrderlyNumber (if whole && some && small then Some (negative (neg_ℤ (pos n))) else more)
negative-orderly true zero more h true true e s = absurd cc
negative-orderly true (suc n) more h true true e s = let fits = leb-true (suc n) (2 ^ 63) s in omega (arith, fits)
negative-orderly true n more h true false e s = h
negative-orderly true n more h false small e s = h
negative-orderly false n more h some small e s = h

number_from-orderly : (sign : Bool) (p : Parts) → Each IsOrderlyNumber (number_from sign p)
number_from-orderly false p = unsigned-orderly (is_integer p) (digits_of p) _ (float_of-orderly false p) (nat_lt (digits_of p) (2 ^ 64)) refl
number_from-orderly true p = negative-orderly (is_integer p) (digits_of p) _ (float_of-orderly true p) (nat_lt 0 (digits_of p)) (nat_le (digits_of p) (2 ^ 63)) refl refl

number_of-orderly : (s : List ℕ) → Each IsOrderlyNumber (number_of s)
unfolding number_of
number_of-orderly s = signed (slice_index s 0 == minus)
  where
    signed : (b : Bool) → Each IsOrderlyNumber (if b then number_from true (scan (drop 1 s)) else number_from false (scan s))
    signed true = number_from-orderly true (scan (drop 1 s))
    signed false = number_from-orderly false (scan s)

-- ---- values

mutual
  of_json-orderly : (j : json.Json) → Each IsOrderly (of_json j)
  of_json-orderly json.null = tt
  of_json-orderly (json.boolean b) = tt
  of_json-orderly (json.number s) = Each-map IsOrderlyNumber IsOrderly number (λ n h. h) (number_of s) (number_of-orderly s)
  of_json-orderly (json.string s) = tt
  of_json-orderly (json.array js) = Each-map AreOrderlyItems IsOrderly array (λ ds h. h) (of_items js) (of_items-orderly js)
  of_json-orderly (json.object ms) = Each-map AreOrderly IsOrderly object (λ ms h. h) (of_members ms no_members) (of_members-orderly ms no_members tt)

  of_items-orderly : (js : json.Items) → Each AreOrderlyItems (of_items js)
  of_items-orderly json.no_items = tt
  of_items-orderly (json.item j js) =
      Each-and_then IsOrderly AreOrderlyItems _ (λ d h. Each-map AreOrderlyItems AreOrderlyItems (item d) (λ ds hs. (h, hs)) (of_items js) (of_items-orderly js)) (of_json j) (of_json-orderly j)

  of_members-orderly : (ms : json.Members) (found : Members) → AreOrderly found → Each AreOrderly (of_members ms found)
  of_members-orderly json.no_members found h = h
  of_members-orderly (json.member k j ms) found h =
      Each-and_then IsOrderly AreOrderly _ (λ d is. of_members-orderly ms (put k d found) (AreOrderly-put k d found is h)) (of_json j) (of_json-orderly j)

pub read-orderly : (text : List ℕ) (d : Data) → read text ≡ Some d → IsOrderly d
read-orderly text d e =
    let last = option_and_then (λ p. json.if_last p.0 p.1) (json.value max_depth (tokens text)) in
    subst (Each IsOrderly) e (Each-and_then (λ j. ⊤) IsOrderly of_json (λ j h. of_json-orderly j) last (any last))
  where
    any : (o : Option json.Json) → Each (λ j. ⊤) o
    any None = tt
    any (Some j) = tt

-- ---- parts

found-either : (o : Ordering) (rest : Option Data) (d found : Data) → (rest ≡ Some found → IsOrderly found) → IsOrderly d → match_ordering o rest (Some d) rest ≡ Some found → IsOrderly found
found-either Less rest d found later here e = later e
found-either Equal rest d found later here e = subst (Each IsOrderly) e here
found-either Greater rest d found later here e = later e

get_member-orderly : (name : List ℕ) (ms : Members) (found : Data) → AreOrderly ms → get_member name ms ≡ Some found → IsOrderly found
get_member-orderly name no_members found h e = cc
get_member-orderly name (member l d ms) found h e = found-either (cmp name l) (get_member name ms) d found (get_member-orderly name ms found h.2) h.0 e

pub get-orderly : (name : List ℕ) (d found : Data) → IsOrderly d → get name d ≡ Some found → IsOrderly found
get-orderly name null found h e = cc
get-orderly name (boolean b) found h e = cc
get-orderly name (number n) found h e = cc
get-orderly name (string s) found h e = cc
get-orderly name (array ds) found h e = cc
get-orderly name (object ms) found h e = get_member-orderly name ms found h e

get_item-orderly : (i : ℕ) (ds : Items) (found : Data) → AreOrderlyItems ds → get_item i ds ≡ Some found → IsOrderly found
get_item-orderly i no_items found h e = cc
get_item-orderly zero (item d ds) found h e = subst (Each IsOrderly) e h.0
get_item-orderly (suc i) (item d ds) found h e = get_item-orderly i ds found h.1 e

pub at-orderly : (i : ℕ) (d found : Data) → IsOrderly d → at i d ≡ Some found → IsOrderly found
at-orderly i null found h e = cc
at-orderly i (boolean b) found h e = cc
at-orderly i (number n) found h e = cc
at-orderly i (string s) found h e = cc
at-orderly i (array ds) found h e = get_item-orderly i ds found h e
at-orderly i (object ms) found h e = cc
