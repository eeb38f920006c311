-- The compact text of an orderly value that has no float is read back as that value.
use Rattle.std.proofs.Common.{◌≡◌, ℕ, zero, suc, ◌<◌, ◌≤◌, ◌^◌, pos, negsuc, List, [], ◌∷◌, ◌++◌, Less, Greater, false, Some, option_map, option_and_then, decimal, refl, sym, ap, ◌∙◌, subst, arith, cond, get_or, append-nil}
use Rattle.std.specs.Prelude.{◌==◌, drop}
use Rattle.std.proofs.lemmas.Bool.{or_parts, ne_eqb}
use Rattle.std.proofs.lemmas.Cmp.{nat_list_cmp_total}
use Rattle.std.proofs.lemmas.Fmt.{decimal_digit, first_decimal}
use Rattle.json.specs.Lex.{tokens}
use Rattle.json.specs.Json as json
use Rattle.json.specs.Print.{IsNumber}
use Rattle.json.specs.Tree as tree
use Rattle.json.specs.Word.{head, after_whole, after_fraction, after_exponent, after_number}
use Rattle.json.proofs.Printed.Decimals.{IsNumber-decimal}
use Rattle.json.proofs.Printed.Tokens.{tokens-print}
use Rattle.json.proofs.Printed.Trees.{value-json_tokens, ArePrintable-json_tokens}
use Rattle.serde_json.specs.Data.{Num, unsigned, negative, float, Data, null, boolean, number, string, array, object, Items, no_items, item, Members, no_members, member, put, depth, items_depth, members_depth}
use Rattle.serde_json.specs.Find.{is_float}
use Rattle.serde_json.specs.Read.{number_of, of_json, of_items, of_members, max_depth, read}
use Rattle.serde_json.specs.Written.{number_text, outline, items_outline, members_outline, has_float, items_have_float, members_have_float, compact_text}
use Rattle.serde_json.proofs.Numbers.{number_of-decimal, number_of-negative}
use Rattle.serde_json.proofs.Texts.{print-outline}
use Rattle.json_obj.specs.Orderly.{IsOrderlyNumber, IsBelow, IsOrderly, AreOrderlyItems, AreOrderly}
use Rattle.json_obj.proofs.Puts.{cmp, turned}

-- ---- numbers

no_minus : (ds : List ℕ) → 48 < get_or ds 0 0 → (head ds == 45) ≡ false
no_minus [] first = absurd (omega arith)
no_minus (d ∷ ds) first = ne_eqb d 45 (λ e. omega arith)

digits_first : (n : ℕ) → n < 2 ^ 64 → (head (decimal n) == 45) ≡ false
digits_first zero h = ap (λ l. head l == 45) (decimal_digit 0 (omega arith))
digits_first (suc n) h = no_minus (decimal (suc n)) (first_decimal (suc n) (omega arith) h)

IsNumber-negative : (n : ℕ) → n < 2 ^ 64 → IsNumber (45 ∷ decimal n)
unfolding after_number
IsNumber-negative n h =
    sym (ap (λ b. option_and_then after_exponent (option_and_then after_fraction (after_whole (cond b (drop 1 (decimal n)) (decimal n))))) (digits_first n h)) ∙ IsNumber-decimal n h

IsNumber-number_text : (n : Num) → IsOrderlyNumber n → is_float n ≡ false → IsNumber (number_text n)
IsNumber-number_text (unsigned n) h e = IsNumber-decimal n h
IsNumber-number_text (negative (pos n)) h e = absurd h
IsNumber-number_text (negative (negsuc n)) h e = IsNumber-negative (suc n) (omega arith)
IsNumber-number_text (float x) h e = absurd cc

number_of-number_text : (n : Num) → IsOrderlyNumber n → is_float n ≡ false → number_of (number_text n) ≡ Some n
number_of-number_text (unsigned n) h e = number_of-decimal n h
number_of-number_text (negative (pos n)) h e = absurd h
number_of-number_text (negative (negsuc n)) h e = number_of-negative n h
number_of-number_text (float x) h e = cc

mutual
  HasNumbers-outline : (d : Data) → IsOrderly d → has_float d ≡ false → tree.HasNumbers (outline d)
  HasNumbers-outline null h e = tt
  HasNumbers-outline (boolean b) h e = tt
  HasNumbers-outline (number n) h e = IsNumber-number_text n h e
  HasNumbers-outline (string s) h e = tt
  HasNumbers-outline (array ds) h e = ItemsHaveNumbers-outline ds h e
  HasNumbers-outline (object ms) h e = MembersHaveNumbers-outline ms h e

  ItemsHaveNumbers-outline : (ds : Items) → AreOrderlyItems ds → items_have_float ds ≡ false → tree.ItemsHaveNumbers (items_outline ds)
  ItemsHaveNumbers-outline no_items h e = tt
  ItemsHaveNumbers-outline (item d ds) h e = let p = or_parts (has_float d) _ e in (HasNumbers-outline d h.0 p.0, ItemsHaveNumbers-outline ds h.1 p.1)

  MembersHaveNumbers-outline : (ms : Members) → AreOrderly ms → members_have_float ms ≡ false → tree.MembersHaveNumbers (members_outline ms)
  MembersHaveNumbers-outline no_members h e = tt
  MembersHaveNumbers-outline (member k d ms) h e = let p = or_parts (has_float d) _ e in (HasNumbers-outline d h.0 p.0, MembersHaveNumbers-outline ms h.2 p.1)

mutual
  depth-outline : (d : Data) → tree.depth (outline d) ≡ depth d
  depth-outline null = refl
  depth-outline (boolean b) = refl
  depth-outline (number n) = refl
  depth-outline (string s) = refl
  depth-outline (array ds) = ap suc (items_depth-outline ds)
  depth-outline (object ms) = ap suc (members_depth-outline ms)

  items_depth-outline : (ds : Items) → tree.items_depth (items_outline ds) ≡ items_depth ds
  items_depth-outline no_items = refl
  items_depth-outline (item d ds) = rw (depth-outline d, items_depth-outline ds) refl

  members_depth-outline : (ms : Members) → tree.members_depth (members_outline ms) ≡ members_depth ms
  members_depth-outline no_members = refl
  members_depth-outline (member k d ms) = rw (depth-outline d, members_depth-outline ms) refl

-- ---- members, put one after another in the order of their names

abbrev joined : Members → Members → Members
joined no_members ms = ms
joined (member k d done) ms = member k d (joined done ms)

joined-member : (done : Members) (k : List ℕ) (d : Data) (ms : Members)
    → joined (joined done (member k d no_members)) ms ≡ joined done (member k d ms)
joined-member no_members k d ms = refl
joined-member (member l e done) k d ms = ap (member l e) (joined-member done k d ms)

joined-nothing : (done : Members) → joined done no_members ≡ done
joined-nothing no_members = refl
joined-nothing (member l e done) = ap (member l e) (joined-nothing done)

-- names in order: the first stands before each later one
before_later : (l : List ℕ) (done : Members) (k : List ℕ) (d : Data) (ms : Members) → IsBelow l (joined done (member k d ms)) → AreOrderly (joined done (member k d ms)) → cmp l k ≡ Less
before_later l no_members k d ms below h = below
before_later l (member m e done) k d ms below h = nat_list_cmp_total.trans l m k below (before_later m done k d ms h.1 h.2)

put_last : (done : Members) (k : List ℕ) (d : Data) (ms : Members) → AreOrderly (joined done (member k d ms)) → put k d done ≡ joined done (member k d no_members)
put_last no_members k d ms h = refl
put_last (member l e done) k d ms h =
    let after : cmp k l ≡ Greater = turned l k Less (before_later l done k d ms h.1 h.2) in
    rw after (ap (member l e) (put_last done k d ms h.2))

mutual
  of_json-outline : (d : Data) → IsOrderly d → has_float d ≡ false → of_json (outline d) ≡ Some d
  of_json-outline null h e = refl
  of_json-outline (boolean b) h e = refl
  of_json-outline (number n) h e = ap (option_map number) (number_of-number_text n h e)
  of_json-outline (string s) h e = refl
  of_json-outline (array ds) h e = ap (option_map array) (of_items-outline ds h e)
  of_json-outline (object ms) h e = ap (option_map object) (of_members-outline ms no_members h e)

  of_items-outline : (ds : Items) → AreOrderlyItems ds → items_have_float ds ≡ false → of_items (items_outline ds) ≡ Some ds
  of_items-outline no_items h e = refl
  of_items-outline (item d ds) h e =
      let p = or_parts (has_float d) _ e in
      rw (of_json-outline d h.0 p.0, of_items-outline ds h.1 p.1) refl

  of_members-outline : (ms done : Members) → AreOrderly (joined done ms) → members_have_float ms ≡ false → of_members (members_outline ms) done ≡ Some (joined done ms)
  of_members-outline no_members done h e = ap Some (sym (joined-nothing done))
  of_members-outline (member k d ms) done h e =
      let p = or_parts (has_float d) _ e in
      let placed : put k d done ≡ joined done (member k d no_members) = put_last done k d ms h in
      let rest : of_members (members_outline ms) (joined done (member k d no_members)) ≡ Some (joined (joined done (member k d no_members)) ms) =
      of_members-outline ms (joined done (member k d no_members)) (subst AreOrderly (sym (joined-member done k d ms)) h) p.1 in
      ap (option_and_then (λ d. of_members (members_outline ms) (put k d done))) (of_json-outline d (within done k d ms h) p.0)
      ∙ ap (of_members (members_outline ms)) placed ∙ rest ∙ ap Some (joined-member done k d ms)
    where
      within : (done : Members) (k : List ℕ) (d : Data) (ms : Members) → AreOrderly (joined done (member k d ms)) → IsOrderly d
      within no_members k d ms h = h.0
      within (member l e done) k d ms h = within done k d ms h.2

-- ---- texts

pub read-compact_text : (d : Data) → IsOrderly d → has_float d ≡ false → depth d ≤ max_depth → read (compact_text d) ≡ Some d
read-compact_text d h e shallow =
    let j = outline d in
    let all : tokens (compact_text d) ≡ tree.json_tokens j ++ [] =
    ap tokens (sym (print-outline d)) ∙ tokens-print (tree.json_tokens j) (ArePrintable-json_tokens j (HasNumbers-outline d h e)) ∙ sym (append-nil (tree.json_tokens j)) in
    ap (λ ts. option_and_then of_json (option_and_then (λ p. json.if_last p.0 p.1) (json.value max_depth ts))) all
    ∙ ap (λ r. option_and_then of_json (option_and_then (λ p. json.if_last p.0 p.1) r)) (value-json_tokens j max_depth [] (omega (arith, depth-outline d)))
    ∙ of_json-outline d h e
