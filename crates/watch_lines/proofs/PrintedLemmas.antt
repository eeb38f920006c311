-- The text of an event is read as the value that has its type and its object.
use Rattle.std.proofs.Common.{◌≡◌, ℕ, zero, suc, ◌<◌, ◌≤◌, ◌^◌, false, pos, negsuc, List, [], ◌∷◌, ◌++◌, Some, option_map, option_and_then, decimal, refl, sym, ap, ◌∙◌, arith, cond, get_or, append-nil}
use Rattle.std.specs.Prelude.{◌==◌, codes, drop, IsUtf8}
use Rattle.std.proofs.lemmas.Bool.{or_parts, ne_eqb}
use Rattle.std.proofs.lemmas.Fmt.{decimal_digit, first_decimal}
use Rattle.std.proofs.lemmas.Str.{IsUtf8-append}
use Rattle.json.specs.Lex.{tokens}
use Rattle.json.specs.Json as json
use Rattle.json.specs.Print.{IsNumber, escape_byte}
use Rattle.json.specs.Tree as tree
use Rattle.json.specs.Word.{head, after_whole, after_fraction, after_exponent, after_number}
use Rattle.json.proofs.Printed.Decimals.{IsNumber-decimal}
use Rattle.json.proofs.Printed.Tokens.{tokens-print}
use Rattle.json.proofs.Printed.Trees.{value-json_tokens, ArePrintable-json_tokens}
use Rattle.json.proofs.Printed.Utf8.{IsUtf8-are_ascii}
use Rattle.serde_json.specs.Data.{Num, unsigned, negative, float, Data, null, boolean, number, string, array, object, Items, no_items, item, Members, no_members, member, put, depth, items_depth, members_depth}
use Rattle.serde_json.specs.Find.{is_float}
use Rattle.serde_json.specs.Read.{of_json, of_members, max_depth, read}
use Rattle.serde_json.specs.Written.{number_text, outline, items_outline, members_outline, has_float, items_have_float, members_have_float, compact_text}
use Rattle.serde_json.proofs.Texts.{print-outline}
use Rattle.json_obj.specs.Objects.{IsTextOf}
use Rattle.json_obj.specs.Orderly.{IsOrderlyNumber, IsOrderly, AreOrderlyItems, AreOrderly}
use Rattle.json_obj.specs.Replies.{type_text, event_front, event_back, event_text}
use Rattle.json_obj.specs.declared.pieces.EventType.{EventType}
use Rattle.json_obj.specs.declared.pieces.EventType.TheVariants as types
use Rattle.json_obj.proofs.ReadBack.{read-compact_text}

-- ---- the tokens of an orderly value are printable

no_minus : (ds : List ℕ) → 48 < get_or ds 0 0 → (head ds == 45) ≡ false
no_minus [] first = absurd (omega arith)
no_minus (d ∷ ds) first = ne_eqb d 45 (λ e. omega arith)

digits_first : (n : ℕ) → n < 2 ^ 64 → (head (decimal n) == 45) ≡ false
digits_first zero h = ap (λ l. head l == 45) (decimal_digit 0 (omega arith))
digits_first (suc n) h = no_minus (decimal (suc n)) (first_decimal (suc n) (omega arith) h)

IsNumber-negative : (n : ℕ) → n < 2 ^ 64 → IsNumber (45 ∷ decimal n)
unfolding after_number
IsNumber-negative n h =
    sym (ap (λ b. option_and_then after_exponent (option_and_then after_fraction (after_whole (cond b (drop 1 (decimal n)) (decimal n))))) (digits_first n h)) ∙ IsNumber-decimal n h

IsNumber-text : (n : Num) → IsOrderlyNumber n → is_float n ≡ false → IsNumber (number_text n)
IsNumber-text (unsigned n) h e = IsNumber-decimal n h
IsNumber-text (negative (pos n)) h e = absurd h
IsNumber-text (negative (negsuc n)) h e = IsNumber-negative (suc n) (omega arith)
IsNumber-text (float x) h e = absurd cc

mutual
  numbers : (d : Data) → IsOrderly d → has_float d ≡ false → tree.HasNumbers (outline d)
  numbers null h e = tt
  numbers (boolean b) h e = tt
  numbers (number n) h e = IsNumber-text n h e
  numbers (string s) h e = tt
  numbers (array ds) h e = item_numbers ds h e
  numbers (object ms) h e = member_numbers ms h e

  item_numbers : (ds : Items) → AreOrderlyItems ds → items_have_float ds ≡ false → tree.ItemsHaveNumbers (items_outline ds)
  item_numbers no_items h e = tt
  item_numbers (item d ds) h e = let p = or_parts (has_float d) _ e in (numbers d h.0 p.0, item_numbers ds h.1 p.1)

  member_numbers : (ms : Members) → AreOrderly ms → members_have_float ms ≡ false → tree.MembersHaveNumbers (members_outline ms)
  member_numbers no_members h e = tt
  member_numbers (member k d ms) h e = let p = or_parts (has_float d) _ e in (numbers d h.0 p.0, member_numbers ms h.2 p.1)

mutual
  outline-depth : (d : Data) → tree.depth (outline d) ≡ depth d
  outline-depth null = refl
  outline-depth (boolean b) = refl
  outline-depth (number n) = refl
  outline-depth (string s) = refl
  outline-depth (array ds) = ap suc (outline-items_depth ds)
  outline-depth (object ms) = ap suc (outline-members_depth ms)

  outline-items_depth : (ds : Items) → tree.items_depth (items_outline ds) ≡ items_depth ds
  outline-items_depth no_items = refl
  outline-items_depth (item d ds) = rw (outline-depth d, outline-items_depth ds) refl

  outline-members_depth : (ms : Members) → tree.members_depth (members_outline ms) ≡ members_depth ms
  outline-members_depth no_members = refl
  outline-members_depth (member k d ms) = rw (outline-depth d, outline-members_depth ms) refl

-- ---- what is read of a value's text, whatever the order of its members

read-outline : (d : Data) → tree.HasNumbers (outline d) → depth d ≤ max_depth → read (compact_text d) ≡ of_json (outline d)
read-outline d printable shallow =
    let j = outline d in
    let all : tokens (compact_text d) ≡ tree.json_tokens j ++ [] =
    ap tokens (sym (print-outline d)) ∙ tokens-print (tree.json_tokens j) (ArePrintable-json_tokens j printable) ∙ sym (append-nil (tree.json_tokens j)) in
    ap (λ ts. option_and_then of_json (option_and_then (λ p. json.if_last p.0 p.1) (json.value max_depth ts))) all
    ∙ ap (λ r. option_and_then of_json (option_and_then (λ p. json.if_last p.0 p.1) r)) (value-json_tokens j max_depth [] (omega (arith, outline-depth d)))

-- ---- events

-- the value of an event, and its members as they are written
abbrev pub event_value : EventType → Data → Data
event_value event d = object (member (codes "object") d (member (codes "type") (string (type_text event)) no_members))

abbrev event_written : EventType → Data → Data
event_written event d = object (member (codes "type") (string (type_text event)) (member (codes "object") d no_members))

written-compact : (event : EventType) (d : Data) → compact_text (event_written event d) ≡ event_text event (compact_text d)
unfolding escape_byte
written-compact types.Added d = refl
written-compact types.Modified d = refl
written-compact types.Deleted d = refl
written-compact types.Bookmark d = refl
written-compact types.Error d = refl

read-written : (event : EventType) (d : Data) → of_json (outline d) ≡ Some d → of_json (outline (event_written event d)) ≡ Some (event_value event d)
read-written event d is = ap (λ found. option_map object (option_and_then (λ e. of_members json.no_members (put (codes "object") e (member (codes "type") (string (type_text event)) no_members))) found)) is

read-event : (event : EventType) (d : Data) → IsOrderly d → has_float d ≡ false → depth d ≤ 64 → read (event_text event (compact_text d)) ≡ Some (event_value event d)
read-event event d orderly plain shallow =
    let printable = numbers d orderly plain in
    let deep : depth d ≤ max_depth = omega (arith, shallow) in
    let written : depth (event_written event d) ≤ max_depth = omega (arith, shallow) in
    let inner : of_json (outline d) ≡ Some d = sym (read-outline d printable deep) ∙ read-compact_text d orderly plain deep in
    ap read (sym (written-compact event d)) ∙ read-outline (event_written event d) (tt, (printable, tt)) written ∙ read-written event d inner

front-utf8 : (event : EventType) → IsUtf8 (event_front event)
front-utf8 types.Added = IsUtf8-are_ascii (event_front types.Added) refl
front-utf8 types.Modified = IsUtf8-are_ascii (event_front types.Modified) refl
front-utf8 types.Deleted = IsUtf8-are_ascii (event_front types.Deleted) refl
front-utf8 types.Bookmark = IsUtf8-are_ascii (event_front types.Bookmark) refl
front-utf8 types.Error = IsUtf8-are_ascii (event_front types.Error) refl

pub event-of : (event : EventType) (text : List ℕ) (d : Data) → IsUtf8 text → text ≡ compact_text d → IsOrderly d → has_float d ≡ false → depth d ≤ 64 → IsTextOf (event_text event text) (event_value event d)
event-of event text d utf8 compact orderly plain shallow = (
  IsUtf8-append (event_front event) (text ++ event_back) (front-utf8 event) (IsUtf8-append text event_back utf8 (IsUtf8-are_ascii event_back refl)),
  ap (λ t. read (event_text event t)) compact ∙ read-event event d orderly plain shallow,
)
