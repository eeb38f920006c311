-- How bodies are framed.
use Rattle.std.proofs.Common.{◌≡◌, ℕ, ◌+◌, ◌<◌, ◌≤◌, ◌^◌, Bool, true, false, cond, List, [], ◌∷◌, ◌++◌, None, Some, length, map, filter, take, drop, get_or, refl, sym, ap, subst, ◌∙◌, arith, inl, inr, codes, option_and_then}
use Rattle.std.specs.Prelude.{Option, Result, Ok, Err}
use Rattle.std.specs.Char.{is_ascii_digit}
use Rattle.std.specs.Option.{option_map}
use Rattle.std.specs.Result.{result_ok}
use Rattle.std.specs.Str.{all_ascii_digits}
use Rattle.std.specs.Str.Parse.{digits_value, ParsesUnsigned}
use Rattle.std.proofs.lemmas.Bool.{and_parts}
use Rattle.std.proofs.lemmas.Bool.Decides.{nat_tests}
use Rattle.std.proofs.lemmas.List.{map-append}
use Rattle.std.proofs.lemmas.Str.Parse.{digits_value_short, parse_gives}
use Rattle.httparse.specs.Spans.{header_bytes}
use Rattle.httparse.specs.declared.spans.HeaderSpan.{HeaderSpan}
use Rattle.httparse.specs.declared.spans.ResponseSpans.{ResponseSpans}
use Rattle.httparse.proofs.GrammarLemmas.{ReadsResponse-append}
use Rattle.http_read.specs.Heads.{FieldText, is_named, values_of, is_length, length_value}
use Rattle.http_read.specs.Requests.{front}
use Rattle.http_read.proofs.HeadLemmas.{length-short}
use Rattle.http_read.proofs.ScanLemmas.{filter-step, filter-around}
use Rattle.kube_meta.proofs.RevisionLemmas.{own, all_ascii_digits-list_all}
use Rattle.line_stream.specs.Framings.{are_unsaid, framing_said, framing_in, BeginsFramed, RefusesFramed}
use Rattle.line_stream.specs.Heads.{only, is_chunks, LacksHead}
use Rattle.line_stream.specs.HeadSteps.{FindsHead, FramesAt, FindsFramed}
use Rattle.line_stream.specs.declared.framing.Framing.{Framing}
use Rattle.line_stream.specs.declared.framing.Framing.TheVariants.{Counted, Chunked}
use Rattle.line_stream.specs.declared.refusal.LineNo.{LineNo}
use Rattle.line_stream.specs.declared.refusal.LineNo.TheVariants.{BadHead, Refused, BadChunk, Overlong, Unfinished, Spent, CutShort, ReadFault, Memory}

-- ---- what fields say

-- what one field says isn't unsaid
pub said-once : {X : Type 0} (f : X → FieldText) (name : List ℕ) (xs : List X) (i : ℕ) (d : X) → i < length xs
    → values_of name (map f (take i xs)) ≡ [] → is_named name (f (get_or xs i d)) ≡ true → are_unsaid (values_of name (map f xs)) ≡ false
said-once f name xs i d h none named =
    ap are_unsaid
    (ap (map (λ field. field.1)) (filter-around f (is_named name) xs i d h)
    ∙ map-append (λ field. field.1) (filter (is_named name) (map f (take (i + 1) xs))) _
    ∙ ap (λ l. l ++ map (λ field. field.1) (filter (is_named name) (map f (drop (i + 1) xs))))
    (ap (map (λ field. field.1)) (filter-step f (is_named name) xs i d true h named)
    ∙ map-append (λ field. field.1) (filter (is_named name) (map f (take i xs))) _
    ∙ ap (λ l. l ++ ((f (get_or xs i d)).1 ∷ [])) none))

-- and where another field has another name, it stays so
pub unsaid-on : {X : Type 0} (f : X → FieldText) (name : List ℕ) (xs : List X) (i : ℕ) (d : X) → i < length xs
    → values_of name (map f (take i xs)) ≡ [] → is_named name (f (get_or xs i d)) ≡ false → values_of name (map f (take (i + 1) xs)) ≡ []
unsaid-on f name xs i d h none other =
    ap (map (λ field. field.1)) (filter-step f (is_named name) xs i d false h other)
    ∙ map-append (λ field. field.1) (filter (is_named name) (map f (take i xs))) []
    ∙ ap (λ l. l ++ []) none

module _ (codings lengths : List (List ℕ)) where
  pub said-chunks : true ≡ is_chunks (only codings) → Some Chunked ≡ framing_said codings lengths
  said-chunks is =
      ap (λ (b : Bool). cond b (Some Chunked) (cond (are_unsaid codings) (option_map Counted (option_and_then length_value (only lengths))) None)) is

  pub said-otherwise : false ≡ is_chunks (only codings) → false ≡ are_unsaid codings → None ≡ framing_said codings lengths
  said-otherwise unlike other =
      ap (λ (b : Bool). cond b (option_map Counted (option_and_then length_value (only lengths))) None) other
      ∙ ap (λ (b : Bool). cond b (Some Chunked) (cond (are_unsaid codings) (option_map Counted (option_and_then length_value (only lengths))) None)) unlike

  pub said-length : false ≡ is_chunks (only codings) → true ≡ are_unsaid codings
      → option_map Counted (option_and_then length_value (only lengths)) ≡ framing_said codings lengths
  said-length unlike none =
      ap (λ (b : Bool). cond b (option_map Counted (option_and_then length_value (only lengths))) None) none
      ∙ ap (λ (b : Bool). cond b (Some Chunked) (cond (are_unsaid codings) (option_map Counted (option_and_then length_value (only lengths))) None)) unlike

-- ---- a length

length-some : (value : List ℕ) → is_length value ≡ true → 0 < length value
length-some value h = grind (arith, nat_tests)

pub length-digits : (value : List ℕ) → true ≡ is_length value → all_ascii_digits value ≡ true
length-digits value is = all_ascii_digits-list_all value ∙ (and_parts _ _ (sym is)).1

pub length-parsed : {E : Type 0} (value : List ℕ) (r : Result ℕ E) → true ≡ is_length value → ParsesUnsigned 64 10 value r → result_ok r ≡ length_value value
length-parsed value r is parses =
    let digits = length-digits value is in
    let small : digits_value 10 value < 10 ^ 15 = digits_value_short own value 15 digits (length-short value (sym is)) in
    ap result_ok (parse_gives own 64 value r parses digits (length-some value (sym is)) (omega (arith, small)))
    ∙ ap (λ (b : Bool). cond b (Some (digits_value 10 value)) None) is

-- ---- what a head says

pub framing-of : (bytes buf : List ℕ) (fields spans : List HeaderSpan) (found : ResponseSpans) (f : FindsHead bytes spans found) → buf ≡ front bytes → fields ≡ take found.headers spans
    → framing_said (values_of (codes "transfer-encoding") (map (header_bytes buf) fields)) (values_of (codes "content-length") (map (header_bytes buf) fields)) ≡ framing_in f.head
framing-of bytes buf fields spans found f e s =
    ap (λ l. framing_said (values_of (codes "transfer-encoding") l) (values_of (codes "content-length") l))
    (ap (λ b. map (header_bytes b) fields) e ∙ ap (map (header_bytes (front bytes))) s ∙ f.at.fields)

-- why there is no whole head is why there is no body
pub refuses-framed : (bytes : List ℕ) (left : Option (List ℕ)) (why : LineNo) → LacksHead bytes left why → RefusesFramed bytes left why
refuses-framed bytes left BadHead x = inl x
refuses-framed bytes left (Refused code) x = absurd x
refuses-framed bytes left BadChunk x = absurd x
refuses-framed bytes left Overlong x = absurd x
refuses-framed bytes left Unfinished x = absurd x
refuses-framed bytes left Spent x = absurd x
refuses-framed bytes left CutShort x = x
refuses-framed bytes left ReadFault x = x
refuses-framed bytes left Memory x = x

unframed : (bytes : List ℕ) (left : Option (List ℕ)) (why : LineNo) → FramesAt bytes (Err why) → RefusesFramed bytes left why
unframed bytes left why (inl x) = subst (RefusesFramed bytes left) (sym x.0) (inr x.1)
unframed bytes left why (inr x) = subst (RefusesFramed bytes left) (sym x.1) x.2

pub finds-framed : (bytes : List ℕ) (left : Option (List ℕ)) (answer : Result (ℕ × Framing) LineNo) → FramesAt bytes answer → FindsFramed bytes left answer
finds-framed bytes left (Ok found) x = x
finds-framed bytes left (Err why) x = unframed bytes left why x

-- bytes that follow belong to the body
pub framed-append : (bytes after taken : List ℕ) (framing : Framing) → BeginsFramed bytes framing after → BeginsFramed (bytes ++ taken) framing (after ++ taken)
framed-append bytes after taken framing x =
    (x.0, record { reads = ReadsResponse-append bytes x.0 after taken x.1.reads; short = x.1.short; few_fields = x.1.few_fields }, x.2, x.3)
