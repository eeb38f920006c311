-- What was found of a head.
use Rattle.std.proofs.Common.{◌≡◌, ℕ, ◌+◌, ◌<◌, ◌≤◌, Bool, true, false, List, [], ◌∷◌, ◌++◌, length, map, filter, take, drop, get_or, sym, ap, subst, ◌∙◌, arith, length-take, take_all, append-nil, ◌==◌, ◌&&◌, IsUtf8}
use Rattle.std.proofs.lemmas.List.{length-map, map-append, nil_from_length}
use Rattle.std.proofs.lemmas.Bool.Decides.{nat_tests}
use Rattle.std.proofs.lemmas.Str.{IsUtf8-from_ascii}
use Rattle.std.proofs.lemmas.Str.Ascii.{IsAscii-from_all}
use Rattle.std.proofs.lemmas.List.Elements.{All-weaker, All-get_or}
use Rattle.std.proofs.lemmas.List.Sums.{AllPass-from_list_all}
use Rattle.std.specs.Char.{is_ascii_digit}
use Rattle.httparse.specs.Grammar.{IsToken, is_token_byte}
use Rattle.std.specs.Prelude.{Option, None, Some, Err, is_some}
use Rattle.std.specs.Option.{option_to_list}
use Rattle.httparse.specs.Grammar.{RequestHead, HasNoRequest, MayBecomeRequest}
use Rattle.httparse.specs.Spans.{IsRequestOf, IsRequestWithin, AreFieldsAt, header_bytes, name_and_value}
use Rattle.httparse.specs.declared.spans.HeaderSpan.{HeaderSpan}
use Rattle.httparse.specs.declared.spans.RequestSpans.{RequestSpans}
use Rattle.http_read.specs.Heads.{FieldText, most_head, most_fields, is_named, values_of, length_said, is_length}
use Rattle.http_read.specs.Requests.{front, RefusesHead, EndsInHead}
use Rattle.http_read.specs.Steps.{FindsHead, ReadsHead}
use Rattle.http_read.specs.declared.refusal.ReqNo.{ReqNo}
use Rattle.http_read.specs.declared.refusal.ReqNo.TheVariants.{Malformed, HeadTooLong, TooManyHeaders, BodyTooLong, NeedsLength, CutShort, ReadFault, Memory}
use Rattle.http_read.proofs.ScanLemmas.{filter-step, filter-around}

-- bytes that are shorter than a head may be are their own front
pub front-short : (bytes : List ℕ) → length bytes < most_head → front bytes ≡ bytes
front-short bytes h = take_all most_head bytes (omega arith)

-- spans for at most 64 fields found a head of at most 64 fields
fields-fit : (buf : List ℕ) (spans : List HeaderSpan) (count : ℕ) (h : RequestHead) → length spans ≡ most_fields → AreFieldsAt buf spans count h.fields
    → length h.fields ≤ most_fields
fields-fit buf spans count h room e =
    omega (arith, sym (length-map (take count spans) (header_bytes buf)) ∙ ap length e ∙ length-map h.fields name_and_value, length-take count spans)

pub finds-head : (bytes buf : List ℕ) (spans : List HeaderSpan) (found : RequestSpans) → buf ≡ front bytes → length spans ≡ most_fields
    → IsRequestWithin buf spans found → IsRequestOf buf spans found → FindsHead bytes spans found
finds-head bytes buf spans found e room within of =
    let of' = subst (λ b. IsRequestOf b spans found) e of in record {
      head = of'.0;
      at = of'.1;
      within = subst (λ b. IsRequestWithin b spans found) e within;
      few_fields = fields-fit (front bytes) spans found.headers of'.0 room of'.1.fields;
    }

pub opens : (bytes buf : List ℕ) → buf ≡ front bytes → length bytes < most_head → HasNoRequest buf → MayBecomeRequest buf
    → (length bytes < most_head) × HasNoRequest bytes × MayBecomeRequest bytes
opens bytes buf e h none may =
    let same = e ∙ front-short bytes h in (h, subst HasNoRequest same none, subst MayBecomeRequest same may)

pub too-long : (bytes buf : List ℕ) → buf ≡ front bytes → most_head ≤ length bytes → HasNoRequest buf → MayBecomeRequest buf
    → (most_head ≤ length bytes) × HasNoRequest (front bytes) × MayBecomeRequest (front bytes)
too-long bytes buf e h none may = (h, subst HasNoRequest e none, subst MayBecomeRequest e may)

-- a head that is refused is what the reading of it answers
pub refuses-head : (bytes : List ℕ) (spans : List HeaderSpan) (left : Option (List ℕ)) (f f' : ℕ) (why : ReqNo) → RefusesHead bytes why → ReadsHead bytes spans left f f' (Err why)
refuses-head bytes spans left f f' Malformed h = h
refuses-head bytes spans left f f' HeadTooLong h = h
refuses-head bytes spans left f f' TooManyHeaders h = h
refuses-head bytes spans left f f' BodyTooLong h = h
refuses-head bytes spans left f f' NeedsLength h = h
refuses-head bytes spans left f f' CutShort h = absurd h
refuses-head bytes spans left f f' ReadFault h = absurd h
refuses-head bytes spans left f f' Memory h = absurd h

-- a length that is said twice is refused
pub said-twice : {X B : Type 0} (f : X → FieldText) (method name : List ℕ) (xs : List X) (i : ℕ) (d : X) (now : B → List ℕ) (found : Option B)
    → i < length xs → values_of name (map f (take i xs)) ≡ map now (option_to_list found) → is_some found ≡ true → is_named name (f (get_or xs i d)) ≡ true
    → length_said method (values_of name (map f xs)) ≡ Err Malformed
said-twice f method name xs i d now None h inv some named = absurd (no_false some)
  where
    no_false : false ≡ true → ⊥
    no_false e = cc
said-twice f method name xs i d now (Some v) h inv some named =
    ap (length_said method)
    (ap (map (λ field. field.1)) (filter-around f (is_named name) xs i d h)
    ∙ map-append (λ field. field.1) (filter (is_named name) (map f (take (i + 1) xs))) _
    ∙ ap (λ l. l ++ map (λ field. field.1) (filter (is_named name) (map f (drop (i + 1) xs))))
    (ap (map (λ field. field.1)) (filter-step f (is_named name) xs i d true h named)
    ∙ map-append (λ field. field.1) (filter (is_named name) (map f (take i xs))) _
    ∙ ap (λ l. l ++ ((f (get_or xs i d)).1 ∷ [])) inv))

-- a byte of a token is ASCII
token_is_ascii : (b : ℕ) → is_token_byte b ≡ true → b < 128
unfolding is_token_byte
token_is_ascii b token = grind (arith, nat_tests)

-- a token is text
pub token-text : (xs : List ℕ) → IsToken xs → IsUtf8 xs
token-text xs h = IsUtf8-from_ascii xs (IsAscii-from_all xs (All-weaker (λ b. is_token_byte b ≡ true) (λ b. b < 128) token_is_ascii xs h.1))

-- a length has at most 15 digits
pub length-short : (value : List ℕ) → is_length value ≡ true → length value ≤ 15
length-short value h = grind (arith, nat_tests)

and_right : (a b : Bool) → (a && b) ≡ true → b ≡ true
and_right true b e = e
and_right false b e = cc

digit-range : (b : ℕ) → is_ascii_digit b ≡ true → (48 ≤ b) × (b ≤ 57)
digit-range b h = grind (arith, nat_tests)

-- each of which is a digit
pub length-digit : (value : List ℕ) (i : ℕ) → is_length value ≡ true → i < length value → (48 ≤ get_or value i 0) × (get_or value i 0 ≤ 57)
length-digit value i h within =
    digit-range _ (All-get_or (λ b. is_ascii_digit b ≡ true) value i 0 within (AllPass-from_list_all is_ascii_digit value (and_right _ _ h)))

-- there are bytes
pub nonempty : (xs : List ℕ) → false ≡ (length xs == 0) → 0 < length xs
nonempty xs e = grind (arith, nat_tests)

-- where a head was open and nothing more came
pub ends-in-head : (bytes old new more : List ℕ) (n : ℕ) → bytes ≡ old → (length bytes < most_head) × HasNoRequest bytes × MayBecomeRequest bytes
    → length more ≡ n → n ≡ 0 → new ≡ old ++ more → false ≡ (length new == 0) → EndsInHead new
ends-in-head bytes old new more n b open_head l z e some =
    let same : bytes ≡ new = b ∙ sym (e ∙ ap (λ x. old ++ x) (nil_from_length more (omega arith)) ∙ append-nil old) in
    (nonempty new some, subst (λ x. length x < most_head) same open_head.0, subst HasNoRequest same open_head.1, subst MayBecomeRequest same open_head.2)
