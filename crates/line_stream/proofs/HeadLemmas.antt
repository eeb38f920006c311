-- What was found of a head.
use Rattle.std.proofs.Common.{◌≡◌, ℕ, ◌+◌, ◌<◌, ◌≤◌, true, false, List, [], ◌∷◌, ◌++◌, None, Some, length, map, filter, take, drop, get_or, sym, ap, subst, ◌∙◌, arith, length-append, length-take, inl, inr, codes}
use Rattle.std.specs.Prelude.{Option, is_some, Result, Ok, Err}
use Rattle.std.specs.Option.{option_to_list}
use Rattle.std.proofs.lemmas.List.{length-map, map-append}
use Rattle.httparse.specs.Grammar.{ResponseHead, print_response, HasNoResponse, MayBecomeResponse}
use Rattle.httparse.specs.Spans.{IsResponseOf, IsResponseWithin, AreFieldsAt, header_bytes, name_and_value}
use Rattle.httparse.specs.declared.spans.HeaderSpan.{HeaderSpan}
use Rattle.httparse.specs.declared.spans.ResponseSpans.{ResponseSpans}
use Rattle.http_read.specs.Heads.{FieldText, most_head, most_fields, is_named, values_of}
use Rattle.http_read.specs.Requests.{front}
use Rattle.http_read.proofs.HeadLemmas.{front-short}
use Rattle.http_read.proofs.ScanLemmas.{filter-step, filter-around}
use Rattle.line_stream.specs.Heads.{HasResponse, at_body, only, is_chunks, is_chunked, IsOpenHead, IsNoHead, LacksHead, RefusesResponse}
use Rattle.line_stream.specs.HeadSteps.{FindsHead, BeginsAt, FindsBody}
use Rattle.line_stream.proofs.LookLemmas.{front-stands}
use Rattle.line_stream.specs.Readers.{LinesData}
use Rattle.line_stream.specs.declared.place.Place.TheVariants.{AtSize}
use Rattle.line_stream.specs.declared.refusal.LineNo.{LineNo}
use Rattle.line_stream.specs.declared.refusal.LineNo.TheVariants.{BadHead, Refused, BadChunk, Overlong, Unfinished, Spent, CutShort, ReadFault, Memory}

-- spans for at most 64 fields found a head of at most 64 fields
fields-fit : (buf : List ℕ) (spans : List HeaderSpan) (count : ℕ) (h : ResponseHead) → length spans ≡ most_fields → AreFieldsAt buf spans count h.fields
    → length h.fields ≤ most_fields
fields-fit buf spans count h room e =
    omega (arith, sym (length-map (take count spans) (header_bytes buf)) ∙ ap length e ∙ length-map h.fields name_and_value, length-take count spans)

pub finds-head : (bytes buf : List ℕ) (spans : List HeaderSpan) (found : ResponseSpans) → buf ≡ front bytes → length spans ≡ most_fields
    → IsResponseWithin buf spans found → IsResponseOf buf spans found → FindsHead bytes spans found
finds-head bytes buf spans found e room within of =
    let of_front = subst (λ b. IsResponseOf b spans found) e of in record {
      head = of_front.0;
      at = of_front.1;
      within = subst (λ b. IsResponseWithin b spans found) e within;
      few_fields = fields-fit (front bytes) spans found.headers of_front.0 room of_front.1.fields;
    }

pub opens-head : (bytes buf : List ℕ) → buf ≡ front bytes → length bytes < most_head → HasNoResponse buf → MayBecomeResponse buf → IsOpenHead bytes
opens-head bytes buf e h none may =
    let same = e ∙ front-short bytes h in (h, subst HasNoResponse same none, subst MayBecomeResponse same may)

pub too-long : (bytes buf : List ℕ) → buf ≡ front bytes → most_head ≤ length bytes → HasNoResponse buf → IsNoHead bytes
too-long bytes buf e h none = inr (inl (h, subst HasNoResponse e none))

-- the head that was found begins the bytes
pub has-response : (bytes : List ℕ) (spans : List HeaderSpan) (found : ResponseSpans) (f : FindsHead bytes spans found)
    → HasResponse bytes f.head (drop found.len bytes)
has-response bytes spans found f = record {
  reads = (f.at.reads.0, front-stands bytes (print_response f.head) most_head found.len f.at.reads.1 f.at.len);
  short = omega (arith, ap length f.at.reads.1, length-append (print_response f.head) (drop found.len (front bytes)), length-take most_head bytes);
  few_fields = f.few_fields;
}

-- ---- the only value

-- a value that is said twice isn't the only one
pub only-twice : {X B : Type 0} (f : X → FieldText) (name : List ℕ) (xs : List X) (i : ℕ) (d : X) (now : B → List ℕ) (found : Option B)
    → i < length xs → values_of name (map f (take i xs)) ≡ map now (option_to_list found) → is_some found ≡ true → is_named name (f (get_or xs i d)) ≡ true
    → only (values_of name (map f xs)) ≡ None
only-twice f name xs i d now None h inv some named = absurd (no_false some)
  where
    no_false : false ≡ true → ⊥
    no_false e = cc
only-twice f name xs i d now (Some v) h inv some named =
    ap only
    (ap (map (λ field. field.1)) (filter-around f (is_named name) xs i d h)
    ∙ map-append (λ field. field.1) (filter (is_named name) (map f (take (i + 1) xs))) _
    ∙ ap (λ l. l ++ map (λ field. field.1) (filter (is_named name) (map f (drop (i + 1) xs))))
    (ap (map (λ field. field.1)) (filter-step f (is_named name) xs i d true h named)
    ∙ map-append (λ field. field.1) (filter (is_named name) (map f (take i xs))) _
    ∙ ap (λ l. l ++ ((f (get_or xs i d)).1 ∷ [])) inv))

-- ---- what a head says

pub chunked-of : (bytes buf : List ℕ) (fields spans : List HeaderSpan) (found : ResponseSpans) (f : FindsHead bytes spans found) → buf ≡ front bytes → fields ≡ take found.headers spans
    → is_chunks (only (values_of (codes "transfer-encoding") (map (header_bytes buf) fields))) ≡ is_chunked f.head
chunked-of bytes buf fields spans found f e s =
    ap (λ l. is_chunks (only (values_of (codes "transfer-encoding") l))) (ap (λ b. map (header_bytes b) fields) e ∙ ap (map (header_bytes (front bytes))) s ∙ f.at.fields)

-- why there is no whole head is why there is no body
pub refuses-head : (bytes : List ℕ) (left : Option (List ℕ)) (why : LineNo) → LacksHead bytes left why → RefusesResponse bytes left why
refuses-head bytes left BadHead x = inl x
refuses-head bytes left (Refused code) x = absurd x
refuses-head bytes left BadChunk x = absurd x
refuses-head bytes left Overlong x = absurd x
refuses-head bytes left Unfinished x = absurd x
refuses-head bytes left Spent x = absurd x
refuses-head bytes left CutShort x = x
refuses-head bytes left ReadFault x = x
refuses-head bytes left Memory x = x

-- a look at a head whose body doesn't begin is a refusal
pub refuses-body : (bytes : List ℕ) (left : Option (List ℕ)) (why : LineNo) → BeginsAt bytes (Err why) → RefusesResponse bytes left why
refuses-body bytes left why (inl x) = subst (RefusesResponse bytes left) (sym x.0) (inr x.1)
refuses-body bytes left why (inr x) = subst (RefusesResponse bytes left) (sym x.1) x.2

pub finds-body : (bytes : List ℕ) (left : Option (List ℕ)) (answer : Result ℕ LineNo) → BeginsAt bytes answer → FindsBody bytes left answer
finds-body bytes left (Ok start) x = x
finds-body bytes left (Err why) x = refuses-body bytes left why x

pub head-within : (bytes : List ℕ) (spans : List HeaderSpan) (found : ResponseSpans) → FindsHead bytes spans found → found.len ≤ length bytes
head-within bytes spans found f = omega (arith, f.within.section.len_fits, length-take most_head bytes)

-- ---- the same of a reader's fields

pub kept-with : (a b : LinesData) (kept new : List ℕ) → a ≡ b → kept ≡ new
    → record { at = record { kept = kept; place = a.at.place; part = a.at.part; room = a.at.room; most = a.at.most }; line = a.line } ≡ record b { at = record (b.at) { kept = new } }
kept-with a b kept new v e =
    λ i. record { at = record { kept = e i; place = (v i).at.place; part = (v i).at.part; room = (v i).at.room; most = (v i).at.most }; line = (v i).line }

pub body-with : (a b : LinesData) (kept part : List ℕ) → a ≡ b → part ≡ []
    → record { at = record { kept = kept; place = AtSize; part = part; room = a.at.room; most = a.at.most }; line = a.line } ≡ record b { at = at_body b.at.room b.at.most kept }
body-with a b kept part v e =
    λ i. record { at = record { kept = kept; place = AtSize; part = e i; room = (v i).at.room; most = (v i).at.most }; line = (v i).line }
