-- A reply that some bytes begin with is read as it is.
use Rattle.std.proofs.Common.{◌≡◌, ℕ, suc, zero, ◌<◌, ◌≤◌, ◌^◌, ◌+◌, ◌-◌, ◌/◌, ◌==◌, List, [], ◌∷◌, ◌++◌, length, take, map, get_or, slice_range, Bool, true, false, Some, decimal, refl, sym, ap, subst, ◌∙◌, inl, inr, arith, append_assoc, append-nil, length-append, length-drop, drop}
use Rattle.std.specs.List.{list_all}
use Rattle.std.proofs.lemmas.List.{drop-drop, take_all, take_more}
use Rattle.std.proofs.Math.Seq.{drop-append_seam}
use Rattle.std.proofs.Math.ListN.{drop_of_length-le}
use Rattle.std.proofs.lemmas.Fmt.{decimal_digit, decimal_step, decimal_is_IsNumeral}
use Rattle.std.proofs.lemmas.List.Sums.{AllPass-from_list_all}
use Rattle.api_errors.specs.Reasons.{code_of as reason_code}
use Rattle.api_errors.specs.declared.reasons.Reason.{Reason}
use Rattle.api_errors.specs.declared.reasons.Reason.TheVariants.{BadRequest, Forbidden, NotFound, MethodNotAllowed, AlreadyExists, Conflict, Expired, LengthRequired, RequestEntityTooLarge, UnsupportedMediaType, Invalid, InternalError, Timeout}
use Rattle.http_send.specs.Replies.{phrase, typed_reply_text, typed_head_text}
use Rattle.http_send.specs.declared.replies.ContentType.{ContentType}
use Rattle.httparse.specs.Grammar.{AllPass, is_value_byte, print_response, ReadsResponse}
use Rattle.httparse.specs.Spans.{header_bytes, IsResponseAt}
use Rattle.httparse.specs.declared.spans.HeaderSpan.{HeaderSpan}
use Rattle.httparse.specs.declared.spans.ResponseSpans.{ResponseSpans}
use Rattle.load_gen.specs.Replies.{IsCode, IsReply, AreReplies}
use Rattle.load_gen.specs.declared.replies.Reply.{Reply}
use Rattle.load_gen.specs.Heads.{head_of}
use Rattle.load_gen.proofs.HeadLemmas.{printed, valid, few, digits_are, digits_are_value, untrimmed}

-- ---- codes

three : (n : ℕ) → 100 ≤ n → n < 1000 → length (decimal n) ≡ 3
three n low high =
    rw (decimal_step n (omega arith) (omega arith), decimal_step (n / 10) (omega arith) (omega arith), decimal_digit (n / 10 / 10) (omega arith))

record CodeFacts (code : ℕ) : Type 0 where
  low : 100 ≤ code
  high : code < 1000
  seen : AllPass is_value_byte (phrase code)

visible : (n : ℕ) → list_all is_value_byte (phrase n) ≡ true → AllPass is_value_byte (phrase n)
visible n pass = AllPass-from_list_all is_value_byte (phrase n) pass

facts_at : (n : ℕ) → 100 ≤ n → n < 1000 → list_all is_value_byte (phrase n) ≡ true → CodeFacts n
facts_at n low high pass = record { low = low; high = high; seen = visible n pass }

of_reason : (r : Reason) → CodeFacts (reason_code r)
of_reason BadRequest = facts_at 400 (omega arith) (omega arith) refl
of_reason Forbidden = facts_at 403 (omega arith) (omega arith) refl
of_reason NotFound = facts_at 404 (omega arith) (omega arith) refl
of_reason MethodNotAllowed = facts_at 405 (omega arith) (omega arith) refl
of_reason AlreadyExists = facts_at 409 (omega arith) (omega arith) refl
of_reason Conflict = facts_at 409 (omega arith) (omega arith) refl
of_reason Expired = facts_at 410 (omega arith) (omega arith) refl
of_reason LengthRequired = facts_at 411 (omega arith) (omega arith) refl
of_reason RequestEntityTooLarge = facts_at 413 (omega arith) (omega arith) refl
of_reason UnsupportedMediaType = facts_at 415 (omega arith) (omega arith) refl
of_reason Invalid = facts_at 422 (omega arith) (omega arith) refl
of_reason InternalError = facts_at 500 (omega arith) (omega arith) refl
of_reason Timeout = facts_at 504 (omega arith) (omega arith) refl

code_facts : (code : ℕ) → IsCode code → CodeFacts code
code_facts code known =
    elim known as (λ _. CodeFacts code) [
      | inl e ↦ subst CodeFacts (sym e) (facts_at 200 (omega arith) (omega arith) refl)
      | inr others ↦ elim others as (λ _. CodeFacts code) [
        | inl e ↦ subst CodeFacts (sym e) (facts_at 201 (omega arith) (omega arith) refl)
        | inr more ↦ elim more as (λ _. CodeFacts code) [
          | inl e ↦ subst CodeFacts (sym e) (facts_at 503 (omega arith) (omega arith) refl)
          | inr failed ↦ subst CodeFacts (sym failed.1) (of_reason failed.0)
        ]
      ]
    ]

-- ---- heads

reads-body : (kind : ContentType) (code : ℕ) (retry close : Bool) (body rest text : List ℕ) → IsCode code → length body < 2 ^ 64 →
    text ≡ typed_reply_text kind code retry close body ++ rest → ReadsResponse text (head_of kind code retry close body) (body ++ rest)
reads-body kind code retry close body rest text known small e =
    let facts = code_facts code known in
    let same : print_response (head_of kind code retry close body) ≡ typed_head_text kind code retry close (length body) =
    printed kind (decimal code) (phrase code) (decimal (length body)) retry close in
    let whole : text ≡ print_response (head_of kind code retry close body) ++ (body ++ rest) =
    e ∙ append_assoc (typed_head_text kind code retry close (length body)) body rest ∙ ap (λ (x : List ℕ). x ++ (body ++ rest)) (sym same) in
    (valid kind (decimal code) (phrase code) (decimal (length body)) retry close (three code facts.low facts.high) (digits_are code (omega arith)) facts.seen (digits_are_value (length body) small), whole)

-- a body isn't longer than the text
body_fits : (kind : ContentType) (code : ℕ) (retry close : Bool) (body rest text : List ℕ) → text ≡ typed_reply_text kind code retry close body ++ rest → length body ≤ length text
body_fits kind code retry close body rest text e =
    let l = ap length e in
    let a = length-append (typed_reply_text kind code retry close body) rest in
    let b = length-append (typed_head_text kind code retry close (length body)) body in
    omega arith

pub reads : (code : ℕ) (first rest text : List ℕ) (r : IsReply code first) → length text < 2 ^ 64 → text ≡ first ++ rest →
    ReadsResponse text (head_of r.kind code r.retry r.close r.body) (r.body ++ rest)
reads code first rest text r small e =
    let whole : text ≡ typed_reply_text r.kind code r.retry r.close r.body ++ rest = e ∙ ap (λ (x : List ℕ). x ++ rest) r.text_is in
    let fits = body_fits r.kind code r.retry r.close r.body rest text whole in
    reads-body r.kind code r.retry r.close r.body rest text r.known (omega arith) whole

pub few_fields : (kind : ContentType) (code : ℕ) (retry close : Bool) (body : List ℕ) → length (head_of kind code retry close body).fields ≤ 4
few_fields kind code retry close body = let f = few retry close in omega arith

-- ---- spans

-- the second of two or more
second : {H V : Type 0} (f : H → V) (hs : List H) (k : ℕ) (a b : V) (rest : List V) (x : H) → map f (take k hs) ≡ a ∷ b ∷ rest →
    (2 ≤ k) × (f (get_or hs 1 x) ≡ b)
second f [] zero a b rest x e = absurd (cc)
second f [] (suc k) a b rest x e = absurd (cc)
second f (h ∷ hs) zero a b rest x e = absurd (cc)
second f (h ∷ []) (suc zero) a b rest x e = absurd (cc)
second f (h ∷ []) (suc (suc k)) a b rest x e = absurd (cc)
second f (h ∷ (g ∷ hs)) (suc zero) a b rest x e = absurd (cc)
second f (h ∷ (g ∷ hs)) (suc (suc k)) a b rest x e = (omega arith, cc)

-- what was found of the head of a reply
pub record Found (code : ℕ) (first : List ℕ) (body : List ℕ) (text : List ℕ) (fields : List HeaderSpan) (spans : ResponseSpans) : Type 0 where
  pub code_is : spans.code ≡ code
  pub whole : spans.len + length body ≡ length first
  pub two : 2 ≤ spans.headers
  pub size : (x : HeaderSpan) → slice_range text (get_or fields 1 x).value.start (get_or fields 1 x).value.end ≡ decimal (length body)

pub found : (code : ℕ) (first text : List ℕ) (fields : List HeaderSpan) (spans : ResponseSpans) (r : IsReply code first) →
    length first < 2 ^ 64 → IsResponseAt text fields spans (head_of r.kind code r.retry r.close r.body) → Found code first r.body text fields spans
found code first text fields spans r small at =
    let facts = code_facts code r.known in
    let value = decimal_is_IsNumeral code (omega arith) in
    let same : print_response (head_of r.kind code r.retry r.close r.body) ≡ typed_head_text r.kind code r.retry r.close (length r.body) =
    printed r.kind (decimal code) (phrase code) (decimal (length r.body)) r.retry r.close in
    let whole = ap length r.text_is in
    let parts = length-append (typed_head_text r.kind code r.retry r.close (length r.body)) r.body in
    let head_len = ap length same in
    let trimmed = untrimmed (decimal (length r.body)) (digits_are (length r.body) (omega arith)) in
    let pair = λ (x : HeaderSpan). second (header_bytes text) fields spans.headers _ _ _ x at.fields in
    record {
      code_is = at.code ∙ value.1;
      whole = omega (arith, at.len);
      two = (pair (record { name = record { start = 0; end = 0 }; value = record { start = 0; end = 0 } })).0;
      size = λ x. ap (λ (p : List ℕ × List ℕ). p.1) (pair x).1 ∙ trimmed;
    }

-- a reply has some bytes
pub some_bytes : (code : ℕ) (first : List ℕ) (r : IsReply code first) → 0 < length first
some_bytes code first r =
    let head = length-append (typed_head_text r.kind code r.retry r.close (length r.body)) r.body in
    let size = ap length r.text_is in
    let some : 0 < length (typed_head_text r.kind code r.retry r.close (length r.body)) = omega arith in
    omega arith

pub same_reply : (reply : Reply) (code size : ℕ) → Some reply ≡ Some (record { code = code; size = size }) → (reply.code ≡ code) × (reply.size ≡ size)
same_reply reply code size e =
    let it : Reply = record { code = code; size = size } in
    let same : reply ≡ it = cc in
    (ap (λ (x : Reply). x.code) same, ap (λ (x : Reply). x.size) same)

-- ---- all but the last

pub is_some : (xs : List ℕ) → false ≡ (length xs == 0) → 0 < length xs
is_some [] e = absurd (cc)
is_some (x ∷ xs) e = omega arith

pub parted : (xs : List ℕ) → 0 < length xs → xs ≡ take (length xs - 1) xs ++ get_or xs (length xs - 1) 0 ∷ []
parted xs some =
    let last = take_more xs (length xs - 1) 0 (omega arith) in
    let whole : length xs ≡ length xs - 1 + 1 = omega arith in
    sym (take_all (length xs) xs (omega arith)) ∙ ap (λ (n : ℕ). take n xs) whole ∙ last

-- ---- reply by reply

-- what is left of a text, as a slice
pub rest_whole : (text : List ℕ) (at : ℕ) → take (length text - at) (drop at text) ≡ drop at text
rest_whole text at = take_all (length text - at) (drop at text) (omega (arith, length-drop at text))

-- what is read of the first of some replies, and what is left
pub one_read : (text : List ℕ) (at code size : ℕ) (codes done rest : List ℕ) → at < length text → AreReplies rest (drop at text) → codes ≡ done ++ rest →
    ((other : ℕ) (first behind : List ℕ) → drop at text ≡ first ++ behind → IsReply other first → (code ≡ other) × (size ≡ length first)) →
    (left : List ℕ) × AreReplies left (drop (at + size) text) × (codes ≡ (done ++ code ∷ []) ++ left)
one_read text at code size codes done [] inside replies e read =
    absurd (omega (arith, length-drop at text, ap length replies))
one_read text at code size codes done (other ∷ others) inside replies e read =
    let first = replies.0 in
    let behind = replies.1 in
    let is = read other first behind replies.2 replies.3 in
    let left : drop (at + size) text ≡ behind =
    sym (drop-drop size at text) ∙ ap (drop size) replies.2 ∙ ap (λ (n : ℕ). drop n (first ++ behind)) is.1 ∙ drop-append_seam first behind in
    (others, subst (AreReplies others) (sym left) replies.4, e ∙ ap (λ (c : ℕ). done ++ (c ∷ others)) (sym is.0) ∙ sym (append_assoc done (code ∷ []) others))

-- where no byte is left, no reply is
pub none_left : (text : List ℕ) (at : ℕ) (codes done rest : List ℕ) → length text ≤ at → AreReplies rest (drop at text) → codes ≡ done ++ rest → done ≡ codes
none_left text at codes done [] past replies e = sym (e ∙ append-nil done)
none_left text at codes done (other ∷ others) past replies e =
    let first = replies.0 in
    let none = drop_of_length-le text past in
    let parts = length-append first replies.1 in
    let whole = ap length (sym replies.2 ∙ none) in
    let some = some_bytes other first replies.3 in
    absurd (omega arith)
