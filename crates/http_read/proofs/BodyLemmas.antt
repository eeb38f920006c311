-- Bodies, and the requests that they end.
use Rattle.std.proofs.Common.{◌≡◌, refl, ℕ, ◌-◌, ◌<◌, ◌≤◌, Bool, true, false, List, [], ◌∷◌, ◌++◌, length, take, drop, sym, ap, subst, ◌∙◌, arith, append_assoc, append-nil, min, ◌⊎◌, eq-zero-or-pos, length-append, length-take, take-append-drop, inl, inr, cond, codes, ◌==◌, nat_le}
use Rattle.std.specs.Prelude.{Option, None, Some, Result, Ok, Err}
use Rattle.std.proofs.lemmas.List.{drop_all, drop-append-le, nil_from_length}
use Rattle.httparse.specs.Grammar.{RequestHead, ReadsRequest}
use Rattle.httparse.proofs.GrammarLemmas.{ReadsRequest-append}
use Rattle.httparse.specs.declared.spans.HeaderSpan.{HeaderSpan}
use Rattle.httparse.specs.declared.spans.RequestSpans.{RequestSpans}
use Rattle.http_read.specs.Heads.{most_head, has_field, length_said, within_most, length_value, needs_length, most_body, fields_of, values_of}
use Rattle.http_read.specs.Requests.{front, HasHead, ReadsOne, head_answer, request_of}
use Rattle.http_read.specs.Answers.{ReadsNext}
use Rattle.http_read.specs.Steps.{FindsHead, FillsBody, ReadsHead}
use Rattle.http_read.specs.declared.request.Req.{Req}
use Rattle.http_read.specs.declared.refusal.ReqNo.{ReqNo}
use Rattle.http_read.specs.declared.refusal.ReqNo.TheVariants.{Malformed, HeadTooLong, TooManyHeaders, BodyTooLong, NeedsLength, CutShort, ReadFault, Memory}

-- what is filled from the bytes that were kept, and then from those that were taken
module _ (kept taken body : List ℕ) (n whole : ℕ) (either : (length kept ≤ n) ⊎ (n ≡ whole)) (within : n ≤ length kept) where
  joined : take n kept ++ taken ≡ body ++ [] → length body ≡ whole → kept ++ taken ≡ body ++ drop n kept
  joined e long = elim either [
    | inl all ↦ ap (λ l. l ++ taken) (sym (front all)) ∙ e ∙ ap (λ l. body ++ l) (sym (drop_all n kept all))
    | inr full ↦
        let none : taken ≡ [] =
        nil_from_length taken (omega (arith, full, long, within, ap length e, length-append (take n kept) taken, length-append body [], length-take n kept)) in
        let same : take n kept ≡ body = sym (append-nil (take n kept)) ∙ ap (λ l. take n kept ++ l) (sym none) ∙ e ∙ append-nil body in
        ap (λ l. kept ++ l) none ∙ append-nil kept ∙ sym (take-append-drop n kept) ∙ ap (λ l. l ++ drop n kept) same
  ]
    where
      front : length kept ≤ n → take n kept ≡ kept
      front all = sym (append-nil (take n kept)) ∙ ap (λ l. take n kept ++ l) (sym (drop_all n kept all)) ∙ take-append-drop n kept

  fewer : length (take n kept ++ taken) < whole → length (kept ++ taken) < whole
  fewer h = elim either [
    | inl all ↦ omega (arith, h, all, within, length-append kept taken, length-append (take n kept) taken, length-take n kept)
    | inr full ↦ absurd (omega (arith, h, full, within, length-append (take n kept) taken, length-take n kept))
  ]

  pub fills : (left : Option (List ℕ)) (f f' : ℕ) (r : Result (Unit {0}) ReqNo) → FillsBody whole (take n kept ++ taken) body [] left f f' r
      → FillsBody whole (kept ++ taken) body (drop n kept) left f f' r
  fills left f f' (Ok u) h = (joined h.0 h.1, h.1)
  fills left f f' (Err CutShort) h = (fewer h.0, h.1)
  fills left f f' (Err ReadFault) h = (h.0, fewer h.1)
  fills left f f' (Err Malformed) h = h
  fills left f f' (Err HeadTooLong) h = h
  fills left f f' (Err TooManyHeaders) h = h
  fills left f f' (Err BodyTooLong) h = h
  fills left f f' (Err NeedsLength) h = h
  fills left f f' (Err Memory) h = h

-- the head that was found begins the bytes, whatever follows them
pub has-head : (bytes more : List ℕ) (spans : List HeaderSpan) (found : RequestSpans) (f : FindsHead bytes spans found)
    → HasHead (bytes ++ more) f.head (drop found.len bytes ++ more)
has-head bytes more spans found f =
    let fits : found.len ≤ length (front bytes) = f.within.section.len_fits in
    let tail = drop most_head bytes ++ more in
    let whole : front bytes ++ tail ≡ bytes ++ more = sym (append_assoc (front bytes) (drop most_head bytes) more) ∙ ap (λ l. l ++ more) (take-append-drop most_head bytes) in
    let after : drop found.len (front bytes) ++ tail ≡ drop found.len bytes ++ more =
    sym (append_assoc (drop found.len (front bytes)) (drop most_head bytes) more)
    ∙ ap (λ l. l ++ more) (sym (drop-append-le found.len (front bytes) (drop most_head bytes) fits) ∙ ap (drop found.len) (take-append-drop most_head bytes)) in
    record {
      reads = subst (λ b. ReadsRequest b f.head (drop found.len bytes ++ more)) whole
          (subst (λ a. ReadsRequest (front bytes ++ tail) f.head a) after
          (ReadsRequest-append (front bytes) f.head (drop found.len (front bytes)) tail f.at.reads));
      short = omega (arith, f.at.len, fits, length-take most_head bytes);
      few_fields = f.few_fields;
    }

-- a head is within the bytes that it was found in
pub head-within : (bytes : List ℕ) (spans : List HeaderSpan) (found : RequestSpans) → FindsHead bytes spans found → found.len ≤ length bytes
head-within bytes spans found f = omega (arith, f.within.section.len_fits, length-take most_head bytes)

-- the refusals that a head's fields give
abbrev pub IsHeadRefusal : ReqNo → Type 0
IsHeadRefusal Malformed = Unit {0}
IsHeadRefusal HeadTooLong = ⊥
IsHeadRefusal TooManyHeaders = ⊥
IsHeadRefusal BodyTooLong = Unit {0}
IsHeadRefusal NeedsLength = Unit {0}
IsHeadRefusal CutShort = ⊥
IsHeadRefusal ReadFault = ⊥
IsHeadRefusal Memory = ⊥

abbrev RefusesSo : Result ℕ ReqNo → Type 0
RefusesSo (Ok n) = Unit {0}
RefusesSo (Err why) = IsHeadRefusal why

either_so : (b : Bool) (x y : Result ℕ ReqNo) → RefusesSo x → RefusesSo y → RefusesSo (cond b x y)
either_so true x y p q = p
either_so false x y p q = q

said_so : (method : List ℕ) (values : List (List ℕ)) → RefusesSo (length_said method values)
said_so method [] = either_so (needs_length method) (Err NeedsLength) (Ok 0) tt tt
said_so method (value ∷ []) = most_so (length_value value)
  where
    most_so : (o : Option ℕ) → RefusesSo (within_most o)
    most_so None = tt
    most_so (Some n) = either_so (nat_le n most_body) (Ok n) (Err BodyTooLong) tt tt
said_so method (value ∷ another ∷ others) = tt

pub refuses-so : (h : RequestHead) → RefusesSo (head_answer h)
refuses-so h =
    either_so (h.minor == 1)
    (cond (has_field (codes "transfer-encoding") (fields_of h)) (Err NeedsLength) (length_said h.method (values_of (codes "content-length") (fields_of h))))
    (Err Malformed)
    (either_so (has_field (codes "transfer-encoding") (fields_of h)) (Err NeedsLength) (length_said h.method (values_of (codes "content-length") (fields_of h)))
    tt (said_so h.method (values_of (codes "content-length") (fields_of h))))
    tt

-- a head whose fields refuse the request
pub refuses-body : (bytes : List ℕ) (h : RequestHead) (after : List ℕ) (why : ReqNo) (kept : List ℕ) (left : Option (List ℕ)) (f f' : ℕ)
    → HasHead bytes h after → head_answer h ≡ Err why → ReadsNext bytes (Err why) kept left f f'
refuses-body bytes h after why kept left f f' has e = by_why why e (subst RefusesSo e (refuses-so h))
  where
    by_why : (why : ReqNo) → head_answer h ≡ Err why → IsHeadRefusal why → ReadsNext bytes (Err why) kept left f f'
    by_why Malformed e ok = inr (h, after, has, e)
    by_why HeadTooLong e ok = absurd ok
    by_why TooManyHeaders e ok = absurd ok
    by_why BodyTooLong e ok = inr (h, after, has, e)
    by_why NeedsLength e ok = inr (h, after, has, e)
    by_why CutShort e ok = absurd ok
    by_why ReadFault e ok = absurd ok
    by_why Memory e ok = absurd ok

-- a body that isn't filled
pub breaks-off : (bytes : List ℕ) (h : RequestHead) (n : ℕ) (after body kept : List ℕ) (left : Option (List ℕ)) (f f' : ℕ) (why : ReqNo)
    → HasHead bytes h after → head_answer h ≡ Ok n → FillsBody n after body kept left f f' (Err why) → ReadsNext bytes (Err why) kept left f f'
breaks-off bytes h n after body kept left f f' Malformed has e p = absurd p
breaks-off bytes h n after body kept left f f' HeadTooLong has e p = absurd p
breaks-off bytes h n after body kept left f f' TooManyHeaders has e p = absurd p
breaks-off bytes h n after body kept left f f' BodyTooLong has e p = absurd p
breaks-off bytes h n after body kept left f f' NeedsLength has e p = absurd p
breaks-off bytes h n after body kept left f f' CutShort has e p = (inr (h, after, n, has, e, p.0), p.1)
breaks-off bytes h n after body kept left f f' ReadFault has e p = (p.0, inr (inr (h, after, n, has, e, p.1)))
breaks-off bytes h n after body kept left f f' Memory has e p = absurd p

-- a head that isn't read
pub no-head : (bytes : List ℕ) (spans : List HeaderSpan) (left : Option (List ℕ)) (f f' : ℕ) (why : ReqNo)
    → ReadsHead bytes spans left f f' (Err why) → ReadsNext bytes (Err why) bytes left f f'
no-head bytes spans left f f' Malformed p = inl p
no-head bytes spans left f f' HeadTooLong p = inl p
no-head bytes spans left f f' TooManyHeaders p = inl p
no-head bytes spans left f f' BodyTooLong p = absurd p
no-head bytes spans left f f' NeedsLength p = absurd p
no-head bytes spans left f f' CutShort p = (inl p.0, p.1)
no-head bytes spans left f f' ReadFault p = (p.0, elim p.1 [ inl none ↦ inl none | inr ends ↦ inr (inl ends) ])
no-head bytes spans left f f' Memory p = refl

-- a whole request
pub reads-one : (bytes : List ℕ) (h : RequestHead) (after body kept : List ℕ) (req : Req)
    → HasHead bytes h after → after ≡ body ++ kept → head_answer h ≡ Ok (length body) → req ≡ request_of h [] → ReadsOne bytes (record req { body = body }) kept
reads-one bytes h after body kept req has e answer r = record {
  head = h;
  body = body;
  has_head = subst (λ a. HasHead bytes h a) e has;
  answer = answer;
  req_is = ap (λ (q : Req). record q { body = body }) r;
}

-- either all that was kept is in the body, or the body is whole with it
pub all_or_whole : (kept : List ℕ) (n whole : ℕ) → n ≡ min (length kept) whole → (length kept ≤ n) ⊎ (n ≡ whole)
all_or_whole kept n whole e = elim (eq-zero-or-pos (length kept - whole)) [ inl z ↦ inl (omega arith) | inr g ↦ inr (omega arith) ]
