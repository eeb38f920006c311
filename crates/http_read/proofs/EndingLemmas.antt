-- How rows of requests end, and how they go on.
use Rattle.std.proofs.Common.{◌≡◌, ℕ, ◌-◌, ◌<◌, List, [], ◌∷◌, ◌++◌, length, take, refl, sym, ap, subst, ◌∙◌, arith, append-nil, length-append, inl, inr, ⊎_elim, ◌⊎◌, eq-zero-or-pos, take_all, true, lit≤}
use Rattle.std.proofs.lemmas.List.{nil_from_length}
use Rattle.std.proofs.lemmas.List.Elements.{All-push, All-nil}
use Rattle.std.proofs.lemmas.Str.{IsUtf8-from_ascii}
use Rattle.std.proofs.lemmas.Str.Ascii.{IsAscii-cons, IsAscii-nil}
use Rattle.httparse.proofs.OpenLemmas.{letter_is_token}
use Rattle.std.specs.Prelude.{Result, Ok, Err}
use Rattle.httparse.specs.Grammar.{RequestHead, ReadsRequest, IsRequestHead, print_request, print_blank, print_version, print_end, print_section, NeverHasRequest, MayBecomeRequest, EndsInTarget, is_token_byte, is_uri_byte, lf}
use Rattle.httparse.proofs.GrammarLemmas.{request_unique, ReadsRequest-append, print_request-append}
use Rattle.httparse.specs.Spans.{RequestExceeds}
use Rattle.http_read.specs.Heads.{most_head, most_fields}
use Rattle.http_read.specs.Requests.{front, HasHead, RefusesHead, IsRefused, IsCutShort, EndsInHead, EndsAs, ReadsRequests, ReadsSome, Ending, clean, cut_short, refused, head_answer}
use Rattle.http_read.specs.Laws.{NothingStands, WholeIsNotUnfinished, RequestsStay, RequestsAgree, RefusedIsNotUnfinished, EndingsAreDetermined}
use Rattle.http_read.specs.declared.refusal.ReqNo.{ReqNo}
use Rattle.http_read.specs.declared.refusal.ReqNo.TheVariants.{Malformed, HeadTooLong, TooManyHeaders, BodyTooLong, NeedsLength, CutShort, ReadFault, Memory}
use Rattle.http_read.proofs.HeadLemmas.{front-short}
use Rattle.http_read.proofs.LawLemmas.{one-way, not-cut-short, whole-stays, has-front, not-nothing, not_both, ends-apart}

-- a head has at least two bytes
pub head-long : (bytes : List ℕ) (h : RequestHead) (after : List ℕ) → ReadsRequest bytes h after → 1 < length bytes
head-long bytes h after reads =
    let behind = h.target ++ 32 ∷ (print_version h.minor ++ (print_end h.line_end ++ (print_section h.fields h.last ++ after))) in
    omega (
      arith,
      ap length (reads.1 ∙ print_request-append h after),
      length-append (print_blank h.blank) (h.method ++ 32 ∷ behind),
      length-append h.method (32 ∷ behind),
      reads.0.method.0,
    )

-- where a whole request stands, nothing is unfinished
pub not-unfinished : WholeIsNotUnfinished
not-unfinished bytes req rest x unfinished =
    ⊎_elim (λ none. not-nothing bytes req rest x none) (λ short. not-cut-short bytes req rest x short) unfinished

-- bytes that follow don't change the requests
pub some-stay : RequestsStay
some-stay bytes more [] left e = ap (λ b. b ++ more) e
some-stay bytes more (req ∷ reqs) left r = (r.0 ++ more, whole-stays bytes more req r.0 r.1, some-stay r.0 more reqs left r.2)

-- of two lists one is a beginning of the other
pub agree : RequestsAgree
agree bytes [] others left behind p q = inr (others, refl, subst (λ b. ReadsSome b others behind) p q)
agree bytes (req ∷ reqs) [] left behind p q = inl (req ∷ reqs, refl, subst (λ b. ReadsSome b (req ∷ reqs) left) q p)
agree bytes (req ∷ reqs) (other ∷ others) left behind p q =
    let same = one-way bytes req other p.0 q.0 p.1 q.1 in
    let later = agree q.0 reqs others left behind (subst (λ b. ReadsSome b reqs left) same.1 p.2) q.2 in
    elim later [
      | inl g ↦ inl (g.0, ap (λ r. r ∷ reqs) same.0 ∙ ap (λ l. other ∷ l) g.1, g.2)
      | inr g ↦ inr (g.0, ap (λ r. r ∷ others) (sym same.0) ∙ ap (λ l. req ∷ l) g.1, g.2)
    ]

-- a head that stands isn't refused as one that doesn't
pub head-stands : (bytes : List ℕ) (h : RequestHead) (after : List ℕ) → HasHead bytes h after → (why : ReqNo) → RefusesHead bytes why → ⊥
head-stands bytes h after x why refusal = by_head why refusal
  where
    reads : ReadsRequest (front bytes) h (take (most_head - length (print_request h)) after)
    reads = has-front bytes h after x

    by_head : (why : ReqNo) → RefusesHead bytes why → ⊥
    by_head Malformed never = never [] h _ (ReadsRequest-append (front bytes) h _ [] reads)
    by_head HeadTooLong r = r.1 h _ reads
    by_head TooManyHeaders r = absurd (omega (arith, x.few_fields, r.1 [] h _ (ReadsRequest-append (front bytes) h _ [] reads)))
    by_head BodyTooLong r = r
    by_head NeedsLength r = r
    by_head CutShort r = r
    by_head ReadFault r = r
    by_head Memory r = r

-- a head of a few bytes
abbrev some_head : RequestHead
some_head = record { blank = []; method = 65 ∷ []; target = 47 ∷ []; minor = 1; line_end = lf; fields = []; last = lf }

some_head_is : IsRequestHead some_head
some_head_is = record {
  method = (omega arith, All-push (λ v. is_token_byte v ≡ true) [] 65 (All-nil _) letter_is_token);
  target = (omega arith, All-push (λ v. is_uri_byte v ≡ true) [] 47 (All-nil _) refl);
  target_text = IsUtf8-from_ascii _ (IsAscii-cons 47 [] (omega arith) IsAscii-nil);
  minor = lit≤ tt;
  fields = All-nil _;
}

-- no bytes may be gone on to a head
nothing-may : NeverHasRequest (front []) → ⊥
nothing-may never =
    never (print_request some_head) some_head [] (some_head_is, ap (λ l. l ++ print_request some_head) (take_all most_head [] (omega arith)) ∙ sym (append-nil (print_request some_head)))

no-head-in-nothing : (h : RequestHead) (after : List ℕ) → ReadsRequest [] h after → ⊥
no-head-in-nothing h after reads = absurd (omega (arith, head-long [] h after reads))

pub nothing-stands : NothingStands
nothing-stands = (
  λ req rest x. not-nothing [] req rest x refl,
  λ why r. ⊎_elim (by_head why) (λ b. no-head-in-nothing b.0 b.1 b.2.reads) r,
  λ short. ⊎_elim (λ h. absurd (omega (arith, h.0))) (λ b. no-head-in-nothing b.0 b.1 b.3.reads) short,
)
  where
    by_head : (why : ReqNo) → RefusesHead [] why → ⊥
    by_head Malformed never = nothing-may never
    by_head HeadTooLong r = absurd (omega (arith, r.0))
    by_head TooManyHeaders r =
        let e = r.0 in
        absurd (omega (
          arith,
          head-long (e.0 ++ print_end lf) e.3 [] e.4,
          length-append e.0 (print_end lf),
          ap length (sym (take_all most_head [] (omega arith)) ∙ e.2),
          length-append e.0 e.1,
        ))
    by_head BodyTooLong r = r
    by_head NeedsLength r = r
    by_head CutShort r = r
    by_head ReadFault r = r
    by_head Memory r = r

-- how bytes end in which a whole head stands, by what it says of its body
abbrev ending_of : Result ℕ ReqNo → Ending
ending_of (Ok n) = cut_short
ending_of (Err why) = refused why

-- the bytes end so in a head that isn't whole
abbrev OpenAs : List ℕ → Ending → Type 0
OpenAs bytes clean = ⊥
OpenAs bytes cut_short = EndsInHead bytes
OpenAs bytes (refused why) = RefusesHead bytes why

-- nothing is left, or no whole head stands, or one does and decides
abbrev Described : List ℕ → Ending → Type 0
Described bytes ending =
    ((bytes ≡ []) × (ending ≡ clean))
    ⊎ (OpenAs bytes ending ⊎ ((h : RequestHead) × (after : List ℕ) × HasHead bytes h after × (ending ≡ ending_of (head_answer h))))

described : (bytes : List ℕ) (ending : Ending) → EndsAs bytes ending → Described bytes ending
described bytes clean e = inl (e, refl)
described bytes cut_short (inl h) = inr (inl h)
described bytes cut_short (inr b) = inr (inr (b.0, b.1, b.3, sym (ap ending_of b.4)))
described bytes (refused why) (inl r) = inr (inl r)
described bytes (refused why) (inr b) = inr (inr (b.0, b.1, b.2, sym (ap ending_of b.3)))

-- where a head isn't whole, no whole head stands
open-alone : (bytes : List ℕ) (ending : Ending) (h : RequestHead) (after : List ℕ) → OpenAs bytes ending → HasHead bytes h after → ⊥
open-alone bytes clean h after p x = p
open-alone bytes cut_short h after p x = p.2 h after x.reads
open-alone bytes (refused why) h after p x = head-stands bytes h after x why p

-- what may be told in two ways: the end of a target hasn't come, or there are more than 64 fields
abbrev TwoWays : List ℕ → Type 0
TwoWays bytes = EndsInTarget (front bytes) ⊎ RequestExceeds most_fields (front bytes)

-- a head that can't be completed may only end in its target, if it may be gone on with
may-not-become : {P : Type 0} (text : List ℕ) → NeverHasRequest text → MayBecomeRequest text → (EndsInTarget text → P) → P
may-not-become text never (inl m) then_p = absurd (never m.0 m.1 [] m.2)
may-not-become text never (inr t) then_p = then_p t

-- an open head that is also refused
cut-and-refused : (bytes : List ℕ) (why : ReqNo) → EndsInHead bytes → RefusesHead bytes why
    → ((why ≡ Malformed) × EndsInTarget bytes) ⊎ ((why ≡ TooManyHeaders) × RequestExceeds most_fields (front bytes))
cut-and-refused bytes Malformed p never =
    may-not-become bytes (subst NeverHasRequest (front-short bytes p.1) never) p.3 (λ t. inl (refl, t))
cut-and-refused bytes HeadTooLong p r = absurd (omega (arith, p.1, r.0))
cut-and-refused bytes TooManyHeaders p r = inr (refl, r.0)
cut-and-refused bytes BodyTooLong p r = absurd r
cut-and-refused bytes NeedsLength p r = absurd r
cut-and-refused bytes CutShort p r = absurd r
cut-and-refused bytes ReadFault p r = absurd r
cut-and-refused bytes Memory p r = absurd r

either-way : (bytes : List ℕ) (why : ReqNo) → EndsInHead bytes
    → ((why ≡ Malformed) × EndsInTarget bytes) ⊎ ((why ≡ TooManyHeaders) × RequestExceeds most_fields (front bytes)) → TwoWays bytes
either-way bytes why p (inl t) = inl (subst EndsInTarget (sym (front-short bytes p.1)) t.1)
either-way bytes why p (inr e) = inr e.1

-- two refusals of one head
refusals : (bytes : List ℕ) (why other : ReqNo) → RefusesHead bytes why → RefusesHead bytes other → (why ≡ other) ⊎ TwoWays bytes
refusals bytes TooManyHeaders other p q = inr (inr p.0)
refusals bytes Malformed Malformed p q = inl refl
refusals bytes Malformed HeadTooLong p q = may-not-become (front bytes) p q.2 (λ t. inr (inl t))
refusals bytes Malformed TooManyHeaders p q = inr (inr q.0)
refusals bytes Malformed BodyTooLong p q = absurd q
refusals bytes Malformed NeedsLength p q = absurd q
refusals bytes Malformed CutShort p q = absurd q
refusals bytes Malformed ReadFault p q = absurd q
refusals bytes Malformed Memory p q = absurd q
refusals bytes HeadTooLong Malformed p q = may-not-become (front bytes) q p.2 (λ t. inr (inl t))
refusals bytes HeadTooLong HeadTooLong p q = inl refl
refusals bytes HeadTooLong TooManyHeaders p q = inr (inr q.0)
refusals bytes HeadTooLong BodyTooLong p q = absurd q
refusals bytes HeadTooLong NeedsLength p q = absurd q
refusals bytes HeadTooLong CutShort p q = absurd q
refusals bytes HeadTooLong ReadFault p q = absurd q
refusals bytes HeadTooLong Memory p q = absurd q
refusals bytes BodyTooLong other p q = absurd p
refusals bytes NeedsLength other p q = absurd p
refusals bytes CutShort other p q = absurd p
refusals bytes ReadFault other p q = absurd p
refusals bytes Memory other p q = absurd p

-- two endings in one head that isn't whole
open-apart : (bytes : List ℕ) (ending end : Ending) → OpenAs bytes ending → OpenAs bytes end → (ending ≡ end) ⊎ TwoWays bytes
open-apart bytes clean end p q = absurd p
open-apart bytes cut_short clean p q = absurd q
open-apart bytes cut_short cut_short p q = inl refl
open-apart bytes cut_short (refused why) p q = inr (either-way bytes why p (cut-and-refused bytes why p q))
open-apart bytes (refused why) clean p q = absurd q
open-apart bytes (refused why) cut_short p q = inr (either-way bytes why q (cut-and-refused bytes why q p))
open-apart bytes (refused why) (refused other) p q =
    elim (refusals bytes why other p q) [ inl e ↦ inl (ap refused e) | inr ways ↦ inr ways ]

-- what is empty ends clean
empty-clean : (bytes : List ℕ) (ending : Ending) → bytes ≡ [] → EndsAs bytes ending → ending ≡ clean
empty-clean bytes clean none e = refl
empty-clean bytes cut_short none e = absurd (nothing-stands.2 (subst IsCutShort none e))
empty-clean bytes (refused why) none e = absurd (nothing-stands.1 why (subst (λ b. IsRefused b why) none e))

-- two endings of the same bytes
same-ending : (bytes : List ℕ) (ending end : Ending) → EndsAs bytes ending → EndsAs bytes end → (ending ≡ end) ⊎ TwoWays bytes
same-ending bytes ending end p q = elim (eq-zero-or-pos (length bytes)) [
  | inl z ↦ let none = nil_from_length bytes z in inl (empty-clean bytes ending none p ∙ sym (empty-clean bytes end none q))
  | inr some ↦ both some (described bytes ending p) (described bytes end q)
]
  where
    both : 0 < length bytes → Described bytes ending → Described bytes end → (ending ≡ end) ⊎ TwoWays bytes
    both some (inl a) y = absurd (omega (arith, some, ap length a.0))
    both some (inr x) (inl a) = absurd (omega (arith, some, ap length a.0))
    both some (inr (inl x)) (inr (inl y)) = open-apart bytes ending end x y
    both some (inr (inl x)) (inr (inr y)) = absurd (open-alone bytes ending y.0 y.1 x y.2)
    both some (inr (inr x)) (inr (inl y)) = absurd (open-alone bytes end x.0 x.1 y x.2)
    both some (inr (inr x)) (inr (inr y)) =
        let same = request_unique bytes x.0 y.0 x.1 y.1 x.2.reads y.2.reads in
        inl (x.3 ∙ ap (λ h. ending_of (head_answer h)) same.0 ∙ sym y.3)

pub endings : EndingsAreDetermined
endings bytes [] [] ending end p q = elim (same-ending bytes ending end p q) [
  | inl e ↦ inl e
  | inr ways ↦ inr (bytes, refl, ways)
]
endings bytes [] (other ∷ others) ending end p q = absurd (ends-apart bytes ending other q.0 p q.1)
endings bytes (req ∷ reqs) [] ending end p q = absurd (ends-apart bytes end req p.0 q p.1)
endings bytes (req ∷ reqs) (other ∷ others) ending end p q =
    let same = one-way bytes req other p.0 q.0 p.1 q.1 in
    let later = endings p.0 reqs others ending end p.2 (subst (λ b. ReadsRequests b others end) (sym same.1) q.2) in
    elim later [
      | inl e ↦ inl e
      | inr ways ↦ inr (ways.0, (p.0, p.1, ways.1), ways.2)
    ]

-- what is refused isn't unfinished
pub refused-finished : RefusedIsNotUnfinished
refused-finished bytes why r (inl none) = absurd (nothing-stands.1 why (subst (λ b. IsRefused b why) none r))
refused-finished bytes why (inl r) (inr (inl p)) = cut-and-refused bytes why p r
refused-finished bytes why (inl r) (inr (inr b)) = absurd (head-stands bytes b.0 b.1 b.3 why r)
refused-finished bytes why (inr b) (inr (inl p)) = absurd (p.2 b.0 b.1 b.2.reads)
refused-finished bytes why (inr b) (inr (inr c)) =
    let same = request_unique bytes b.0 c.0 b.1 c.1 b.2.reads c.3.reads in
    absurd (not_both (head_answer c.0) c.2 why c.4 (ap head_answer (sym same.0) ∙ b.3))
