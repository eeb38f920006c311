-- The laws of the reading of requests.
use Rattle.std.proofs.Common.{◌≡◌, ℕ, ◌+◌, ◌-◌, ◌≤◌, List, [], ◌∷◌, ◌++◌, length, take, drop, refl, sym, ap, subst, ◌∙◌, arith, append_assoc, append-nil, length-append, inl, inr, ⊎_elim, ◌⊎◌, eq-zero-or-pos}
use Rattle.std.specs.Prelude.{Result, Ok, Err}
use Rattle.std.proofs.lemmas.List.{take-append-le, take_all, take_at, drop_at}
use Rattle.std.proofs.Math.Seq.{take-append-add}
use Rattle.httparse.specs.Grammar.{RequestHead, ReadsRequest, print_request, print_blank, print_version, print_end, print_section, NeverHasRequest, HasNoRequest, MayBecomeRequest}
use Rattle.httparse.specs.Spans.{RequestExceeds, RequestOverflows}
use Rattle.httparse.proofs.GrammarLemmas.{request_unique, ReadsRequest-append, print_request-append}
use Rattle.http_read.specs.Heads.{most_head, most_fields}
use Rattle.http_read.specs.Requests.{front, HasHead, ReadsOne, RefusesHead, EndsAs, ReadsRequests, Ending, clean, cut_short, refused, head_answer, request_of}
use Rattle.http_read.specs.Laws.{ReadsInOneWay, WholeIsNotRefused, WholeIsNotCutShort, WholeStays, RefusalStays, RequestsAreDetermined}
use Rattle.http_read.specs.declared.request.Req.{Req}
use Rattle.http_read.specs.declared.refusal.ReqNo.{ReqNo}
use Rattle.http_read.specs.declared.refusal.ReqNo.TheVariants.{Malformed, HeadTooLong, TooManyHeaders, BodyTooLong, NeedsLength, CutShort, ReadFault, Memory}

-- two parts of one length in front of one list are equal
fronts_equal : (a b c d : List ℕ) → a ++ b ≡ c ++ d → length a ≡ length c → (a ≡ c) × (b ≡ d)
fronts_equal a b c d e l =
    (sym (take_at a b (length c) l) ∙ ap (take (length c)) e ∙ take_at c d (length c) refl, sym (drop_at a b (length c) l) ∙ ap (drop (length c)) e ∙ drop_at c d (length c) refl)

ok_equal : (r : Result ℕ ReqNo) (m n : ℕ) → r ≡ Ok m → r ≡ Ok n → m ≡ n
ok_equal r m n p q = cc

pub not_both : (r : Result ℕ ReqNo) (n : ℕ) (why : ReqNo) → r ≡ Ok n → r ≡ Err why → ⊥
not_both r n why p q = cc

pub one-way : ReadsInOneWay
one-way bytes req other rest behind x y =
    let same = request_unique bytes x.head y.head (x.body ++ rest) (y.body ++ behind) x.has_head.reads y.has_head.reads in
    let long = ok_equal (head_answer x.head) (length x.body) (length y.body) x.answer (ap head_answer same.0 ∙ y.answer) in
    let parts = fronts_equal x.body rest y.body behind same.1 long in
    (x.req_is ∙ ap (λ h. request_of h x.body) same.0 ∙ ap (request_of y.head) parts.0 ∙ sym y.req_is, parts.1)

-- a head within the limit begins the front
pub has-front : (bytes : List ℕ) (h : RequestHead) (after : List ℕ) → HasHead bytes h after
    → ReadsRequest (front bytes) h (take (most_head - length (print_request h)) after)
has-front bytes h after x = (
  x.reads.0,
  ap (take most_head) x.reads.1
      ∙ ap (λ (n : ℕ). take n (print_request h ++ after)) {x = most_head} {y = length (print_request h) + (most_head - length (print_request h))} (omega (arith, x.short))
      ∙ take-append-add (print_request h) after (most_head - length (print_request h)),
)

pub not-refused : WholeIsNotRefused
not-refused bytes req rest why x refusal =
    let reads = has-front bytes x.head (x.body ++ rest) x.has_head in
    ⊎_elim (by_head why reads)
    (λ b. let same = request_unique bytes x.head b.0 (x.body ++ rest) b.1 x.has_head.reads b.2.reads in
    not_both (head_answer x.head) (length x.body) why x.answer (ap head_answer same.0 ∙ b.3))
    refusal
  where
    by_head : (why : ReqNo) → ReadsRequest (front bytes) x.head (take (most_head - length (print_request x.head)) (x.body ++ rest)) → RefusesHead bytes why → ⊥
    by_head Malformed reads never = never [] x.head _ (ReadsRequest-append (front bytes) x.head _ [] reads)
    by_head HeadTooLong reads r = r.1 x.head _ reads
    by_head TooManyHeaders reads r = absurd (omega (arith, x.has_head.few_fields, r.1 [] x.head _ (ReadsRequest-append (front bytes) x.head _ [] reads)))
    by_head BodyTooLong reads r = r
    by_head NeedsLength reads r = r
    by_head CutShort reads r = r
    by_head ReadFault reads r = r
    by_head Memory reads r = r

pub not-cut-short : WholeIsNotCutShort
not-cut-short bytes req rest x short =
    ⊎_elim (λ h. h.2 x.head (x.body ++ rest) x.has_head.reads)
    (λ b. let same = request_unique bytes x.head b.0 (x.body ++ rest) b.1 x.has_head.reads b.3.reads in
    let long = ok_equal (head_answer x.head) (length x.body) b.2 x.answer (ap head_answer same.0 ∙ b.4) in
    absurd (omega (arith, b.5, long, ap length same.1, length-append x.body rest)))
    short

head-stays : (bytes more : List ℕ) (h : RequestHead) (after : List ℕ) → HasHead bytes h after → HasHead (bytes ++ more) h (after ++ more)
head-stays bytes more h after x = record {
  reads = ReadsRequest-append bytes h after more x.reads;
  short = x.short;
  few_fields = x.few_fields;
}

pub whole-stays : WholeStays
whole-stays bytes more req rest x = record {
  head = x.head;
  body = x.body;
  has_head = subst (λ a. HasHead (bytes ++ more) x.head a) (append_assoc x.body rest more) (head-stays bytes more x.head (x.body ++ rest) x.has_head);
  answer = x.answer;
  req_is = x.req_is;
}

-- the front of more bytes is the front of these and something more
front-grows : (bytes more : List ℕ) → (length bytes ≤ most_head) ⊎ (most_head ≤ length bytes) → (grown : List ℕ) × (front (bytes ++ more) ≡ front bytes ++ grown)
front-grows bytes more (inl short) = (
  take (most_head - length bytes) more,
  ap (λ (n : ℕ). take n (bytes ++ more)) {x = most_head} {y = length bytes + (most_head - length bytes)} (omega (arith, short))
      ∙ take-append-add bytes more (most_head - length bytes) ∙ ap (λ l. l ++ take (most_head - length bytes) more) (sym (take_all most_head bytes short)),
)
front-grows bytes more (inr long) = ([], take-append-le most_head bytes more long ∙ sym (append-nil (front bytes)))

either_long : (n m : ℕ) → (n ≤ m) ⊎ (m ≤ n)
either_long n m = elim (eq-zero-or-pos (n - m)) [ inl z ↦ inl (omega arith) | inr g ↦ inr (omega arith) ]

pub refusal-stays : RefusalStays
refusal-stays bytes more why refusal =
    ⊎_elim (λ r. inl (by_head why r)) (λ b. inr (b.0, b.1 ++ more, head-stays bytes more b.0 b.1 b.2, b.3)) refusal
  where
    grows : (grown : List ℕ) × (front (bytes ++ more) ≡ front bytes ++ grown)
    grows = front-grows bytes more (either_long (length bytes) most_head)

    never : NeverHasRequest (front bytes) → NeverHasRequest (front (bytes ++ more))
    never h later head rest reads =
        h (grows.0 ++ later) head rest (subst (λ b. ReadsRequest b head rest) (ap (λ l. l ++ later) grows.1 ∙ append_assoc (front bytes) grows.0 later) reads)

    overflows : RequestOverflows most_fields (front bytes) → RequestOverflows most_fields (front (bytes ++ more))
    overflows h later head rest reads =
        h (grows.0 ++ later) head rest (subst (λ b. ReadsRequest b head rest) (ap (λ l. l ++ later) grows.1 ∙ append_assoc (front bytes) grows.0 later) reads)

    exceeds : RequestExceeds most_fields (front bytes) → RequestExceeds most_fields (front (bytes ++ more))
    exceeds h = (h.0, h.1 ++ grows.0, grows.1 ∙ ap (λ l. l ++ grows.0) h.2 ∙ append_assoc h.0 h.1 grows.0, h.3, h.4, h.5)

    by_head : (why : ReqNo) → RefusesHead bytes why → RefusesHead (bytes ++ more) why
    by_head Malformed r = never r
    by_head HeadTooLong r =
        let same = sym (take-append-le most_head bytes more r.0) in
        (omega (arith, r.0, length-append bytes more), subst (λ b. HasNoRequest b) same r.1, subst (λ b. MayBecomeRequest b) same r.2)
    by_head TooManyHeaders r = (exceeds r.0, overflows r.1)
    by_head BodyTooLong r = r
    by_head NeedsLength r = r
    by_head CutShort r = r
    by_head ReadFault r = r
    by_head Memory r = r

-- a whole request has bytes
pub not-nothing : (bytes : List ℕ) (req : Req) (rest : List ℕ) → ReadsOne bytes req rest → bytes ≡ [] → ⊥
not-nothing bytes req rest x none =
    let h = x.head in
    let behind = h.target ++ 32 ∷ (print_version h.minor ++ (print_end h.line_end ++ (print_section h.fields h.last ++ (x.body ++ rest)))) in
    absurd (omega (
      arith,
      ap length (sym none ∙ x.has_head.reads.1 ∙ print_request-append h (x.body ++ rest)),
      length-append (print_blank h.blank) (h.method ++ 32 ∷ behind),
      length-append h.method (32 ∷ behind),
      x.has_head.reads.0.method.0,
    ))

-- where no whole request is in front, none is
pub ends-apart : (bytes : List ℕ) (ending : Ending) (req : Req) (rest : List ℕ) → EndsAs bytes ending → ReadsOne bytes req rest → ⊥
ends-apart bytes clean req rest e x = not-nothing bytes req rest x e
ends-apart bytes cut_short req rest e x = not-cut-short bytes req rest x e
ends-apart bytes (refused why) req rest e x = not-refused bytes req rest why x e

pub determined : RequestsAreDetermined
determined bytes [] [] ending end p q = refl
determined bytes [] (other ∷ others) ending end p q = absurd (ends-apart bytes ending other q.0 p q.1)
determined bytes (req ∷ reqs) [] ending end p q = absurd (ends-apart bytes end req p.0 q p.1)
determined bytes (req ∷ reqs) (other ∷ others) ending end p q =
    let same = one-way bytes req other p.0 q.0 p.1 q.1 in
    let later = determined q.0 reqs others ending end (subst (λ b. ReadsRequests b reqs ending) same.1 p.2) q.2 in
    ap (λ r. r ∷ reqs) same.0 ∙ ap (λ l. other ∷ l) later
