-- Heads of a peer's answers are read in one way.
use Rattle.std.proofs.Common.{◌≡◌, ℕ, ◌+◌, ◌-◌, ◌≤◌, ◌⊎◌, inl, inr, true, false, List, [], ◌++◌, length, take, refl, sym, ap, subst, ◌∙◌, arith, append_assoc, append-nil, length-append, eq-zero-or-pos}
use Rattle.std.specs.Prelude.{Option}
use Rattle.std.proofs.lemmas.List.{take-append-le, take_all}
use Rattle.std.proofs.Math.Seq.{take-append-add}
use Rattle.httparse.specs.Grammar.{ResponseHead, ReadsResponse, print_response, NeverHasResponse, HasNoResponse, status_code}
use Rattle.httparse.specs.Spans.{ResponseExceeds, ResponseOverflows}
use Rattle.httparse.proofs.GrammarLemmas.{response_unique, ReadsResponse-append}
use Rattle.http_read.specs.Heads.{most_head, most_fields}
use Rattle.http_read.specs.Requests.{front}
use Rattle.http_read.proofs.HeadLemmas.{front-short}
use Rattle.line_stream.specs.Heads.{HasResponse, BeginsChunks, IsOpenHead, IsNoHead, IsUnchunked, HasCode, RefusesResponse, is_chunked}
use Rattle.line_stream.specs.declared.refusal.LineNo.{LineNo}
use Rattle.line_stream.specs.declared.refusal.LineNo.TheVariants.{BadHead, Refused, BadChunk, Overlong, Unfinished, Spent, CutShort, ReadFault, Memory}
use Rattle.laws.specs.PeerHeads.{BodiesBeginOnce, BegunIsNotRefused, IsOfHead, HeadRefusalsStay, HeadRefusalsAgree, OpenIsNotRefused}

-- ---- heads in the front of some bytes

-- a head within the limit begins the front
in_front : (bytes : List ℕ) (h : ResponseHead) (after : List ℕ) → HasResponse bytes h after
    → ReadsResponse (front bytes ++ []) h (take (most_head - length (print_response h)) after ++ [])
in_front bytes h after x = ReadsResponse-append (front bytes) h (take (most_head - length (print_response h)) after) [] (
  x.reads.0,
  ap (take most_head) x.reads.1
      ∙ ap (λ (n : ℕ). take n (print_response h ++ after)) {x = most_head} {y = length (print_response h) + (most_head - length (print_response h))} (omega (arith, x.short))
      ∙ take-append-add (print_response h) after (most_head - length (print_response h)),
)

stays : (bytes more : List ℕ) (h : ResponseHead) (after : List ℕ) → HasResponse bytes h after → HasResponse (bytes ++ more) h (after ++ more)
stays bytes more h after x = record {
  reads = ReadsResponse-append bytes h after more x.reads;
  short = x.short;
  few_fields = x.few_fields;
}

-- the front of more bytes is the front of these and something more
front_grows : (bytes more : List ℕ) → (length bytes ≤ most_head) ⊎ (most_head ≤ length bytes) → (grown : List ℕ) × (front (bytes ++ more) ≡ front bytes ++ grown)
front_grows bytes more (inl short) = (
  take (most_head - length bytes) more,
  ap (λ (n : ℕ). take n (bytes ++ more)) {x = most_head} {y = length bytes + (most_head - length bytes)} (omega (arith, short))
      ∙ take-append-add bytes more (most_head - length bytes) ∙ ap (λ l. l ++ take (most_head - length bytes) more) (sym (take_all most_head bytes short)),
)
front_grows bytes more (inr long) = ([], take-append-le most_head bytes more long ∙ sym (append-nil (front bytes)))

either_long : (n m : ℕ) → (n ≤ m) ⊎ (m ≤ n)
either_long n m = elim (eq-zero-or-pos (n - m)) [ inl z ↦ inl (omega arith) | inr g ↦ inr (omega arith) ]

-- ---- a whole head excludes what isn't one

module _ (bytes : List ℕ) (h : ResponseHead) (after : List ℕ) (x : HasResponse bytes h after) where
  not_none : IsNoHead bytes → ⊥
  not_none (inl never) = never [] h _ (in_front bytes h after x)
  not_none (inr (inl late)) = late.1 h _ (subst (λ b. ReadsResponse b h (take (most_head - length (print_response h)) after ++ [])) (append-nil (front bytes)) (in_front bytes h after x))
  not_none (inr (inr many)) = absurd (omega (arith, x.few_fields, many.1 [] h _ (in_front bytes h after x)))

  not_open : IsOpenHead bytes → ⊥
  not_open unread = unread.1 h after x.reads

  -- and any other
  same_head : (other : ResponseHead) (behind : List ℕ) → HasResponse bytes other behind → other ≡ h
  same_head other behind y = (response_unique bytes other h behind after y.reads x.reads).0

true-false : true ≡ false → ⊥
true-false e = cc

-- ---- a chunked body begins

pub begins_once : BodiesBeginOnce
begins_once bytes more after x = (
  (x.0, stays bytes more x.0 after x.1, x.2, x.3),
  λ other y. (response_unique (bytes ++ more) y.0 x.0 other (after ++ more) y.1.reads (stays bytes more x.0 after x.1).reads).1,
)

not-refused : (bytes after : List ℕ) (left : Option (List ℕ)) (why : LineNo) → BeginsChunks bytes after → RefusesResponse bytes left why → why ≡ Memory
not-refused bytes after left BadHead x (inl none) = absurd (not_none bytes x.0 after x.1 none)
not-refused bytes after left BadHead x (inr plain) =
    absurd (true-false (sym x.3 ∙ ap is_chunked (sym (same_head bytes x.0 after x.1 plain.0 plain.1 plain.2)) ∙ plain.4))
not-refused bytes after left (Refused code) x other =
    absurd (other.4 (sym other.3 ∙ ap status_code (same_head bytes x.0 after x.1 other.0 other.1 other.2) ∙ x.2))
not-refused bytes after left BadChunk x none = absurd none
not-refused bytes after left Overlong x none = absurd none
not-refused bytes after left Unfinished x none = absurd none
not-refused bytes after left Spent x none = absurd none
not-refused bytes after left CutShort x none = absurd (not_open bytes x.0 after x.1 none.0)
not-refused bytes after left ReadFault x none = absurd (not_open bytes x.0 after x.1 none)
not-refused bytes after left Memory x none = refl

pub begun_is_not_refused : BegunIsNotRefused
begun_is_not_refused bytes more after left why x refused = not-refused (bytes ++ more) (after ++ more) left why (begins_once bytes more after x).0 refused

-- ---- refusals

no_head_stays : (bytes more : List ℕ) → IsNoHead bytes → IsNoHead (bytes ++ more)
no_head_stays bytes more none = by_case none
  where
    grows : (grown : List ℕ) × (front (bytes ++ more) ≡ front bytes ++ grown)
    grows = front_grows bytes more (either_long (length bytes) most_head)

    moved : (later : List ℕ) (h : ResponseHead) (rest : List ℕ) → ReadsResponse (front (bytes ++ more) ++ later) h rest → ReadsResponse (front bytes ++ (grows.0 ++ later)) h rest
    moved later h rest reads = subst (λ b. ReadsResponse b h rest) (ap (λ l. l ++ later) grows.1 ∙ append_assoc (front bytes) grows.0 later) reads

    never : NeverHasResponse (front bytes) → NeverHasResponse (front (bytes ++ more))
    never n later h rest reads = n (grows.0 ++ later) h rest (moved later h rest reads)

    overflows : ResponseOverflows most_fields (front bytes) → ResponseOverflows most_fields (front (bytes ++ more))
    overflows o later h rest reads = o (grows.0 ++ later) h rest (moved later h rest reads)

    exceeds : ResponseExceeds most_fields (front bytes) → ResponseExceeds most_fields (front (bytes ++ more))
    exceeds e = (e.0, e.1 ++ grows.0, grows.1 ∙ ap (λ l. l ++ grows.0) e.2 ∙ append_assoc e.0 e.1 grows.0, e.3, e.4, e.5)

    by_case : IsNoHead bytes → IsNoHead (bytes ++ more)
    by_case (inl n) = inl (never n)
    by_case (inr (inl late)) =
        inr (inl (omega (arith, late.0, length-append bytes more), subst (λ b. HasNoResponse b) (sym (take-append-le most_head bytes more late.0)) late.1))
    by_case (inr (inr many)) = inr (inr (exceeds many.0, overflows many.1))

bad_stays : (bytes more : List ℕ) → IsNoHead bytes ⊎ IsUnchunked bytes → IsNoHead (bytes ++ more) ⊎ IsUnchunked (bytes ++ more)
bad_stays bytes more (inl none) = inl (no_head_stays bytes more none)
bad_stays bytes more (inr plain) = inr (plain.0, plain.1 ++ more, stays bytes more plain.0 plain.1 plain.2, plain.3, plain.4)

code_stays : (bytes more : List ℕ) (code : ℕ) → HasCode bytes code → HasCode (bytes ++ more) code
code_stays bytes more code x = (x.0, x.1 ++ more, stays bytes more x.0 x.1 x.2, x.3, x.4)

pub refusals_stay : HeadRefusalsStay
refusals_stay bytes more left other why (inl bad) refused =
    subst (RefusesResponse (bytes ++ more) other) (sym bad) (bad_stays bytes more (subst (RefusesResponse bytes left) bad refused))
refusals_stay bytes more left other why (inr told) refused =
    subst (RefusesResponse (bytes ++ more) other) (sym told.1) (code_stays bytes more told.0 (subst (RefusesResponse bytes left) told.1 refused))

-- a whole head of another code isn't a bad one
not_bad : (bytes : List ℕ) (code : ℕ) → HasCode bytes code → IsNoHead bytes ⊎ IsUnchunked bytes → ⊥
not_bad bytes code x (inl none) = not_none bytes x.0 x.1 x.2 none
not_bad bytes code x (inr plain) = x.4 (sym x.3 ∙ ap status_code (sym (same_head bytes x.0 x.1 x.2 plain.0 plain.1 plain.2)) ∙ plain.3)

one_code : (bytes : List ℕ) (code other : ℕ) → HasCode bytes code → HasCode bytes other → other ≡ code
one_code bytes code other x y = sym y.3 ∙ ap status_code (same_head bytes x.0 x.1 x.2 y.0 y.1 y.2) ∙ x.3

one-refusal : (bytes : List ℕ) (left other : Option (List ℕ)) (why later : LineNo) → IsOfHead why → IsOfHead later → RefusesResponse bytes left why → RefusesResponse bytes other later → later ≡ why
one-refusal bytes left other why later (inl bad) (inl worse) x y = worse ∙ sym bad
one-refusal bytes left other why later (inl bad) (inr told) x y =
    absurd (not_bad bytes told.0 (subst (RefusesResponse bytes other) told.1 y) (subst (RefusesResponse bytes left) bad x))
one-refusal bytes left other why later (inr told) (inl bad) x y =
    absurd (not_bad bytes told.0 (subst (RefusesResponse bytes left) told.1 x) (subst (RefusesResponse bytes other) bad y))
one-refusal bytes left other why later (inr told) (inr again) x y =
    again.1 ∙ ap Refused (one_code bytes told.0 again.0 (subst (RefusesResponse bytes left) told.1 x) (subst (RefusesResponse bytes other) again.1 y)) ∙ sym told.1

pub refusals_agree : HeadRefusalsAgree
refusals_agree bytes more left other why later is also x y = one-refusal (bytes ++ more) other other why later is also (refusals_stay bytes more left other why is x) y

-- ---- a head that isn't whole yet

open_exceeds : (bytes : List ℕ) → IsOpenHead bytes → IsNoHead bytes → ResponseExceeds most_fields (front bytes)
open_exceeds bytes unread (inl never) =
    absurd (never unread.2.0 unread.2.1 [] (subst (λ b. ReadsResponse (b ++ unread.2.0) unread.2.1 []) (sym (front-short bytes unread.0)) unread.2.2))
open_exceeds bytes unread (inr (inl late)) = absurd (omega (arith, unread.0, late.0))
open_exceeds bytes unread (inr (inr many)) = many.0

pub open_is_not_refused : OpenIsNotRefused
open_is_not_refused bytes unread = (λ after x. not_open bytes x.0 after x.1 unread, by_why)
  where
    bad_exceeds : IsNoHead bytes ⊎ IsUnchunked bytes → ResponseExceeds most_fields (front bytes)
    bad_exceeds (inl none) = open_exceeds bytes unread none
    bad_exceeds (inr plain) = absurd (not_open bytes plain.0 plain.1 plain.2 unread)

    by_why : (left : Option (List ℕ)) (why : LineNo) → IsOfHead why → RefusesResponse bytes left why → (why ≡ BadHead) × ResponseExceeds most_fields (front bytes)
    by_why left why (inl bad) x = (bad, bad_exceeds (subst (RefusesResponse bytes left) bad x))
    by_why left why (inr told) x =
        let code = subst (RefusesResponse bytes left) told.1 x in absurd (not_open bytes code.0 code.1 code.2 unread)
