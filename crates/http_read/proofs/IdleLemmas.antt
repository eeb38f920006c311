-- Where nothing is read.
use Rattle.std.proofs.Common.{◌≡◌, ℕ, ◌-◌, ◌<◌, ◌≤◌, List, [], ◌++◌, length, sym, ap, subst, ◌∙◌, arith, length-append, append-nil, drop, inl, inr, ◌⊎◌, eq-zero-or-pos}
use Rattle.std.specs.Prelude.{Option, Result, Ok, Err}
use Rattle.std.proofs.lemmas.List.{nil_from_length}
use Rattle.httparse.specs.Grammar.{RequestHead, HasNoRequest, MayBecomeRequest}
use Rattle.http_read.specs.Heads.{most_head}
use Rattle.http_read.specs.Requests.{HasHead, IsUnfinished, head_answer}
use Rattle.http_read.specs.Steps.{FillsBody, FindsHead}
use Rattle.httparse.specs.declared.spans.HeaderSpan.{HeaderSpan}
use Rattle.httparse.specs.declared.spans.RequestSpans.{RequestSpans}
use Rattle.http_read.proofs.BodyLemmas.{has-head}
use Rattle.http_read.specs.declared.refusal.ReqNo.{ReqNo}
use Rattle.http_read.specs.declared.refusal.ReqNo.TheVariants.{Malformed, HeadTooLong, TooManyHeaders, BodyTooLong, NeedsLength, CutShort, ReadFault, Memory}

-- of two cases the one that isn't excluded
pub other-case : {P Q : Type 0} → P ⊎ Q → (Q → ⊥) → P
other-case (inl p) never = p
other-case (inr q) never = absurd (never q)

-- an open head is unfinished
pub open-unfinished : (bytes : List ℕ) → (length bytes < most_head) × HasNoRequest bytes × MayBecomeRequest bytes → IsUnfinished bytes
open-unfinished bytes h = elim (eq-zero-or-pos (length bytes)) [
  | inl z ↦ inl (nil_from_length bytes z)
  | inr some ↦ inr (inl (some, h.0, h.1, h.2))
]

-- what was unfinished before more was read was so from the start
pub unfinished-before : {P : Type 0} (bytes kept first : List ℕ) → bytes ≡ kept
    → (length bytes < most_head) × HasNoRequest bytes × MayBecomeRequest bytes → ((kept ≡ first) × P) ⊎ IsUnfinished first → IsUnfinished first
unfinished-before bytes kept first e h (inl same) = subst IsUnfinished (e ∙ same.0) (open-unfinished bytes h)
unfinished-before bytes kept first e h (inr before) = before

-- nothing was taken, where what is kept stayed as it was
pub none-taken : (old new taken : List ℕ) → new ≡ old ++ taken → new ≡ old → taken ≡ []
none-taken old new taken e same = nil_from_length taken (omega (arith, ap length (sym same ∙ e), length-append old taken))

-- a body that is whole takes no more bytes
pub fills-nothing : (front taken body : List ℕ) (n : ℕ) (left : Option (List ℕ)) (f f' : ℕ) (r : Result (Unit {0}) ReqNo) → length front ≡ n
    → FillsBody n (front ++ taken) body [] left f f' r → taken ≡ []
fills-nothing front taken body n left f f' (Ok u) whole h =
    nil_from_length taken (omega (arith, ap length h.0, h.1, length-append front taken, length-append body [], whole))
fills-nothing front taken body n left f f' (Err CutShort) whole h = absurd (omega (arith, h.0, length-append front taken, whole))
fills-nothing front taken body n left f f' (Err ReadFault) whole h = absurd (omega (arith, h.1, length-append front taken, whole))
fills-nothing front taken body n left f f' (Err Malformed) whole h = absurd h
fills-nothing front taken body n left f f' (Err HeadTooLong) whole h = absurd h
fills-nothing front taken body n left f f' (Err TooManyHeaders) whole h = absurd h
fills-nothing front taken body n left f f' (Err BodyTooLong) whole h = absurd h
fills-nothing front taken body n left f f' (Err NeedsLength) whole h = absurd h
fills-nothing front taken body n left f f' (Err Memory) whole h = absurd h

-- where a head stands and nothing is unfinished, its body stands too
pub body-stands : (bytes : List ℕ) (h : RequestHead) (after : List ℕ) (n : ℕ) → HasHead bytes h after → head_answer h ≡ Ok n
    → (IsUnfinished bytes → ⊥) → n ≤ length after
body-stands bytes h after n has answer finished = elim (eq-zero-or-pos (n - length after)) [
  | inl z ↦ omega (arith, z)
  | inr short ↦ absurd (finished (inr (inr (h, after, n, has, answer, omega (arith, short)))))
]

-- the head that was found begins the bytes
pub head-here : (bytes : List ℕ) (spans : List HeaderSpan) (found : RequestSpans) (f : FindsHead bytes spans found)
    → HasHead bytes f.head (drop found.len bytes)
head-here bytes spans found f =
    subst (λ b. HasHead b f.head (drop found.len bytes)) (append-nil bytes)
    (subst (λ a. HasHead (bytes ++ []) f.head a) (append-nil (drop found.len bytes)) (has-head bytes [] spans found f))
