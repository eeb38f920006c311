-- The laws of sessions: ends come exactly where they should.
use Rattle.std.proofs.Common.{◌≡◌, ◌∙◌, ◌++◌, ◌⊎◌, ℕ, ◌-◌, ◌<◌, ◌≤◌, suc, true, List, [], ◌∷◌, length, Some, refl, sym, ap, subst, inl, inr, arith}
use Rattle.std.specs.Prelude.{map, All}
use Rattle.std.proofs.lemmas.List.{append-nil}
use Rattle.std.proofs.lemmas.List.Elements.{All-head, All-tail}
use Rattle.edge_io.specs.Counts.{Rose}
use Rattle.edge_io.specs.declared.clock.Reading.{Reading}
use Rattle.httparse.specs.Grammar.{EndsInTarget}
use Rattle.httparse.specs.Spans.{RequestExceeds}
use Rattle.http_read.specs.Heads.{most_fields}
use Rattle.http_read.specs.Requests.{ReadsOne, ReadsSome, IsCutShort, EndsAs, Ending, clean, cut_short, front}
use Rattle.http_read.specs.Requests.{refused as refused_so}
use Rattle.http_read.specs.declared.request.Req.{Req}
use Rattle.http_read.proofs.LawLemmas.{one-way, not-nothing, not-refused, not-cut-short, refusal-stays}
use Rattle.http_read.proofs.EndingLemmas.{some-stay, endings}
use Rattle.sess_turns.specs.Terms.{Terms}
use Rattle.sess_turns.specs.declared.ends.WatchEnd.{WatchEnd}
use Rattle.sess_serve.specs.Answers.{Answer, is_stream}
use Rattle.sess_serve.specs.Steps.{Exchange}
use Rattle.sess_serve.specs.Ends.{Stays, IsKeptOpen, Last, IsWatchEnd, Ended}
use Rattle.sess_serve.specs.Session.{requests_of}
use Rattle.sess_serve.specs.Laws.{SessionsSettle, EndsAreExact, Settled, finished, full, cut, watched, refused, end_by, Heard, heard, requests_in, StaysOpen, IsFinishing, IsFinished, IsWatched, EndsHere, EndsWith, AreOneWay}

-- ---- one input, one end

abbrev way_of : Ending → Settled
way_of clean = finished
way_of cut_short = cut
way_of (refused_so fault) = refused fault

one-ending : (x : List ℕ) (e f : Ending) → EndsAs x e → EndsAs x f → AreOneWay x (way_of e) (way_of f)
one-ending x e f p q = elim (endings x [] [] e f p q) [
  | inl same ↦ inl (ap way_of same)
  | inr ways ↦ inr (inr (subst (λ b. EndsInTarget (front b) ⊎ RequestExceeds most_fields (front b)) (sym ways.1) ways.2))
]

-- with no request in front
same-end : (limit : ℕ) (x : List ℕ) (v w : Settled) → EndsHere limit x v → EndsHere limit x w → AreOneWay x v w
same-end limit x finished finished h k = inl refl
same-end limit x finished full h k = let some : 0 < limit = h.0 in absurd (omega arith)
same-end limit x finished cut h k = one-ending x clean cut_short h.1 k.1
same-end limit x finished (watched how) h k = absurd k
same-end limit x finished (refused fault) h k = one-ending x clean (refused_so fault) h.1 k.1
same-end limit x full finished h k = let some : 0 < limit = k.0 in absurd (omega arith)
same-end limit x full full h k = inl refl
same-end limit x full cut h k = let some : 0 < limit = k.0 in absurd (omega arith)
same-end limit x full (watched how) h k = absurd k
same-end limit x full (refused fault) h k = let some : 0 < limit = k.0 in absurd (omega arith)
same-end limit x cut finished h k = one-ending x cut_short clean h.1 k.1
same-end limit x cut full h k = let some : 0 < limit = h.0 in absurd (omega arith)
same-end limit x cut cut h k = inl refl
same-end limit x cut (watched how) h k = absurd k
same-end limit x cut (refused fault) h k = one-ending x cut_short (refused_so fault) h.1 k.1
same-end limit x (watched how) w h k = absurd h
same-end limit x (refused fault) finished h k = one-ending x (refused_so fault) clean h.1 k.1
same-end limit x (refused fault) full h k = let some : 0 < limit = h.0 in absurd (omega arith)
same-end limit x (refused fault) cut h k = one-ending x (refused_so fault) cut_short h.1 k.1
same-end limit x (refused fault) (watched how) h k = absurd k
same-end limit x (refused fault) (refused other) h k = one-ending x (refused_so fault) (refused_so other) h.1 k.1

-- a session doesn't end where a request follows that may be answered
follows-apart : (limit : ℕ) (x : List ℕ) (v : Settled) (s : Req) (rest : List ℕ) → 0 < limit → ReadsOne x s rest → EndsHere limit x v → ⊥
follows-apart limit x finished s rest room one h = not-nothing x s rest one h.1
follows-apart limit x full s rest room one h = absurd (omega arith)
follows-apart limit x cut s rest room one h = not-cut-short x s rest one h.1
follows-apart limit x (watched how) s rest room one h = absurd h
follows-apart limit x (refused fault) s rest room one h = not-refused x s rest fault one h.1

heard-same : (a b : Heard) → a.request ≡ b.request → a.streamed ≡ b.streamed → a ≡ b
heard-same a b e f = λ i. record { request = e i; streamed = f i }

watched-both : (x : List ℕ) (v w : Settled) → IsWatched v → IsWatched w → AreOneWay x v w
watched-both x v w h k = inr (inl (h, k))

finished-both : (x : List ℕ) (v w : Settled) → IsFinished v → IsFinished w → AreOneWay x v w
finished-both x v w h k = grind arith

pub ends-exact : EndsAreExact
ends-exact limit input [] [] x y v w rx ry ex ey agree =
    (refl, sym rx ∙ ry, same-end limit x v w ex (subst (λ b. EndsHere limit b w) (sym ry ∙ rx) ey))
ends-exact limit input [] (s ∷ ss) x y v w rx ry ex ey agree =
    absurd (follows-apart limit x v s.request ry.0 ey.0 (subst (λ b. ReadsOne b s.request ry.0) rx ry.1) ex)
ends-exact limit input (r ∷ rs) [] x y v w rx ry ex ey agree =
    absurd (follows-apart limit y w r.request rx.0 ex.0 (subst (λ b. ReadsOne b r.request rx.0) ry rx.1) ey)
ends-exact limit input (r ∷ rs) (s ∷ ss) x y v w rx ry ex ey agree =
    heads (λ a b. ends-exact (limit - 1) rx.0 rs ss x y v w rx.2 (subst (λ i. ReadsSome i (requests_in ss) y) (sym same.1) ry.2) a b agree.1) ex.1 ey.1
  where
    same : (r.request ≡ s.request) × (rx.0 ≡ ry.0)
    same = one-way input r.request s.request rx.0 ry.0 rx.1 ry.1

    is : r ≡ s
    is = heard-same r s same.0 agree.0

    alike : rs ≡ [] → ss ≡ [] → (rs ≡ ss) × (x ≡ y)
    alike e f =
        let one : rx.0 ≡ x = subst (λ hs. ReadsSome rx.0 (requests_in hs) x) e rx.2 in
        let other : ry.0 ≡ y = subst (λ hs. ReadsSome ry.0 (requests_in hs) y) f ry.2 in
        (e ∙ sym f, sym one ∙ same.1 ∙ other)

    heads : (EndsWith (limit - 1) rs x v → EndsWith (limit - 1) ss y w → (rs ≡ ss) × (x ≡ y) × AreOneWay x v w)
        → (StaysOpen r × EndsWith (limit - 1) rs x v) ⊎ ((IsFinishing r × (rs ≡ []) × IsFinished v) ⊎ ((r.streamed ≡ true) × (rs ≡ []) × IsWatched v))
        → (StaysOpen s × EndsWith (limit - 1) ss y w) ⊎ ((IsFinishing s × (ss ≡ []) × IsFinished w) ⊎ ((s.streamed ≡ true) × (ss ≡ []) × IsWatched w))
        → ((r ∷ rs) ≡ (s ∷ ss)) × (x ≡ y) × AreOneWay x v w
    heads again a b = grind (arith, is, again, alike, finished-both x v w, watched-both x v w)

-- ---- from sessions

heard-of : (es : List Exchange) → requests_in (map heard es) ≡ requests_of es
heard-of [] = refl
heard-of (e ∷ es) = λ i. e.request ∷ heard-of es i

-- requests none of which ends the session, and then an end
ends-after : (limit : ℕ) (es : List Exchange) (rest : List ℕ) (way : Settled) → All Stays es → length es ≤ limit
    → EndsHere (limit - length es) rest way → EndsWith limit (map heard es) rest way
ends-after limit [] rest way stay few ends =
    let same : limit - 0 ≡ limit = omega arith in
    subst (λ n. EndsHere n rest way) same ends
ends-after limit (e ∷ es) rest way stay few ends =
    let first = All-head Stays e es stay in (
      omega arith,
      inl (
        (first.open_, first.by_reply),
        ends-after (limit - 1) es rest way (All-tail Stays e es stay) (omega arith)
            (let same : limit - suc (length es) ≡ (limit - 1) - length es = omega arith in subst (λ n. EndsHere n rest way) same ends),
      ),
    )

-- requests of which the last one ends it
ends-last : (limit : ℕ) (before : List Exchange) (last : Exchange) (rest : List ℕ) (way : Settled) → All Stays before → length before < limit
    → (IsFinishing (heard last) × IsFinished way) ⊎ ((is_stream last.answer ≡ true) × IsWatched way) → EndsWith limit (map heard (before ++ last ∷ [])) rest way
ends-last limit [] last rest way stay few (inl h) = (omega arith, inr (inl (h.0, refl, h.1)))
ends-last limit [] last rest way stay few (inr h) = (omega arith, inr (inr (h.0, refl, h.1)))
ends-last limit (e ∷ es) last rest way stay few how =
    let first = All-head Stays e es stay in
    (omega arith, inl ((first.open_, first.by_reply), ends-last (limit - 1) es last rest way (All-tail Stays e es stay) (omega arith) how))

ends-at : (terms : Terms) (es : List Exchange) (last : Last terms es) (rest : List ℕ) (way : Settled)
    → (IsFinishing (heard last.last) × IsFinished way) ⊎ ((is_stream last.last.answer ≡ true) × IsWatched way)
    → EndsWith terms.settings.requests (map heard es) rest way
ends-at terms es last rest way how =
    subst (λ l. EndsWith terms.settings.requests (map heard l) rest way) (sym last.parted)
    (ends-last terms.settings.requests last.before last.last rest way last.goes_on.stay last.goes_on.few how)

watch-streams : (answer : Answer) (how : WatchEnd) → IsWatchEnd answer how → is_stream answer ≡ true
watch-streams answer how h = grind arith

-- where the input is exhausted, what is left is nothing
goes-here : (terms : Terms) (es : List Exchange) (rest : List ℕ) (way : Settled) → IsKeptOpen terms es
    → (0 < terms.settings.requests - length es → EndsHere (terms.settings.requests - length es) rest way) → EndsWith terms.settings.requests (map heard es) rest way
goes-here terms es rest way goes ends =
    let few : length es < terms.settings.requests = goes.few in
    ends-after terms.settings.requests es rest way goes.stay (omega arith) (ends (omega arith))

cut-stays : (rest left : List ℕ) → IsCutShort rest → left ≡ [] → IsCutShort (rest ++ left)
cut-stays rest left h none = subst IsCutShort (sym (ap (λ l. rest ++ l) none ∙ append-nil rest)) h

settles : (terms : Terms) (es : List Exchange) (taken rest written left : List ℕ) (readings : List Reading) (a b c d : ℕ) (way : Settled)
    → Ended terms es rest (record { taken = taken; written = written; readings = readings; read_fault = Rose a b; write_fault = Rose c d; left = Some left }) (end_by way)
    → EndsWith terms.settings.requests (map heard es) (rest ++ left) way
settles terms es taken rest written left readings a b c d finished (out, inl closed) = ends-at terms es closed.0 (rest ++ left) finished (inl ((closed.1.closes, closed.1.by_reply), tt))
settles terms es taken rest written left readings a b c d finished (out, inr ended) =
    goes-here terms es (rest ++ left) finished ended.0 (λ room. (room, ap (λ r. r ++ left) ended.1 ∙ ended.2))
settles terms es taken rest written left readings a b c d full (out, stay, number) =
    let same : length es ≡ terms.settings.requests = number in
    ends-after terms.settings.requests es (rest ++ left) full stay (omega arith) (omega arith)
settles terms es taken rest written left readings a b c d cut (out, goes, short, exhausted) =
    goes-here terms es (rest ++ left) cut goes (λ room. (room, cut-stays rest left short exhausted))
settles terms es taken rest written left readings a b c d (watched how) ended =
    ends-at terms es ended.1.0 (rest ++ left) (watched how) (inr (watch-streams ended.1.0.last.answer how ended.1.1, tt))
settles terms es taken rest written left readings a b c d (refused fault) (out, goes, why) =
    goes-here terms es (rest ++ left) (refused fault) goes (λ room. (room, refusal-stays rest left fault why))

pub settle : SessionsSettle
settle terms es taken rest written left readings a b c d way reads ended = (
  rest ++ left,
  subst (λ rs. ReadsSome (taken ++ left) rs (rest ++ left)) (sym (heard-of es)) (some-stay taken left (requests_of es) rest reads),
  settles terms es taken rest written left readings a b c d way ended,
)
