-- Laws of sessions: the ends come exactly where they should.
use Rattle.std.specs.Prelude.{◌≡◌, ℕ, ◌-◌, ◌<◌, ◌⊎◌, Bool, false, true, List, [], ◌++◌, ◌∷◌, map, Some}
use Rattle.edge_io.specs.Counts.{Rose}
use Rattle.edge_io.specs.declared.clock.Reading.{Reading}
use Rattle.httparse.specs.Grammar.{EndsInTarget}
use Rattle.httparse.specs.Spans.{RequestExceeds}
use Rattle.http_read.specs.Heads.{most_fields}
use Rattle.http_read.specs.Requests.{ReadsSome, IsRefused, IsCutShort, front}
use Rattle.http_read.specs.declared.request.Req.{Req}
use Rattle.http_read.specs.declared.refusal.ReqNo.{ReqNo}
use Rattle.sess_turns.specs.Terms.{Terms}
use Rattle.sess_turns.specs.declared.ends.WatchEnd.{WatchEnd}
use Rattle.sess_serve.specs.Answers.{is_stream}
use Rattle.sess_serve.specs.Steps.{Exchange}
use Rattle.sess_serve.specs.Session.{requests_of}
use Rattle.sess_serve.specs.Ends.{Ended}
use Rattle.sess_serve.specs.declared.ends.SessionEnd.{SessionEnd}
use Rattle.sess_serve.specs.declared.ends.SessionEnd.TheVariants.{Done, Watched, CutShort, Refused, TooMany}

-- how an input ends a session whose ends don't fail: it was finished, or held as many requests as are allowed, or a
-- watch was served, or it was cut short, or goes on with what is no request
pub data Settled : Type 0 where
  finished full cut : Settled
  watched : WatchEnd → Settled
  refused : ReqNo → Settled

abbrev pub end_by : Settled → SessionEnd
end_by finished = Done
end_by full = TooMany
end_by cut = CutShort
end_by (watched how) = Watched how
end_by (refused fault) = Refused fault

-- a request, and whether it is answered by a stream
pub record Heard : Type 0 where
  pub request : Req
  pub streamed : Bool

abbrev pub heard : Exchange → Heard
heard e = record { request = e.request; streamed = is_stream e.answer }

abbrev pub requests_in : List Heard → List Req
requests_in hs = map (λ (h : Heard). h.request) hs

abbrev pub IsFinished : Settled → Type 0
IsFinished finished = Unit {0}
IsFinished other = ⊥

abbrev pub IsWatched : Settled → Type 0
IsWatched (watched how) = Unit {0}
IsWatched other = ⊥

-- a request that leaves the connection open, one with which it is finished, or one that is answered by a stream
abbrev pub StaysOpen : Heard → Type 0
StaysOpen h = (h.request.close ≡ false) × (h.streamed ≡ false)

abbrev pub IsFinishing : Heard → Type 0
IsFinishing h = (h.request.close ≡ true) × (h.streamed ≡ false)

-- What stands behind the answered requests, of which so many more are allowed, ends a session in that way.
abbrev pub EndsHere : ℕ → List ℕ → Settled → Type 0
EndsHere limit rest finished = (0 < limit) × (rest ≡ [])
EndsHere limit rest full = limit ≡ 0
EndsHere limit rest cut = (0 < limit) × IsCutShort rest
EndsHere limit rest (watched how) = ⊥
EndsHere limit rest (refused fault) = (0 < limit) × IsRefused rest fault

-- The requests stand in front of rest, and a session that answers at most so many ends with them in that way: only the
-- last may ask for the end of the connection, or be answered by a stream.
abbrev pub EndsWith : ℕ → List Heard → List ℕ → Settled → Type 0
EndsWith limit [] rest way = EndsHere limit rest way
EndsWith limit (h ∷ hs) rest way =
    (0 < limit)
    × ((StaysOpen h × EndsWith (limit - 1) hs rest way)
    ⊎ ((IsFinishing h × (hs ≡ []) × IsFinished way)
    ⊎ ((h.streamed ≡ true) × (hs ≡ []) × IsWatched way)))

-- Each session that ended so (`reads` and `ended` are the session's) did it by its whole input, the bytes that it
-- took and those that it left: every request up to the one that ended it is answered, and all of them where none did.
abbrev pub SessionsSettle : Type 0
SessionsSettle =
    (terms : Terms) (exchanges : List Exchange) (taken rest written left : List ℕ) (readings : List Reading) (a b c d : ℕ) (way : Settled)
    → ReadsSome taken (requests_of exchanges) rest
    → Ended terms exchanges rest
    (record { taken = taken; written = written; readings = readings; read_fault = Rose a b; write_fault = Rose c d; left = Some left }) (end_by way)
    → (behind : List ℕ) × ReadsSome (taken ++ left) (requests_in (map heard exchanges)) behind
    × EndsWith terms.settings.requests (map heard exchanges) behind way

-- as far as both lists go, the same requests are answered by streams
abbrev pub AgreeOnStreams : List Heard → List Heard → Type 0
AgreeOnStreams [] ys = Unit {0}
AgreeOnStreams (x ∷ xs) [] = Unit {0}
AgreeOnStreams (x ∷ xs) (y ∷ ys) = (x.streamed ≡ y.streamed) × AgreeOnStreams xs ys

-- the two ways are one: both watches, or equal; but of bytes that end in a target, or that have too many fields,
-- reading may tell either that they are refused or that they are cut short
abbrev pub AreOneWay : List ℕ → Settled → Settled → Type 0
AreOneWay rest v w =
    (v ≡ w) ⊎ ((IsWatched v × IsWatched w) ⊎ (EndsInTarget (front rest) ⊎ RequestExceeds most_fields (front rest)))

-- An input, and which of its requests are answered by streams, give one list of answered requests, and one way.
abbrev pub EndsAreExact : Type 0
EndsAreExact =
    (limit : ℕ) (input : List ℕ) (hs gs : List Heard) (x y : List ℕ) (v w : Settled)
    → ReadsSome input (requests_in hs) x → ReadsSome input (requests_in gs) y
    → EndsWith limit hs x v → EndsWith limit gs y w → AgreeOnStreams hs gs
    → (hs ≡ gs) × (x ≡ y) × AreOneWay x v w
