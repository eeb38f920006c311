-- Laws of the reading of requests.
use Rattle.std.specs.Prelude.{◌≡◌, ℕ, ◌⊎◌, List, [], ◌++◌}
use Rattle.http_read.specs.Requests.{ReadsOne, IsRefused, IsCutShort, IsUnfinished, front, ReadsRequests, ReadsSome, Ending}
use Rattle.httparse.specs.Grammar.{EndsInTarget}
use Rattle.httparse.specs.Spans.{RequestExceeds}
use Rattle.http_read.specs.Heads.{most_fields}
use Rattle.http_read.specs.declared.request.Req.{Req}
use Rattle.http_read.specs.declared.refusal.ReqNo.{ReqNo}
use Rattle.http_read.specs.declared.refusal.ReqNo.TheVariants.{Malformed, TooManyHeaders}

-- bytes begin with one request at most
abbrev pub ReadsInOneWay : Type 0
ReadsInOneWay = (bytes : List ℕ) (req other : Req) (rest behind : List ℕ) → ReadsOne bytes req rest → ReadsOne bytes other behind → (req ≡ other) × (rest ≡ behind)

-- a whole request is neither refused nor cut short
abbrev pub WholeIsNotRefused : Type 0
WholeIsNotRefused = (bytes : List ℕ) (req : Req) (rest : List ℕ) (why : ReqNo) → ReadsOne bytes req rest → IsRefused bytes why → ⊥

abbrev pub WholeIsNotCutShort : Type 0
WholeIsNotCutShort = (bytes : List ℕ) (req : Req) (rest : List ℕ) → ReadsOne bytes req rest → IsCutShort bytes → ⊥

-- bytes that follow change neither a whole request nor a refusal
abbrev pub WholeStays : Type 0
WholeStays = (bytes more : List ℕ) (req : Req) (rest : List ℕ) → ReadsOne bytes req rest → ReadsOne (bytes ++ more) req (rest ++ more)

abbrev pub RefusalStays : Type 0
RefusalStays = (bytes more : List ℕ) (why : ReqNo) → IsRefused bytes why → IsRefused (bytes ++ more) why

-- the requests in some bytes are determined
abbrev pub RequestsAreDetermined : Type 0
RequestsAreDetermined = (bytes : List ℕ) (reqs others : List Req) (ending end : Ending) → ReadsRequests bytes reqs ending → ReadsRequests bytes others end → reqs ≡ others

-- in no bytes there is no request, nor is one refused or cut short there
abbrev pub NothingStands : Type 0
NothingStands =
    ((req : Req) (rest : List ℕ) → ReadsOne [] req rest → ⊥) × ((why : ReqNo) → IsRefused [] why → ⊥) × (IsCutShort [] → ⊥)

-- where a whole request stands, nothing is unfinished
abbrev pub WholeIsNotUnfinished : Type 0
WholeIsNotUnfinished = (bytes : List ℕ) (req : Req) (rest : List ℕ) → ReadsOne bytes req rest → IsUnfinished bytes → ⊥

-- bytes that follow don't change the requests in front of them
abbrev pub RequestsStay : Type 0
RequestsStay =
    (bytes more : List ℕ) (reqs : List Req) (left : List ℕ) → ReadsSome bytes reqs left → ReadsSome (bytes ++ more) reqs (left ++ more)

-- these requests are the others and what is read behind them
abbrev pub GoesOn : List Req → List ℕ → List Req → List ℕ → Type 0
GoesOn others behind reqs left = (more : List Req) × (reqs ≡ others ++ more) × ReadsSome behind more left

-- of two lists of requests that are read from the same bytes one is a beginning of the other
abbrev pub RequestsAgree : Type 0
RequestsAgree =
    (bytes : List ℕ) (reqs others : List Req) (left behind : List ℕ) → ReadsSome bytes reqs left → ReadsSome bytes others behind
    → GoesOn others behind reqs left ⊎ GoesOn reqs left others behind

-- a request that is refused isn't unfinished, but for two cases: a target whose end hasn't come may not be UTF-8 already,
-- and more than 64 fields may stand although the head goes on
abbrev pub RefusedIsNotUnfinished : Type 0
RefusedIsNotUnfinished =
    (bytes : List ℕ) (why : ReqNo) → IsRefused bytes why → IsUnfinished bytes
    → ((why ≡ Malformed) × EndsInTarget bytes) ⊎ ((why ≡ TooManyHeaders) × RequestExceeds most_fields (front bytes))

-- how the bytes end behind their whole requests is determined, but for the same two cases
abbrev pub EndingsAreDetermined : Type 0
EndingsAreDetermined =
    (bytes : List ℕ) (reqs others : List Req) (ending end : Ending) → ReadsRequests bytes reqs ending → ReadsRequests bytes others end
    → (ending ≡ end)
    ⊎ ((left : List ℕ) × ReadsSome bytes reqs left × (EndsInTarget (front left) ⊎ RequestExceeds most_fields (front left)))
