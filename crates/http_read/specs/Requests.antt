-- Bytes as requests (RFC 9112, sections 2.1, 6 and 9): the requests that follow each other, and how that ends.
use Rattle.std.specs.Prelude.{◌≡◌, ℕ, ◌<◌, ◌≤◌, ◌⊎◌, List, [], ◌∷◌, ◌++◌, length, take, Result, Ok, Err, codes}
use Rattle.httparse.specs.Grammar.{RequestHead, print_request, ReadsRequest, HasNoRequest, NeverHasRequest, MayBecomeRequest}
use Rattle.httparse.specs.Spans.{RequestOverflows, RequestExceeds}
use Rattle.http_read.specs.Queries.{path_of, query_of, query_pairs}
use Rattle.http_read.specs.Heads.{FieldText, most_head, most_fields, fields_of, body_length, asks_close, is_unreadable, value_of, text_of, upgrade_of}
use Rattle.http_read.specs.Sites.{is_foreign}
use Rattle.http_read.specs.declared.request.Req.{Req}
use Rattle.http_read.specs.declared.refusal.ReqNo.{ReqNo}
use Rattle.http_read.specs.declared.refusal.ReqNo.TheVariants.{Malformed, HeadTooLong, TooManyHeaders, BodyTooLong, NeedsLength, CutShort, ReadFault, Memory}

-- the request of a head's method, target and fields, and a body
abbrev pub request_with : List ℕ → List ℕ → List FieldText → List ℕ → Req
request_with method target fields body = record {
  method = method;
  path = path_of target;
  params = query_pairs (query_of target);
  body = body;
  close = asks_close method fields;
  foreign = is_foreign fields;
  unreadable = is_unreadable fields;
  accept = text_of (value_of (codes "accept") fields);
  upgrade = upgrade_of method fields;
}

-- the request of a head and a body
abbrev pub request_of : RequestHead → List ℕ → Req
request_of h body = request_with h.method h.target (fields_of h) body

-- what the head says of the body
abbrev pub head_answer : RequestHead → Result ℕ ReqNo
head_answer h = body_length h.minor h.method (fields_of h)

-- the bytes begin with a whole head that is within the limits, and `after` follows it
pub record HasHead (bytes : List ℕ) (h : RequestHead) (after : List ℕ) : Type 0 where
  pub reads : ReadsRequest bytes h after
  pub short : length (print_request h) ≤ most_head
  pub few_fields : length h.fields ≤ most_fields

-- the bytes are a request and then `rest`
pub record ReadsOne (bytes : List ℕ) (req : Req) (rest : List ℕ) : Type 0 where
  pub head : RequestHead
  pub body : List ℕ
  pub has_head : HasHead bytes head (body ++ rest)
  pub answer : head_answer head ≡ Ok (length body)
  pub req_is : req ≡ request_of head body

-- the part of the bytes in which a head has to end
abbrev pub front : List ℕ → List ℕ
front bytes = take most_head bytes

-- the head that begins the bytes is refused with this number, whatever follows: it can't be completed, it isn't whole in
-- 16,384 bytes, or it has more than 64 fields
abbrev pub RefusesHead : List ℕ → ReqNo → Type 0
RefusesHead bytes Malformed = NeverHasRequest (front bytes)
RefusesHead bytes HeadTooLong = (most_head ≤ length bytes) × HasNoRequest (front bytes) × MayBecomeRequest (front bytes)
RefusesHead bytes TooManyHeaders = RequestExceeds most_fields (front bytes) × RequestOverflows most_fields (front bytes)
RefusesHead bytes BodyTooLong = ⊥
RefusesHead bytes NeedsLength = ⊥
RefusesHead bytes CutShort = ⊥
RefusesHead bytes ReadFault = ⊥
RefusesHead bytes Memory = ⊥

-- the bytes begin with a whole head, and what it says of its body is refused with this number
abbrev pub RefusesBody : List ℕ → ReqNo → Type 0
RefusesBody bytes why = (h : RequestHead) × (after : List ℕ) × HasHead bytes h after × (head_answer h ≡ Err why)

-- the request that begins the bytes is refused
abbrev pub IsRefused : List ℕ → ReqNo → Type 0
IsRefused bytes why = RefusesHead bytes why ⊎ RefusesBody bytes why

-- the bytes end inside the head of a request: there are some, fewer than a head may have, and more could make it whole
abbrev pub EndsInHead : List ℕ → Type 0
EndsInHead bytes =
    (0 < length bytes) × (length bytes < most_head) × HasNoRequest bytes × MayBecomeRequest bytes

-- the bytes end inside the body of a request: its head is whole and accepted, and fewer bytes follow it than it says
abbrev pub EndsInBody : List ℕ → Type 0
EndsInBody bytes =
    (h : RequestHead) × (after : List ℕ) × (n : ℕ) × HasHead bytes h after × (head_answer h ≡ Ok n) × (length after < n)

-- the bytes end inside a request, in its head or in its body; where input ends so, the request isn't answered
abbrev pub IsCutShort : List ℕ → Type 0
IsCutShort bytes = EndsInHead bytes ⊎ EndsInBody bytes

-- what a fault of the source may leave: no byte, or a beginning of a request that is neither whole nor refused
abbrev pub IsUnfinished : List ℕ → Type 0
IsUnfinished bytes = (bytes ≡ []) ⊎ IsCutShort bytes

-- how a row of requests ends
pub data Ending : Type 0 where
  clean cut_short : Ending
  refused : ReqNo → Ending

-- the bytes end so, with no whole request in front
abbrev pub EndsAs : List ℕ → Ending → Type 0
EndsAs bytes clean = bytes ≡ []
EndsAs bytes cut_short = IsCutShort bytes
EndsAs bytes (refused why) = IsRefused bytes why

-- the requests that follow each other in the bytes, and how that ends
abbrev pub ReadsRequests : List ℕ → List Req → Ending → Type 0
ReadsRequests bytes [] ending = EndsAs bytes ending
ReadsRequests bytes (req ∷ reqs) ending = (rest : List ℕ) × ReadsOne bytes req rest × ReadsRequests rest reqs ending

-- whole requests, one after the other, stand in front of the bytes, and `left` is what follows them
abbrev pub ReadsSome : List ℕ → List Req → List ℕ → Type 0
ReadsSome bytes [] left = bytes ≡ left
ReadsSome bytes (req ∷ reqs) left = (rest : List ℕ) × ReadsOne bytes req rest × ReadsSome rest reqs left
