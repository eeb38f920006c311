-- The requests of a session by their numbers, and its bytes.
use Rattle.std.specs.Prelude.{ℕ, ◌+◌, ◌*◌, List, ◌++◌, nat_lt, if◌then◌else◌, codes, decimal, length}
use Rattle.std.specs.List.{flat_map, range_with_len}
use Rattle.load_gen.specs.Draws.{draw}
use Rattle.load_gen.specs.declared.requests.Action.{Action}
use Rattle.load_gen.specs.declared.requests.Action.TheVariants.{Create, Replace, Remove, List as Listing}
use Rattle.load_gen.specs.declared.requests.LoadRequest.{LoadRequest}

-- of ten draws five create, three replace, one removes and one lists
abbrev pub action_of : ℕ → Action
action_of draw =
    if nat_lt draw 5 then Create else (if nat_lt draw 8 then Replace else (if nat_lt draw 9 then Remove else Listing))

-- the request with this number, from 0 on: each makes three draws
abbrev pub request_at : ℕ → ℕ → LoadRequest
request_at from number = record {
  action = action_of (draw from (3 * number) 10);
  object = draw from (3 * number + 1) 200;
  group = draw from (3 * number + 2) 4;
}

-- ---- texts

-- how a request line begins: the method and the path of the pods of the namespace `load`
abbrev pub start : List ℕ → List ℕ
start method = method ++ codes " /api/v1/namespaces/load/pods"

-- how a request line ends, behind its path and its query, and the Host field (RFC 9112, section 3)
abbrev pub host : List ℕ
host = codes " HTTP/1.1\r\nHost: load\r\n"

-- a text, and behind it a number in decimal digits
abbrev pub numbered : List ℕ → ℕ → List ℕ
numbered text number = text ++ decimal number

-- the object of a create or a replacement
unfoldable pub object_text : LoadRequest → List ℕ
object_text r =
    numbered (codes "{\"metadata\":{\"labels\":{\"g\":\"") r.group ++ (numbered (codes "\"},\"name\":\"p-") r.object ++ codes "\"}}")

-- the end of a head, and its body
abbrev pub with_body : List ℕ → List ℕ
with_body body = numbered (codes "Content-Length: ") (length body) ++ (codes "\r\n\r\n" ++ body)

-- what stands behind the path of all pods in the path of one of them
abbrev pub name_part : LoadRequest → List ℕ
name_part r = numbered (codes "/p-") r.object

-- the query of a list, for the pods of a group alone: `%3D` is the `=` of its label selector
abbrev pub query_part : LoadRequest → List ℕ
query_part r = numbered (codes "?labelSelector=g%3D") r.group

-- the bytes of a request for this action: to create, replace or remove the drawn object, or to list the drawn group
abbrev pub text_for : Action → LoadRequest → List ℕ
text_for Create r = start (codes "POST") ++ (host ++ with_body (object_text r))
text_for Replace r = start (codes "PUT") ++ (name_part r ++ (host ++ with_body (object_text r)))
text_for Remove r = start (codes "DELETE") ++ (name_part r ++ (host ++ codes "\r\n"))
text_for Listing r = start (codes "GET") ++ (query_part r ++ (host ++ codes "\r\n"))

-- the bytes of a request that was drawn
unfoldable pub request_text : LoadRequest → List ℕ
request_text r = text_for r.action r

-- the last request of a load, which lists all pods of its namespace
abbrev pub list_request : List ℕ
list_request = start (codes "GET") ++ (host ++ codes "\r\n")

-- the session: so many requests, in order, and the last one
unfoldable pub session_text : ℕ → ℕ → List ℕ
session_text from requests =
    flat_map (λ number. request_text (request_at from number)) (range_with_len 0 requests) ++ list_request
