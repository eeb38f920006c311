-- What a refusal is told: a reason and a message.
use Rattle.std.specs.Prelude.{ℕ, List, [], ◌∷◌, ◌++◌, Option, Some, codes, decimal, option_map}
use Rattle.std.specs.List.{concat}
use Rattle.kube_meta.specs.Resources.{message_name_of}
use Rattle.kube_meta.specs.declared.resources.Resource.{Resource}
use Rattle.json_obj.specs.Replies.{expired_message}
use Rattle.json_obj.specs.declared.replies.Refusal.{Refusal}
use Rattle.api_errors.specs.Reasons.{code_of, reason_word, is_too_large}
use Rattle.api_errors.specs.declared.reasons.Reason.{Reason}
use Rattle.api_errors.specs.declared.reasons.Reason.TheVariants.{BadRequest, NotFound, MethodNotAllowed, AlreadyExists, Conflict, Expired, Invalid, InternalError, Timeout}
use Rattle.api_errors.specs.declared.failures.Failure.{Failure}

-- what is told of a refusal that is told at all: its reason, and a message in words
abbrev pub say : Reason → List ℕ → Option Failure
say reason message = Some (record { reason = reason; message = message })

-- the HTTP status of what is told of a refusal, and none where nothing is told
abbrev pub code_told : Option Failure → Option ℕ
code_told told = option_map (λ (failure : Failure). code_of failure.reason) told

-- a fault at a place, and in an item; both are counted from 0
abbrev pub say_at : Reason → List ℕ → ℕ → Option Failure
say_at reason message at = say reason (message ++ decimal at)

-- a request that isn't written as the API wants it: 400
abbrev pub bad : List ℕ → Option Failure
bad message = say BadRequest message

-- a bad request whose message ends with the place of its fault, in bytes of a selector or in items of a transaction
abbrev pub bad_at : List ℕ → ℕ → Option Failure
bad_at message at = say_at BadRequest message at

-- a match or `sendInitialEvents` that the API's rules for options don't allow: 422
abbrev pub invalid : List ℕ → Option Failure
invalid message = say Invalid message

-- the beginning of a message about an object, as `pods "web"`, and what is said of it
abbrev pub named : Resource → List ℕ → List ℕ → List ℕ
named resource name rest = concat (message_name_of resource ∷ codes " \"" ∷ name ∷ codes "\"" ∷ rest ∷ [])

-- an object that was to be created and is there already: 409
abbrev pub already_exists : Resource → List ℕ → Failure
already_exists resource name = record { reason = AlreadyExists; message = named resource name (codes " already exists") }

-- an object that was to be read, replaced or removed and isn't there: 404
abbrev pub not_found : Resource → List ℕ → Failure
not_found resource name = record { reason = NotFound; message = named resource name (codes " not found") }

-- an object that was last written at `present` and not at `given`, as the client says that it saw it: 409
abbrev pub conflict : Resource → List ℕ → ℕ → ℕ → Failure
conflict resource name present given =
    record { reason = Conflict; message = named resource name (concat (codes " is at resourceVersion " ∷ decimal present ∷ codes ", not " ∷ decimal given ∷ [])) }

-- the last number there is has been given, to a revision or to a cut, so that nothing can follow: 500
abbrev pub revisions_used_up : Failure
revisions_used_up = record { reason = InternalError; message = codes "Revisions are used up" }

-- a write to a mirror, which takes its changes from its peer alone: 405
abbrev pub read_only : Failure
read_only = record { reason = MethodNotAllowed; message = codes "this server is a mirror" }

-- a revision below the floor, where what stood then or came since may not be kept any more: 410
abbrev pub expired : ℕ → ℕ → Failure
expired asked floor = record { reason = Expired; message = expired_message asked floor }

-- a revision above the one that the log had reached, which may be asked for again in a second: 504
abbrev pub too_large : ℕ → ℕ → Failure
too_large asked current =
    record { reason = Timeout; message = codes "Timeout: Too large resource version: " ++ (decimal asked ++ (codes ", current: " ++ decimal current)) }

-- a request to go on as a WebSocket whose key or version isn't as RFC 6455, section 4.2.1, wants it: 400
abbrev pub bad_upgrade : Failure
bad_upgrade = record { reason = BadRequest; message = codes "websocket: BadUpgrade" }

-- what the Status of a failure says: its code and its word, its message, and whether to ask again in a second
abbrev pub failure_status : Failure → Refusal
failure_status told = record { code = code_of told.reason; reason = reason_word told.reason; message = told.message; too_large = is_too_large told.reason }
