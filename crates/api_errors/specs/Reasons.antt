-- The reasons of failures, with the HTTP status of each (Kubernetes API reference, `Status`; RFC 9110, section 15).
use Rattle.std.specs.Prelude.{ℕ, List, Bool, true, false, codes}
use Rattle.api_errors.specs.declared.reasons.Reason.{Reason}
use Rattle.api_errors.specs.declared.reasons.Reason.TheVariants.{BadRequest, Forbidden, NotFound, MethodNotAllowed, AlreadyExists, Conflict, Expired, LengthRequired, RequestEntityTooLarge, UnsupportedMediaType, Invalid, InternalError, Timeout}

-- the HTTP status code of a failure with this reason
abbrev pub code_of : Reason → ℕ
code_of BadRequest = 400
code_of Forbidden = 403
code_of NotFound = 404
code_of MethodNotAllowed = 405
code_of AlreadyExists = 409
code_of Conflict = 409
code_of Expired = 410
code_of LengthRequired = 411
code_of RequestEntityTooLarge = 413
code_of UnsupportedMediaType = 415
code_of Invalid = 422
code_of InternalError = 500
code_of Timeout = 504

-- the word that a Status has as its `reason`, by which clients tell failures apart
abbrev pub reason_word : Reason → List ℕ
reason_word BadRequest = codes "BadRequest"
reason_word Forbidden = codes "Forbidden"
reason_word NotFound = codes "NotFound"
reason_word MethodNotAllowed = codes "MethodNotAllowed"
reason_word AlreadyExists = codes "AlreadyExists"
reason_word Conflict = codes "Conflict"
reason_word Expired = codes "Expired"
reason_word LengthRequired = codes "LengthRequired"
reason_word RequestEntityTooLarge = codes "RequestEntityTooLarge"
reason_word UnsupportedMediaType = codes "UnsupportedMediaType"
reason_word Invalid = codes "Invalid"
reason_word InternalError = codes "InternalError"
reason_word Timeout = codes "Timeout"

-- to be asked again in a second: a resource version that isn't reached yet
abbrev pub is_too_large : Reason → Bool
is_too_large Timeout = true
is_too_large reason = false
