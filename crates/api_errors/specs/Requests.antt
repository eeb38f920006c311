-- What is told of bytes that are no request. Nothing is told where there is nobody to tell, and for want of memory.
use Rattle.std.specs.Prelude.{Option, None, codes}
use Rattle.http_read.specs.declared.refusal.ReqNo.{ReqNo}
use Rattle.http_read.specs.declared.refusal.ReqNo.TheVariants.{Malformed, HeadTooLong, TooManyHeaders, BodyTooLong, NeedsLength, CutShort, ReadFault, Memory}
use Rattle.api_errors.specs.Failures.{say}
use Rattle.api_errors.specs.declared.reasons.Reason.TheVariants.{BadRequest, LengthRequired, RequestEntityTooLarge}
use Rattle.api_errors.specs.declared.failures.Failure.{Failure}

-- why bytes are no request: 400, 411 where a length is missing, or 413 where something exceeds its limit
abbrev pub request_told : ReqNo → Option Failure
request_told Malformed = say BadRequest (codes "request: Malformed")
request_told HeadTooLong = say RequestEntityTooLarge (codes "request: HeadTooLong")
request_told TooManyHeaders = say RequestEntityTooLarge (codes "request: TooManyHeaders")
request_told BodyTooLong = say RequestEntityTooLarge (codes "request: BodyTooLong")
request_told NeedsLength = say LengthRequired (codes "request: NeedsLength")
request_told CutShort = None
request_told ReadFault = None
request_told Memory = None
