-- The bytes of replies: HTTP/1.1 messages (RFC 9112, sections 4, 5, 6 and 7.1) in the profile that this server speaks.
use Rattle.std.specs.Prelude.{ℕ, ◌++◌, List, [], ◌∷◌, length, Bool, if◌then◌else◌, codes, decimal, unwrap_or, nat_le, nat_lt, ◌&&◌, false}
use Rattle.std.specs.List.{concat}
use Rattle.std.specs.Fmt.{digits}
use Rattle.http.specs.StatusCode.{reason_phrase}
use Rattle.http_send.specs.declared.replies.ContentType.{ContentType}
use Rattle.http_send.specs.declared.replies.ContentType.TheVariants.{Json, PlainText, MetricsText, OpenApi}

-- the end of a line
abbrev pub crlf : List ℕ
crlf = codes "\r\n"

-- the standard reason phrase of a status code, and nothing for a code that has none or a number that is no status code
abbrev pub phrase : ℕ → List ℕ
phrase code = if nat_le 100 code && nat_lt code 1000 then unwrap_or (reason_phrase code) [] else []

-- a text that is there only where the flag is set
abbrev pub text_where : Bool → List ℕ → List ℕ
text_where flag text = if flag then text else []

-- the line that says what a body is
abbrev pub content_type_line : ContentType → List ℕ
content_type_line Json = codes "\r\nContent-Type: application/json"
content_type_line PlainText = codes "\r\nContent-Type: text/plain; charset=utf-8"
content_type_line MetricsText = codes "\r\nContent-Type: text/plain; version=0.0.4; charset=utf-8"
content_type_line OpenApi = codes "\r\nContent-Type: application/com.github.proto-openapi.spec.v2.v1.0+protobuf"

-- the head of a reply whose body is of this kind and has `n` bytes: the status line and the field lines, each ended by
-- the line end that the next one begins with, and the empty line
abbrev pub typed_head_text : ContentType → ℕ → Bool → Bool → ℕ → List ℕ
typed_head_text kind code retry close n =
    concat
    (codes "HTTP/1.1 " ∷ decimal code ∷ codes " " ∷ phrase code
    ∷ content_type_line kind
    ∷ codes "\r\nContent-Length: " ∷ decimal n
    ∷ text_where retry (codes "\r\nRetry-After: 1")
    ∷ text_where close (codes "\r\nConnection: close")
    ∷ codes "\r\n\r\n" ∷ [])

-- the head of a reply whose body has `n` bytes of JSON
abbrev pub reply_head_text : ℕ → Bool → Bool → ℕ → List ℕ
reply_head_text code retry close n = typed_head_text Json code retry close n

-- a whole reply whose body is of this kind
abbrev pub typed_reply_text : ContentType → ℕ → Bool → Bool → List ℕ → List ℕ
typed_reply_text kind code retry close body = typed_head_text kind code retry close (length body) ++ body

-- a whole reply of JSON
abbrev pub reply_text : ℕ → Bool → Bool → List ℕ → List ℕ
reply_text code retry close body = typed_reply_text Json code retry close body

-- the head of a reply whose body is sent in chunks until the connection ends
abbrev pub stream_head_text : List ℕ
stream_head_text =
    codes "HTTP/1.1 200 OK\r\nContent-Type: application/json\r\nTransfer-Encoding: chunked\r\nConnection: close\r\n\r\n"

-- a number in lower-case hexadecimal, with no leading zero
abbrev pub hexadecimal : ℕ → List ℕ
hexadecimal n = digits 16 false n

-- chunk-size CRLF
abbrev pub chunk_head_text : ℕ → List ℕ
chunk_head_text n = hexadecimal n ++ crlf

-- chunk = chunk-size CRLF chunk-data CRLF
abbrev pub chunk_text : List ℕ → List ℕ
chunk_text line = chunk_head_text (length line) ++ line ++ crlf

-- last-chunk CRLF, with no trailer
abbrev pub stream_end_text : List ℕ
stream_end_text = codes "0\r\n\r\n"
