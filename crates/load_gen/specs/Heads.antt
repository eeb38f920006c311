-- The head of a reply, in the grammar of responses (RFC 9112, section 4).
use Rattle.std.specs.Prelude.{ℕ, List, [], ◌∷◌, length, Bool, true, false, Some, codes, decimal}
use Rattle.http_send.specs.Replies.{phrase}
use Rattle.http_send.specs.declared.replies.ContentType.{ContentType}
use Rattle.http_send.specs.declared.replies.ContentType.TheVariants.{Json, PlainText, MetricsText, OpenApi}
use Rattle.httparse.specs.Grammar.{crlf, Field, ResponseHead}

-- a field with a blank before its value
abbrev pub field : List ℕ → List ℕ → Field
field name value = record { name = name; raw = 32 ∷ value; end = crlf }

-- the fields that not every reply has
abbrev pub further : Bool → Bool → List Field
further true true = field (codes "Retry-After") (codes "1") ∷ field (codes "Connection") (codes "close") ∷ []
further true false = field (codes "Retry-After") (codes "1") ∷ []
further false true = field (codes "Connection") (codes "close") ∷ []
further false false = []

-- what a body is
abbrev pub type_of : ContentType → List ℕ
type_of Json = codes "application/json"
type_of PlainText = codes "text/plain; charset=utf-8"
type_of MetricsText = codes "text/plain; version=0.0.4; charset=utf-8"
type_of OpenApi = codes "application/com.github.proto-openapi.spec.v2.v1.0+protobuf"

-- a head with what its body is, these digits of its code, this reason, and these digits of its body's length
abbrev pub head_with : ContentType → List ℕ → List ℕ → List ℕ → Bool → Bool → ResponseHead
head_with kind code reason size retry close = record {
  blank = [];
  minor = 1;
  digits = code;
  reason = Some reason;
  line_end = crlf;
  fields = field (codes "Content-Type") (type_of kind) ∷ field (codes "Content-Length") size ∷ further retry close;
  last = crlf;
}

-- that of a reply with this code and this body
abbrev pub head_of : ContentType → ℕ → Bool → Bool → List ℕ → ResponseHead
head_of kind code retry close body = head_with kind (decimal code) (phrase code) (decimal (length body)) retry close
