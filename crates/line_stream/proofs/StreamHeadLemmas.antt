-- The head of a stream begins a chunked body.
use Rattle.std.proofs.Common.{◌≡◌, ℕ, ◌<◌, true, List, [], ◌∷◌, ◌++◌, Some, length, codes, refl, sym, ap, arith}
use Rattle.std.specs.List.{All, list_all}
use Rattle.std.specs.Char.{is_ascii_digit}
use Rattle.std.proofs.lemmas.List.Elements.{All-nil, All-cons}
use Rattle.std.proofs.lemmas.List.Sums.{AllPass-from_list_all}
use Rattle.httparse.specs.Grammar.{is_token_byte, is_value_byte, trim_ows, crlf, Field, IsField, ResponseHead, IsResponseHead, print_response}
use Rattle.http_send.specs.Replies.{stream_head_text}
use Rattle.line_stream.specs.Heads.{is_chunked, BeginsChunks}

abbrev field : List ℕ → List ℕ → Field
field name value = record { name = name; raw = 32 ∷ value; end = crlf }

-- the head of a stream
abbrev pub head : ResponseHead
head = record {
  blank = [];
  minor = 1;
  digits = codes "200";
  reason = Some (codes "OK");
  line_end = crlf;
  fields = field (codes "Content-Type") (codes "application/json") ∷ field (codes "Transfer-Encoding") (codes "chunked") ∷ field (codes "Connection") (codes "close") ∷ [];
  last = crlf;
}

printed : print_response head ≡ stream_head_text
unfolding print_response
printed = refl

chunked : is_chunked head ≡ true
unfolding trim_ows
chunked = refl

is_field : (name value : List ℕ) → 0 < length name → list_all is_token_byte name ≡ true → list_all is_value_byte (32 ∷ value) ≡ true → IsField (field name value)
is_field name value some token bytes =
    record { name = (some, AllPass-from_list_all is_token_byte name token); raw = AllPass-from_list_all is_value_byte (32 ∷ value) bytes }

abbrev type_line : Field
type_line = field (codes "Content-Type") (codes "application/json")

abbrev coding_line : Field
coding_line = field (codes "Transfer-Encoding") (codes "chunked")

abbrev close_line : Field
close_line = field (codes "Connection") (codes "close")

fields : All IsField (head.fields)
unfolding is_token_byte
fields =
    All-cons IsField type_line (coding_line ∷ close_line ∷ []) (is_field (codes "Content-Type") (codes "application/json") (omega arith) refl refl)
    (All-cons IsField coding_line (close_line ∷ []) (is_field (codes "Transfer-Encoding") (codes "chunked") (omega arith) refl refl)
    (All-cons IsField close_line [] (is_field (codes "Connection") (codes "close") (omega arith) refl refl) (All-nil IsField)))

is_head : IsResponseHead head
is_head = record {
  minor = omega arith;
  digits = (refl, AllPass-from_list_all is_ascii_digit (codes "200") refl);
  reason = AllPass-from_list_all is_value_byte (codes "OK") refl;
  fields = fields;
}

pub stream-begins : (body : List ℕ) → BeginsChunks (stream_head_text ++ body) body
stream-begins body = (
  head,
  record { reads = (is_head, ap (λ l. l ++ body) (sym printed)); short = omega (arith, ap length printed); few_fields = omega arith },
  refl,
  chunked,
)
