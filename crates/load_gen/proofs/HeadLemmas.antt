-- The heads of replies are heads in the grammar of responses.
use Rattle.std.proofs.Common.{◌≡◌, ℕ, ◌<◌, ◌≤◌, ◌^◌, ◌+◌, ◌%◌, List, [], ◌∷◌, ◌++◌, length, reverse, Bool, true, false, decimal, codes, refl, ap, ◌∙◌, arith, append_assoc}
use Rattle.std.specs.List.{All, concat, flat_map, list_all}
use Rattle.std.specs.Char.{is_ascii_digit}
use Rattle.std.proofs.lemmas.Bool.Decides.{nat_tests}
use Rattle.std.proofs.lemmas.Fmt.{decimal_by_steps}
use Rattle.std.proofs.lemmas.List.Elements.{All-nil, All-cons, All-push, All-head}
use Rattle.std.proofs.lemmas.List.Sums.{AllPass-from_list_all}
use Rattle.httparse.specs.Grammar.{AllPass, is_token_byte, is_value_byte, is_ows, skip_ows, trim_ows, Field, IsField, IsResponseHead, print_field, print_response}
use Rattle.httparse.proofs.TrimLemmas.{skip_ows_no, AllPass-reverse, trim_ows_space}
use Rattle.http_send.specs.Replies.{text_where, content_type_line}
use Rattle.http_send.specs.declared.replies.ContentType.{ContentType}
use Rattle.http_send.specs.declared.replies.ContentType.TheVariants.{Json, PlainText, MetricsText, OpenApi}
use Rattle.load_gen.specs.Heads.{field, further, type_of, head_with}

-- ---- digits

digits_pass : (test : ℕ → Bool) → ((x : ℕ) → 48 ≤ x → x ≤ 57 → test x ≡ true) → (n : ℕ) → n < 2 ^ 64 → AllPass test (decimal n)
digits_pass test pass n small =
    let P : ℕ → Type 0 = λ x. test x ≡ true in
    decimal_by_steps (λ (n : ℕ) (ds : List ℕ). All P ds)
    (λ (n : ℕ) (low : n < 10). All-cons P (48 + n) [] (pass (48 + n) (omega arith) (omega arith)) (All-nil P))
    (λ (n : ℕ) (ds : List ℕ) (big : 10 ≤ n) (before : All P ds). All-push P ds (48 + n % 10) before (pass (48 + n % 10) (omega arith) (omega arith)))
    n small

digit_is : (x : ℕ) → 48 ≤ x → x ≤ 57 → is_ascii_digit x ≡ true
digit_is x low high = grind (arith, nat_tests)

digit_is_value : (x : ℕ) → 48 ≤ x → x ≤ 57 → is_value_byte x ≡ true
digit_is_value x low high = grind (arith, nat_tests)

digit_is_no_blank : (x : ℕ) → is_ascii_digit x ≡ true → false ≡ is_ows x
digit_is_no_blank x digit = grind (arith, nat_tests)

pub digits_are : (n : ℕ) → n < 2 ^ 64 → AllPass is_ascii_digit (decimal n)
digits_are = digits_pass is_ascii_digit digit_is

pub digits_are_value : (n : ℕ) → n < 2 ^ 64 → AllPass is_value_byte (decimal n)
digits_are_value = digits_pass is_value_byte digit_is_value

unskipped : (xs : List ℕ) → AllPass is_ascii_digit xs → skip_ows xs ≡ xs
unskipped [] pass = refl
unskipped (x ∷ xs) pass =
    skip_ows_no refl (digit_is_no_blank x (All-head (λ (b : ℕ). is_ascii_digit b ≡ true) x xs pass))

pub untrimmed : (xs : List ℕ) → AllPass is_ascii_digit xs → trim_ows (32 ∷ xs) ≡ xs
untrimmed xs pass = trim_ows_space xs (unskipped xs pass) (unskipped (reverse xs) (AllPass-reverse is_ascii_digit xs pass))

-- ---- heads

abbrev head_text : ContentType → List ℕ → List ℕ → List ℕ → Bool → Bool → List ℕ
head_text kind code reason size retry close =
    concat
    (codes "HTTP/1.1 " ∷ code ∷ codes " " ∷ reason
    ∷ content_type_line kind
    ∷ codes "\r\nContent-Length: " ∷ size
    ∷ text_where retry (codes "\r\nRetry-After: 1")
    ∷ text_where close (codes "\r\nConnection: close")
    ∷ codes "\r\n\r\n" ∷ [])

abbrev ending : List ℕ
ending = 13 ∷ 10 ∷ []

abbrev front : List ℕ → List ℕ
front text = codes "HTTP/1.1 " ++ text

abbrev middle : ContentType → List ℕ → List ℕ
middle Json text = codes "Content-Type: application/json\r\nContent-Length: " ++ text
middle PlainText text = codes "Content-Type: text/plain; charset=utf-8\r\nContent-Length: " ++ text
middle MetricsText text = codes "Content-Type: text/plain; version=0.0.4; charset=utf-8\r\nContent-Length: " ++ text
middle OpenApi text = codes "Content-Type: application/com.github.proto-openapi.spec.v2.v1.0+protobuf\r\nContent-Length: " ++ text

seam : (code reason text : List ℕ) → ((code ++ (32 ∷ reason)) ++ ending) ++ text ≡ code ++ (32 ∷ (reason ++ (13 ∷ 10 ∷ text)))
seam code reason text = append_assoc (code ++ (32 ∷ reason)) ending text ∙ append_assoc code (32 ∷ reason) (ending ++ text)

tail : (size more : List ℕ) → ((size ++ ending) ++ more) ++ ending ≡ size ++ (13 ∷ 10 ∷ (more ++ ending))
tail size more = append_assoc (size ++ ending) more ending ∙ append_assoc size ending (more ++ ending)

joined : (kind : ContentType) (code reason size more : List ℕ) →
    front (((code ++ (32 ∷ reason)) ++ ending) ++ middle kind (((size ++ ending) ++ more) ++ ending))
    ≡ front (code ++ (32 ∷ (reason ++ (13 ∷ 10 ∷ middle kind (size ++ (13 ∷ 10 ∷ (more ++ ending)))))))
joined kind code reason size more =
    ap front (seam code reason (middle kind (((size ++ ending) ++ more) ++ ending)))
    ∙ ap (λ (text : List ℕ). front (code ++ (32 ∷ (reason ++ (13 ∷ 10 ∷ middle kind text))))) (tail size more)

pub printed : (kind : ContentType) (code reason size : List ℕ) (retry close : Bool) → print_response (head_with kind code reason size retry close) ≡ head_text kind code reason size retry close
unfolding print_response
printed Json code reason size true true = joined Json code reason size (flat_map print_field (further true true))
printed Json code reason size true false = joined Json code reason size (flat_map print_field (further true false))
printed Json code reason size false true = joined Json code reason size (flat_map print_field (further false true))
printed Json code reason size false false = joined Json code reason size (flat_map print_field (further false false))
printed PlainText code reason size true true = joined PlainText code reason size (flat_map print_field (further true true))
printed PlainText code reason size true false = joined PlainText code reason size (flat_map print_field (further true false))
printed PlainText code reason size false true = joined PlainText code reason size (flat_map print_field (further false true))
printed PlainText code reason size false false = joined PlainText code reason size (flat_map print_field (further false false))
printed MetricsText code reason size true true = joined MetricsText code reason size (flat_map print_field (further true true))
printed MetricsText code reason size true false = joined MetricsText code reason size (flat_map print_field (further true false))
printed MetricsText code reason size false true = joined MetricsText code reason size (flat_map print_field (further false true))
printed MetricsText code reason size false false = joined MetricsText code reason size (flat_map print_field (further false false))
printed OpenApi code reason size true true = joined OpenApi code reason size (flat_map print_field (further true true))
printed OpenApi code reason size true false = joined OpenApi code reason size (flat_map print_field (further true false))
printed OpenApi code reason size false true = joined OpenApi code reason size (flat_map print_field (further false true))
printed OpenApi code reason size false false = joined OpenApi code reason size (flat_map print_field (further false false))

token : (name : List ℕ) → list_all is_token_byte name ≡ true → AllPass is_token_byte name
token name pass = AllPass-from_list_all is_token_byte name pass

value_of : (value : List ℕ) → list_all is_value_byte value ≡ true → AllPass is_value_byte value
value_of value pass = AllPass-from_list_all is_value_byte value pass

type_field : (kind : ContentType) → IsField (field (codes "Content-Type") (type_of kind))
unfolding is_token_byte
type_field Json =
    record { name = (search arith, token (codes "Content-Type") refl); raw = value_of (codes " application/json") refl }
type_field PlainText =
    record { name = (search arith, token (codes "Content-Type") refl); raw = value_of (codes " text/plain; charset=utf-8") refl }
type_field MetricsText =
    record { name = (search arith, token (codes "Content-Type") refl); raw = value_of (codes " text/plain; version=0.0.4; charset=utf-8") refl }
type_field OpenApi =
    record { name = (search arith, token (codes "Content-Type") refl); raw = value_of (codes " application/com.github.proto-openapi.spec.v2.v1.0+protobuf") refl }

retry_field : IsField (field (codes "Retry-After") (codes "1"))
unfolding is_token_byte
retry_field = record { name = (search arith, token (codes "Retry-After") refl); raw = value_of (codes " 1") refl }

close_field : IsField (field (codes "Connection") (codes "close"))
unfolding is_token_byte
close_field = record { name = (search arith, token (codes "Connection") refl); raw = value_of (codes " close") refl }

size_field : (size : List ℕ) → AllPass is_value_byte size → IsField (field (codes "Content-Length") size)
unfolding is_token_byte
size_field size pass =
    record { name = (search arith, token (codes "Content-Length") refl); raw = All-cons (λ (b : ℕ). is_value_byte b ≡ true) 32 size refl pass }

abbrev retry_line : Field
retry_line = field (codes "Retry-After") (codes "1")

abbrev close_line : Field
close_line = field (codes "Connection") (codes "close")

further_valid : (retry close : Bool) → All IsField (further retry close)
further_valid true true =
    All-cons IsField retry_line (close_line ∷ []) retry_field (All-cons IsField close_line [] close_field (All-nil IsField))
further_valid true false = All-cons IsField retry_line [] retry_field (All-nil IsField)
further_valid false true = All-cons IsField close_line [] close_field (All-nil IsField)
further_valid false false = All-nil IsField

pub valid : (kind : ContentType) (code reason size : List ℕ) (retry close : Bool) → length code ≡ 3 → AllPass is_ascii_digit code →
    AllPass is_value_byte reason → AllPass is_value_byte size → IsResponseHead (head_with kind code reason size retry close)
valid kind code reason size retry close three digits seen sizes = record {
  minor = omega arith;
  digits = (three, digits);
  reason = seen;
  fields =
      All-cons IsField (field (codes "Content-Type") (type_of kind)) (field (codes "Content-Length") size ∷ further retry close) (type_field kind)
      (All-cons IsField (field (codes "Content-Length") size) (further retry close) (size_field size sizes) (further_valid retry close));
}

pub few : (retry close : Bool) → length (further retry close) ≤ 2
few true true = omega arith
few true false = omega arith
few false true = omega arith
few false false = omega arith
