-- The bytes of a mirror's request, read.
use Rattle.std.specs.Prelude.{All, IsTrue, IsUtf8, IsAscii, IfSome, decimal}
use Rattle.std.proofs.Common.{◌≡◌, ◌≢◌, ℕ, ◌<◌, ◌≤◌, Bool, true, ◌||◌, ◌==◌, List, [], ◌∷◌, ◌++◌, map, length, Option, Some, None, refl, sym, ap, subst, ◌∙◌, ◌⊎◌, inl, inr, arith, codes, append_assoc, if◌then◌else◌}
use Rattle.std.specs.Prelude.{Ok, false, nat_lt}
use Rattle.std.specs.List.{list_all}
use Rattle.std.specs.Str.Lossy.{utf8_lossy}
use Rattle.std.proofs.lemmas.Bool.{and_parts, cond-true, cond-false, eq-eqb, ne_eqb}
use Rattle.std.proofs.lemmas.Bool.Decides.{nat_tests}
use Rattle.std.proofs.lemmas.List.Elements.{All-nil, All-cons, All-head, All-tail, All-append, All-weaker}
use Rattle.std.proofs.lemmas.Str.{IsUtf8-from_ascii, utf8_lossy-IsUtf8}
use Rattle.std.proofs.lemmas.Str.Ascii.{IsAscii-from_all, All-from_ascii}
use Rattle.std.proofs.lemmas.Fmt.{IsAscii-decimal}
use Rattle.form_urlencoded.specs.Form.{split, onto_first, raw_pairs, decode, extend_pairs, append_pair, serialize_pair, byte_serialize, separator, IsUnchanged, is_nonempty}
use Rattle.form_urlencoded.proofs.FormLemmas.{split_once_before_at, split_once_after_at, round_trip, IsBytePair, IsSerializedByte, All-byte_serialize}
use Rattle.httparse.specs.Grammar.{RequestHead, Field, IsField, IsRequestHead, crlf, print_request, print_version, print_end, print_section, AllPass, IsToken, is_token_byte, is_uri_byte, is_value_byte, trim_ows}
use Rattle.http_read.specs.Heads.{most_head, fields_of}
use Rattle.http_read.specs.Pieces.{IsItself}
use Rattle.http_read.specs.Queries.{path_of, query_of, query_pairs, segment_text, segments_of, pair_text}
use Rattle.http_read.specs.Requests.{request_of as req_of, head_answer, ReadsOne}
use Rattle.http_read.specs.Sites.{is_foreign}
use Rattle.http_read.proofs.PlainLemmas.{plain-segment}
use Rattle.kube_meta.specs.Names.{IsNamespace}
use Rattle.kube_meta.proofs.NameLemmas.{is_name_byte, bytes_of_namespace}
use Rattle.line_stream.specs.Requests.{pods_path, request_of, selector_pair, start_pairs, pairs_of}
use Rattle.line_stream.specs.declared.start.Start.{Start}
use Rattle.line_stream.specs.declared.start.Start.TheVariants.{State, Revision}
use Rattle.route_req.specs.Places.{place_path}
use Rattle.laws.specs.MirrorQueries.{MaySay, IsText, MirrorRequestsAreRead, pods_place}

-- ---- what each byte of a text is, by a test of all

pass_all : (test : ℕ → Bool) (text : List ℕ) → list_all test text ≡ true → AllPass test text
pass_all test [] passes = All-nil (λ b. IsTrue (test b))
pass_all test (b ∷ text) passes =
    let both = and_parts (test b) (list_all test text) passes in
    All-cons (λ b. IsTrue (test b)) b text both.0 (pass_all test text both.1)

-- a byte of a path: of a name, or a slash
abbrev is_path_byte : ℕ → Bool
is_path_byte b = is_name_byte b || b == 47

abbrev OfPath : ℕ → Type 0
OfPath b = (32 < b) × (b < 127) × (b ≢ 63)

of_path : (b : ℕ) → IsTrue (is_path_byte b) → OfPath b
of_path b passes = (grind (arith, nat_tests), grind (arith, nat_tests), λ e. grind (arith, nat_tests))

abbrev OfSegment : ℕ → Type 0
OfSegment b = IsItself b × (b ≢ 47)

of_segment : (b : ℕ) → IsTrue (is_name_byte b) → OfSegment b
of_segment b passes = ((grind (arith, nat_tests), (λ e. grind (arith, nat_tests), λ e. grind (arith, nat_tests))), λ e. grind (arith, nat_tests))

name_in_path : (b : ℕ) → IsTrue (is_name_byte b) → IsTrue (is_path_byte b)
name_in_path b passes = grind (arith, nat_tests)

path_by : (text : List ℕ) → AllPass is_path_byte text → All OfPath text
path_by text all = All-weaker (λ b. IsTrue (is_path_byte b)) OfPath of_path text all

segment_by : (text : List ℕ) → list_all is_name_byte text ≡ true → All OfSegment text
segment_by text passes = All-weaker (λ b. IsTrue (is_name_byte b)) OfSegment of_segment text (pass_all is_name_byte text passes)

path_all : (ns : Option (List ℕ)) → IfSome ns IsNamespace → All OfPath (pods_path ns)
path_all None is = path_by (codes "/api/v1/pods") (pass_all is_path_byte (codes "/api/v1/pods") refl)
path_all (Some ns) is =
    All-append OfPath (codes "/api/v1/namespaces/") (ns ++ codes "/pods")
    (path_by (codes "/api/v1/namespaces/") (pass_all is_path_byte (codes "/api/v1/namespaces/") refl))
    (All-append OfPath ns (codes "/pods")
    (path_by ns (All-weaker (λ b. IsTrue (is_name_byte b)) (λ b. IsTrue (is_path_byte b)) name_in_path ns (pass_all is_name_byte ns (bytes_of_namespace ns is))))
    (path_by (codes "/pods") (pass_all is_path_byte (codes "/pods") refl)))

-- ---- the segments of the path

abbrev segments : Option (List ℕ) → List (List ℕ)
segments None = codes "api" ∷ codes "v1" ∷ codes "pods" ∷ []
segments (Some ns) = codes "api" ∷ codes "v1" ∷ codes "namespaces" ∷ ns ∷ codes "pods" ∷ []

placed : (ns : Option (List ℕ)) → segments ns ≡ place_path (pods_place ns)
placed None = refl
placed (Some ns) = refl

split_before : (s : ℕ) (xs ys : List ℕ) → All (λ b. b ≢ s) xs → split s (xs ++ s ∷ ys) ≡ xs ∷ split s ys
unfolding split
split_before s [] ys none = cond-true _ _ _ (eq-eqb s s refl)
split_before s (x ∷ xs) ys none =
    cond-false _ _ _ (ne_eqb x s (All-head (λ b. b ≢ s) x xs none))
    ∙ ap (onto_first x) (split_before s xs ys (All-tail (λ b. b ≢ s) x xs none))

abbrev IsPlainSegment : List ℕ → Type 0
IsPlainSegment text = All OfSegment text

plain : (parts : List (List ℕ)) → All IsPlainSegment parts → map segment_text parts ≡ parts
plain [] all = refl
plain (part ∷ parts) all =
    ap (λ first. first ∷ map segment_text parts) (plain-segment part (All-weaker OfSegment IsItself (λ b is. is.0) part (All-head IsPlainSegment part parts all)))
    ∙ ap (λ rest. part ∷ rest) (plain parts (All-tail IsPlainSegment part parts all))

split_path : (ns : Option (List ℕ)) → IfSome ns IsNamespace → segments_of (pods_path ns) ≡ map segment_text (segments ns)
unfolding split
split_path None is = refl
split_path (Some ns) is =
    ap (λ (rest : List (List ℕ)). map segment_text (codes "api" ∷ codes "v1" ∷ codes "namespaces" ∷ rest))
    (split_before 47 ns (codes "pods") (All-weaker OfSegment (λ b. b ≢ 47) (λ b is. is.1) ns (segment_by ns (bytes_of_namespace ns is))))

word : (text : List ℕ) (parts : List (List ℕ)) → list_all is_name_byte text ≡ true → All IsPlainSegment parts → All IsPlainSegment (text ∷ parts)
word text parts passes all = All-cons IsPlainSegment text parts (segment_by text passes) all

plain_path : (ns : Option (List ℕ)) → IfSome ns IsNamespace → All IsPlainSegment (segments ns)
plain_path None is =
    word (codes "api") (codes "v1" ∷ codes "pods" ∷ []) refl
    (word (codes "v1") (codes "pods" ∷ []) refl (word (codes "pods") [] refl (All-nil IsPlainSegment)))
plain_path (Some ns) is =
    word (codes "api") (codes "v1" ∷ codes "namespaces" ∷ ns ∷ codes "pods" ∷ []) refl
    (word (codes "v1") (codes "namespaces" ∷ ns ∷ codes "pods" ∷ []) refl
    (word (codes "namespaces") (ns ∷ codes "pods" ∷ []) refl
    (word ns (codes "pods" ∷ []) (bytes_of_namespace ns is) (word (codes "pods") [] refl (All-nil IsPlainSegment)))))

no_question : (ns : Option (List ℕ)) → IfSome ns IsNamespace → All (λ b. b ≢ 63) (pods_path ns)
no_question ns is = All-weaker OfPath (λ b. b ≢ 63) (λ b of. of.2) (pods_path ns) (path_all ns is)

abbrev target_of : Option (List ℕ) → List ℕ → List ℕ
target_of ns form = pods_path ns ++ (63 ∷ form)

path_is : (ns : Option (List ℕ)) (form : List ℕ) → IfSome ns IsNamespace → path_of (target_of ns form) ≡ segments ns
path_is ns form is =
    ap segments_of (split_once_before_at 63 (pods_path ns) form (no_question ns is)) ∙ split_path ns is ∙ plain (segments ns) (plain_path ns is)

-- ---- the query

abbrev lossy : List ℕ × List ℕ → List ℕ × List ℕ
lossy pair = (utf8_lossy pair.0, utf8_lossy pair.1)

abbrev decoded : List ℕ × List ℕ → List ℕ × List ℕ
decoded pair = (decode pair.0, decode pair.1)

in_two : (raws : List (List ℕ × List ℕ)) → map pair_text raws ≡ map lossy (map decoded raws)
in_two [] = refl
in_two (raw ∷ raws) = ap (λ rest. pair_text raw ∷ rest) (in_two raws)

-- both texts of a pair are UTF-8
abbrev IsTextPair : List ℕ × List ℕ → Type 0
IsTextPair pair = IsBytePair pair × IsUtf8 pair.0 × IsUtf8 pair.1

texts : (pairs : List (List ℕ × List ℕ)) → All IsTextPair pairs → map lossy pairs ≡ pairs
texts [] all = refl
texts (pair ∷ pairs) all =
    let first = All-head IsTextPair pair pairs all in
    (λ i. (utf8_lossy-IsUtf8 pair.0 first.1 i, utf8_lossy-IsUtf8 pair.1 first.2 i) ∷ texts pairs (All-tail IsTextPair pair pairs all) i)

read_back : (pairs : List (List ℕ × List ℕ)) → All IsTextPair pairs → query_pairs (extend_pairs [] pairs) ≡ pairs
read_back pairs all =
    in_two (raw_pairs (extend_pairs [] pairs))
    ∙ ap (map lossy) (round_trip pairs (All-weaker IsTextPair IsBytePair (λ pair is. is.0) pairs all))
    ∙ texts pairs all

params_are : (ns : Option (List ℕ)) (pairs : List (List ℕ × List ℕ)) → IfSome ns IsNamespace → All IsTextPair pairs
    → query_pairs (query_of (target_of ns (extend_pairs [] pairs))) ≡ pairs
params_are ns pairs is all = ap query_pairs (split_once_after_at 63 (pods_path ns) (extend_pairs [] pairs) (no_question ns is)) ∙ read_back pairs all

-- ---- the target's bytes

abbrev Seen : ℕ → Type 0
Seen b = (32 < b) × (b < 127)

seen_serialized : (b : ℕ) → IsSerializedByte b → Seen b
seen_serialized b is = by is.allowed
  where
    by : (IsUnchanged b ⊎ ((b ≡ 43) ⊎ (b ≡ 37))) → Seen b
    by (inl kept) = (grind (arith, nat_tests), grind (arith, nat_tests))
    by (inr (inl plus)) = (omega (arith, plus), omega (arith, plus))
    by (inr (inr percent)) = (omega (arith, percent), omega (arith, percent))

seen_pair : (pair : List ℕ × List ℕ) → All Seen (serialize_pair pair)
seen_pair pair =
    let part = λ (bs : List ℕ). All-weaker IsSerializedByte Seen seen_serialized (byte_serialize bs) (All-byte_serialize bs) in
    All-append Seen (byte_serialize pair.0 ++ 61 ∷ []) (byte_serialize pair.1)
    (All-append Seen (byte_serialize pair.0) (61 ∷ []) (part pair.0) (All-cons Seen 61 [] (omega arith, omega arith) (All-nil Seen))) (part pair.1)

seen_separator : (b : Bool) → All Seen (if b then 38 ∷ [] else [])
seen_separator true = All-cons Seen 38 [] (omega arith, omega arith) (All-nil Seen)
seen_separator false = All-nil Seen

seen_form : (form : List ℕ) (pairs : List (List ℕ × List ℕ)) → All Seen form → All Seen (extend_pairs form pairs)
seen_form form [] all = all
seen_form form (pair ∷ pairs) all =
    seen_form (append_pair form pair.0 pair.1) pairs
    (All-append Seen (form ++ separator form) (serialize_pair pair)
    (All-append Seen form (separator form) all (seen_separator (is_nonempty form))) (seen_pair pair))

seen_target : (ns : Option (List ℕ)) (pairs : List (List ℕ × List ℕ)) → IfSome ns IsNamespace → All Seen (target_of ns (extend_pairs [] pairs))
seen_target ns pairs is =
    All-append Seen (pods_path ns) (63 ∷ extend_pairs [] pairs) (All-weaker OfPath Seen (λ b of. (of.0, of.1)) (pods_path ns) (path_all ns is))
    (All-cons Seen 63 (extend_pairs [] pairs) (omega arith, omega arith) (seen_form [] pairs (All-nil Seen)))

seen_uri : (b : ℕ) → Seen b → IsTrue (is_uri_byte b)
seen_uri b seen = grind (arith, nat_tests)

-- ---- the head

abbrev host : Field
host = record { name = codes "Host"; raw = codes " localhost"; end = crlf }

abbrev head_of : Option (List ℕ) → List ℕ → RequestHead
head_of ns form = record {
  blank = [];
  method = codes "GET";
  target = target_of ns form;
  minor = 1;
  line_end = crlf;
  fields = host ∷ [];
  last = crlf;
}

printed : (ns : Option (List ℕ)) (form : List ℕ) → request_of ns form ≡ print_request (head_of ns form)
unfolding print_request
printed ns form =
    let target = target_of ns form in
    let version = 32 ∷ print_version 1 in
    let section = print_section (host ∷ []) crlf in
    ap (λ t. codes "GET " ++ t)
    (sym (append_assoc (pods_path ns) (63 ∷ form) (codes " HTTP/1.1\r\nHost: localhost\r\n\r\n"))
    ∙ sym (append_assoc (target ++ version) (print_end crlf) section ∙ append_assoc target version (print_end crlf ++ section)))

get_token : IsToken (codes "GET")
unfolding is_token_byte
get_token = (omega arith, pass_all is_token_byte (codes "GET") refl)

host_is : IsField host
unfolding is_token_byte
host_is = record { name = (omega arith, pass_all is_token_byte (codes "Host") refl); raw = pass_all is_value_byte (codes " localhost") refl }

no_body : (ns : Option (List ℕ)) (form : List ℕ) → head_answer (head_of ns form) ≡ Ok 0
no_body ns form = refl

own_site : (ns : Option (List ℕ)) (form : List ℕ) → is_foreign (fields_of (head_of ns form)) ≡ false
unfolding trim_ows
own_site ns form = refl

some_target : (ns : Option (List ℕ)) (form : List ℕ) → 0 < length (target_of ns form)
some_target None form = omega arith
some_target (Some ns) form = omega arith

module _ (ns : Option (List ℕ)) (pairs : List (List ℕ × List ℕ)) (named : IfSome ns IsNamespace) where
  abbrev form : List ℕ
  form = extend_pairs [] pairs

  head_is : IsRequestHead (head_of ns form)
  head_is = record {
    method = get_token;
    target = (some_target ns form, All-weaker Seen (λ b. IsTrue (is_uri_byte b)) seen_uri (target_of ns form) (seen_target ns pairs named));
    target_text = IsUtf8-from_ascii (target_of ns form) (IsAscii-from_all (target_of ns form) (All-weaker Seen (λ b. b < 128) (λ b seen. omega (arith, seen.1)) (target_of ns form) (seen_target ns pairs named)));
    minor = omega arith;
    fields = All-cons IsField host [] host_is (All-nil IsField);
  }

  is_read : (more : List ℕ) → length (request_of ns form) ≤ most_head → ReadsOne (request_of ns form ++ more) (req_of (head_of ns form) []) more
  is_read more short = record {
    head = head_of ns form;
    body = [];
    has_head = record {
      reads = (head_is, ap (λ t. t ++ more) (printed ns form));
      short = subst (λ t. length t ≤ most_head) (printed ns form) short;
      few_fields = omega arith;
    };
    answer = no_body ns form;
    req_is = refl;
  }

  path_read : (req_of (head_of ns form) []).path ≡ segments ns
  path_read = path_is ns form named

  params_read : All IsTextPair pairs → (req_of (head_of ns form) []).params ≡ pairs
  params_read all = params_are ns pairs named all

  own_read : (req_of (head_of ns form) []).foreign ≡ false
  own_read = own_site ns form

-- ---- a mirror's query

text_by : (text : List ℕ) → IsAscii text → IsText text
text_by text ascii = (All-weaker (λ b. b < 128) (λ b. b < 256) (λ b low. omega (arith, low)) text (All-from_ascii text ascii), IsUtf8-from_ascii text ascii)

literal : (text : List ℕ) → list_all (λ b. nat_lt b 128) text ≡ true → IsText text
literal text passes =
    text_by text (IsAscii-from_all text (All-weaker (λ b. IsTrue (nat_lt b 128)) (λ b. b < 128) (λ b low. grind (arith, nat_tests)) text (pass_all (λ b. nat_lt b 128) text passes)))

pair_by : (name value : List ℕ) → IsText name → IsText value → IsTextPair (name, value)
pair_by name value one two = ((one.0, two.0), one.1, two.1)

one_more : (name value : List ℕ) (pairs : List (List ℕ × List ℕ)) → list_all (λ b. nat_lt b 128) name ≡ true → IsText value → All IsTextPair pairs → All IsTextPair ((name, value) ∷ pairs)
one_more name value pairs passes text all = All-cons IsTextPair (name, value) pairs (pair_by name value (literal name passes) text) all

selector_texts : (name text : List ℕ) → list_all (λ b. nat_lt b 128) name ≡ true → IsText text → All IsTextPair (selector_pair name text)
selector_texts name [] passes is = All-nil IsTextPair
selector_texts name (b ∷ text) passes is = one_more name (b ∷ text) [] passes is (All-nil IsTextPair)

start_texts : (start : Start) → MaySay start → All IsTextPair (start_pairs start)
start_texts State may =
    one_more (codes "sendInitialEvents") (codes "true") ((codes "resourceVersionMatch", codes "NotOlderThan") ∷ []) refl (literal (codes "true") refl)
    (one_more (codes "resourceVersionMatch") (codes "NotOlderThan") [] refl (literal (codes "NotOlderThan") refl) (All-nil IsTextPair))
start_texts (Revision from) may =
    one_more (codes "resourceVersion") (decimal from) [] refl (text_by (decimal from) (IsAscii-decimal from (omega (arith, may.1)))) (All-nil IsTextPair)

query_texts : (start : Start) (label field : List ℕ) → MaySay start → IsText label → IsText field → All IsTextPair (pairs_of start label field)
query_texts start label field may l f =
    let selectors = All-append IsTextPair (selector_pair (codes "labelSelector") label) (selector_pair (codes "fieldSelector") field)
    (selector_texts (codes "labelSelector") label refl l) (selector_texts (codes "fieldSelector") field refl f) in
    let marks = one_more (codes "allowWatchBookmarks") (codes "true") (selector_pair (codes "labelSelector") label ++ selector_pair (codes "fieldSelector") field) refl
    (literal (codes "true") refl) selectors in
    All-append IsTextPair ((codes "watch", codes "true") ∷ start_pairs start) _
    (one_more (codes "watch") (codes "true") (start_pairs start) refl (literal (codes "true") refl) (start_texts start may)) marks

pub requests_are_read : MirrorRequestsAreRead
requests_are_read ns label field start more may named l f short =
    let pairs = pairs_of start label field in (
      req_of (head_of ns (extend_pairs [] pairs)) [],
      is_read ns pairs named more short,
      record {
        method = refl;
        path = path_read ns pairs named ∙ placed ns;
        params = params_read ns pairs named (query_texts start label field may l f);
        own = own_read ns pairs named;
      },
    )
