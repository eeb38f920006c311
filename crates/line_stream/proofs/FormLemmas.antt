-- Forms and requests that are joined from pieces.
use Rattle.std.proofs.Common.{◌≡◌, ℕ, List, [], ◌∷◌, ◌++◌, None, Some, Ok, Err, OnOk, OnErr, refl, sym, ap, subst, ◌∙◌, append_assoc}
use Rattle.std.specs.Prelude.{Result, codes}
use Rattle.std.proofs.lemmas.List.Sums.{fold-append}
use Rattle.edge_io.specs.Counts.{Rose}
use Rattle.edge_io.specs.Sent.{Sent, IsBrokenOff, IsWrittenOut, Writes}
use Rattle.edge_io.specs.Told.{appended, AppendedSome}
use Rattle.edge_io.specs.declared.fault.Failed.{Failed}
use Rattle.form_urlencoded.specs.Form.{append_pair, extend_pairs}
use Rattle.line_stream.specs.Requests.{Pair, request_of}

pub joined : (form : List ℕ) (pairs more : List Pair) → extend_pairs form (pairs ++ more) ≡ extend_pairs (extend_pairs form pairs) more
joined form pairs more = fold-append (λ form pair. append_pair form pair.0 pair.1) form pairs more

-- what is added step by step
pub whole : (watch marks : Pair) (start label field : List Pair) →
    extend_pairs (extend_pairs (append_pair (extend_pairs (append_pair [] watch.0 watch.1) start) marks.0 marks.1) label) field
    ≡ extend_pairs [] ((watch ∷ start) ++ (marks ∷ (label ++ field)))
whole watch marks start label field =
    let first : List ℕ = append_pair [] watch.0 watch.1 in
    sym (joined first start (marks ∷ (label ++ field)) ∙ joined (append_pair (extend_pairs first start) marks.0 marks.1) label field)

-- ---- the request in pieces

pub all_pieces : (f form : List ℕ) → f ≡ form →
    codes "GET /api/v1/pods?" ++ (f ++ (codes " HTTP/1.1\r\nHost: localhost\r\n\r\n" ++ [])) ≡ request_of None form
all_pieces f form is = rw is refl

pub some_pieces : (n ns f form : List ℕ) → n ≡ ns → f ≡ form →
    codes "GET /api/v1/namespaces/" ++ (n ++ (codes "/pods?" ++ (f ++ (codes " HTTP/1.1\r\nHost: localhost\r\n\r\n" ++ [])))) ≡ request_of (Some ns) form
some_pieces n ns f form ns_is is =
    rw (ns_is, is) (ap (λ (t : List ℕ). codes "GET /api/v1/namespaces/" ++ t) (sym (append_assoc ns (codes "/pods") (codes "?" ++ (form ++ codes " HTTP/1.1\r\nHost: localhost\r\n\r\n")))))

-- pieces are written, and are this text together
pub pieces_written : {A : Type 0} (r : Result A Failed) (pieces text : List ℕ) (sent : Sent) → pieces ≡ text →
    OnOk r (sent.written_new ≡ appended sent.written_old pieces) → OnErr r (AppendedSome sent.written_old sent.written_new pieces) →
    OnOk r (sent.faults_new ≡ sent.faults_old) → OnErr r (Rose sent.faults_old sent.faults_new) → Writes r text sent
pieces_written (Ok v) pieces text sent same taken broken quiet counted = subst (λ t. IsWrittenOut t sent) same (taken, quiet)
pieces_written (Err e) pieces text sent same taken broken quiet counted = subst (λ t. IsBrokenOff t sent) same (broken, counted)
