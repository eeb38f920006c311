-- Texts in pieces, around digits and texts that need no escape.
use Rattle.std.proofs.Common.{◌≡◌, ℕ, List, [], ◌∷◌, ◌++◌, true, None, decimal, refl, sym, ap, ap₂, ◌∙◌, append_assoc, append-nil}
use Rattle.std.specs.Prelude.{codes}
use Rattle.std.specs.Fmt.{digits}
use Rattle.std.specs.List.{concat, list_all}
use Rattle.json.specs.Print.{quoted, escape, escape_byte}
use Rattle.json_obj.specs.Plain.{is_plain_byte}
use Rattle.json_obj.specs.Replies.{expired_message, expired_text, list_front, list_back}
use Rattle.json_obj.proofs.Digits.{escape-decimal}
use Rattle.json_obj.proofs.Printed.{escape_plain}

-- a text between quotes, with what follows
pub quoted_then : (s rest : List ℕ) → escape s ≡ s → quoted s ++ rest ≡ 34 ∷ (s ++ 34 ∷ rest)
quoted_then s rest plain = ap (λ e. (34 ∷ (e ++ 34 ∷ [])) ++ rest) plain ∙ ap (λ l. 34 ∷ l) (append_assoc s (34 ∷ []) rest)

pub list_front_text : (version : List ℕ) → list_all is_plain_byte version ≡ true → codes "{\"apiVersion\":\"" ++ (version ++ codes "\",\"items\":[") ≡ list_front version
list_front_text version plain = sym (ap (λ x. codes "{\"apiVersion\":" ++ x) (quoted_then version (codes ",\"items\":[") (escape_plain version plain)))

pub list_back_text : (kind : List ℕ) (revision : ℕ) → list_all is_plain_byte kind ≡ true
    → codes "],\"kind\":\"" ++ (kind ++ (codes "\",\"metadata\":{\"resourceVersion\":\"" ++ (decimal revision ++ codes "\"}}"))) ≡ list_back kind revision None
list_back_text kind revision plain =
    sym (ap (λ x. codes "],\"kind\":" ++ x) (quoted_then kind (codes ",\"metadata\":{\"resourceVersion\":\"" ++ (decimal revision ++ codes "\"}}")) (escape_plain kind plain)))

pub bookmark_pieces_text : (version kind : List ℕ) (revision : ℕ) (annotations : List ℕ) → list_all is_plain_byte version ≡ true → list_all is_plain_byte kind ≡ true
    → codes "{\"apiVersion\":\"" ++ (version ++ (codes "\",\"kind\":\"" ++ (kind ++ (codes "\",\"metadata\":{" ++ (annotations ++ (codes "\"resourceVersion\":\"" ++ (decimal revision ++ codes "\"}}")))))))
    ≡ concat (codes "{\"apiVersion\":" ∷ quoted version ∷ codes ",\"kind\":" ∷ quoted kind ∷ codes ",\"metadata\":{" ∷ annotations ∷ codes "\"resourceVersion\":\"" ∷ decimal revision ∷ codes "\"}}" ∷ [])
bookmark_pieces_text version kind revision annotations plain plain_kind =
    let rest = codes ",\"metadata\":{" ++ (annotations ++ (codes "\"resourceVersion\":\"" ++ (decimal revision ++ codes "\"}}"))) in
    sym (ap (λ x. codes "{\"apiVersion\":" ++ x) (quoted_then version (codes ",\"kind\":" ++ (quoted kind ++ rest)) (escape_plain version plain)
    ∙ ap (λ x. 34 ∷ (version ++ (codes "\",\"kind\":" ++ x))) (quoted_then kind rest (escape_plain kind plain_kind))))

left_regrouped : (token left rest : List ℕ) → (codes "\"continue\":" ++ (token ++ (codes "," ++ (left ++ [])))) ++ rest ≡ codes "\"continue\":" ++ (token ++ (codes "," ++ (left ++ rest)))
left_regrouped token left rest = simp (append_assoc, append-nil)

pub list_more_text : (kind token opens count closes left revision : List ℕ) → list_all is_plain_byte kind ≡ true → opens ++ (count ++ closes) ≡ left
    → codes "],\"kind\":\"" ++ (kind ++ (codes "\",\"metadata\":{\"continue\":" ++ (token ++ (codes "," ++ (opens ++ (count ++ (closes ++ (codes "\"resourceVersion\":\"" ++ (revision ++ codes "\"}}")))))))))
    ≡ codes "],\"kind\":" ++ (quoted kind ++ (codes ",\"metadata\":{" ++ ((codes "\"continue\":" ++ (token ++ (codes "," ++ (left ++ [])))) ++ (codes "\"resourceVersion\":\"" ++ (revision ++ codes "\"}}")))))
list_more_text kind token opens count closes left revision plain told =
    let rest = codes "\"resourceVersion\":\"" ++ (revision ++ codes "\"}}") in
    let more = codes "\"continue\":" ++ (token ++ (codes "," ++ (left ++ []))) in
    let counted : left ++ rest ≡ opens ++ (count ++ (closes ++ rest)) = sym (ap (λ l. l ++ rest) told) ∙ simp append_assoc in
    let within : more ++ rest ≡ codes "\"continue\":" ++ (token ++ (codes "," ++ (opens ++ (count ++ (closes ++ rest))))) =
    left_regrouped token left rest ∙ ap (λ x. codes "\"continue\":" ++ (token ++ (codes "," ++ x))) counted in
    sym (ap (λ x. codes "],\"kind\":" ++ x) (quoted_then kind (codes ",\"metadata\":{" ++ (more ++ rest)) (escape_plain kind plain))
    ∙ ap (λ x. codes "],\"kind\":\"" ++ (kind ++ (codes "\",\"metadata\":{" ++ x))) within)

-- ---- the Status of a resource version that is too old

escape-append : (a b : List ℕ) → escape (a ++ b) ≡ escape a ++ escape b
escape-append [] b = refl
escape-append (x ∷ a) b = ap (λ y. escape_byte x ++ y) (escape-append a b) ∙ sym (append_assoc (escape_byte x) (escape a) (escape b))

plain-append : (a b : List ℕ) → escape a ≡ a → escape b ≡ b → escape (a ++ b) ≡ a ++ b
plain-append a b first second = escape-append a b ∙ ap (λ x. x ++ escape b) first ∙ ap (λ x. a ++ x) second

code_text : decimal 410 ≡ codes "410"
unfolding digits
code_text = refl

opens_plain : escape (codes "too old resource version: ") ≡ codes "too old resource version: "
unfolding escape_byte
opens_plain = refl

floor_plain : escape (codes " (") ≡ codes " ("
unfolding escape_byte
floor_plain = refl

closes_plain : escape (codes ")") ≡ codes ")"
unfolding escape_byte
closes_plain = refl

reason_text : quoted (codes "Expired") ≡ codes "\"Expired\""
unfolding escape_byte
reason_text = refl

message_plain : (n m : ℕ) → escape (expired_message n m) ≡ expired_message n m
message_plain n m =
    plain-append (codes "too old resource version: ") (decimal n ++ (codes " (" ++ (decimal m ++ codes ")"))) opens_plain
    (plain-append (decimal n) (codes " (" ++ (decimal m ++ codes ")")) (escape-decimal n)
    (plain-append (codes " (") (decimal m ++ codes ")") floor_plain
    (plain-append (decimal m) (codes ")") (escape-decimal m) closes_plain)))

abbrev expired_back : List ℕ
expired_back = codes ",\"metadata\":{},\"reason\":\"Expired\",\"status\":\"Failure\"}"

regrouped : (n m : List ℕ) (rest : List ℕ)
    → (codes "too old resource version: " ++ (n ++ (codes " (" ++ (m ++ codes ")")))) ++ rest ≡ codes "too old resource version: " ++ (n ++ (codes " (" ++ (m ++ (codes ")" ++ rest))))
regrouped n m rest = simp append_assoc

pub expired_pieces_text : (n m : ℕ)
    → codes "{\"apiVersion\":\"v1\",\"code\":410,\"kind\":\"Status\",\"message\":\"too old resource version: " ++ (decimal n ++ (codes " (" ++ (decimal m ++ codes ")\",\"metadata\":{},\"reason\":\"Expired\",\"status\":\"Failure\"}")))
    ≡ expired_text n m
expired_pieces_text n m =
    let message = expired_message n m in
    let front : expired_text n m ≡ codes "{\"apiVersion\":\"v1\",\"code\":410,\"kind\":\"Status\",\"message\":" ++ (quoted message ++ expired_back) =
    ap₂ (λ code reason. codes "{\"apiVersion\":\"v1\",\"code\":" ++ (code ++ (codes ",\"kind\":\"Status\",\"message\":" ++ (quoted message ++ (codes ",\"metadata\":{},\"reason\":" ++ (reason ++ codes ",\"status\":\"Failure\"}")))))) code_text reason_text in
    let within : quoted message ++ expired_back ≡ 34 ∷ (message ++ 34 ∷ expired_back) = quoted_then message expired_back (message_plain n m) in
    let apart : message ++ 34 ∷ expired_back ≡ codes "too old resource version: " ++ (decimal n ++ (codes " (" ++ (decimal m ++ (codes ")" ++ 34 ∷ expired_back)))) = regrouped (decimal n) (decimal m) (34 ∷ expired_back) in
    sym (front ∙ ap (λ x. codes "{\"apiVersion\":\"v1\",\"code\":410,\"kind\":\"Status\",\"message\":" ++ x) within
    ∙ ap (λ x. codes "{\"apiVersion\":\"v1\",\"code\":410,\"kind\":\"Status\",\"message\":\"" ++ x) apart)
