-- The text of a reply is that of one content.
use Rattle.std.proofs.Common.{◌≡◌, ℕ, ◌<◌, ◌^◌, Bool, true, false, List, [], ◌∷◌, ◌++◌, length, get_or, Some, refl, sym, ap, ◌∙◌, arith, append_assoc, length-append, codes}
use Rattle.std.specs.Prelude.{decimal}
use Rattle.std.specs.List.{concat}
use Rattle.std.specs.Str.Parse.{AllDigits}
use Rattle.std.proofs.lemmas.Fmt.{decimal_is_IsNumeral, decimal_injective}
use Rattle.std.proofs.lemmas.List.{append_cancel_left, append_cancel_right}
use Rattle.std.proofs.lemmas.Str.Parse.{digit_from_value}
use Rattle.http_send.specs.Replies.{phrase, text_where, content_type_line}
use Rattle.http_send.specs.declared.replies.ContentType.{ContentType}
use Rattle.http_send.specs.declared.replies.ContentType.TheVariants.{Json, PlainText, MetricsText, OpenApi}
use Rattle.sess_reply.specs.Contents.{Content}
use Rattle.sess_reply.specs.Replies.{content_text}
use Rattle.laws.specs.ReplyTexts.{MayBeSent, RepliesTellApart}

abbrev head_of : List ℕ → ℕ
head_of [] = 0
head_of (b ∷ bytes) = b

abbrev tail_of : List ℕ → List ℕ
tail_of [] = []
tail_of (b ∷ bytes) = bytes

-- ---- where a number ends

-- behind the digits of a number a byte stands that is below all digits
digits_end : (a b : List ℕ) (x y : ℕ) (xs ys : List ℕ) → AllDigits 10 a → AllDigits 10 b → x < 48 → y < 48 → a ++ x ∷ xs ≡ b ++ y ∷ ys → (a ≡ b) × (x ∷ xs ≡ y ∷ ys)
digits_end [] [] x y xs ys da db low below e = (refl, e)
digits_end [] (c ∷ b) x y xs ys da db low below e = absurd (omega (arith, low, digit_from_value c db.0, ap head_of e))
digits_end (c ∷ a) [] x y xs ys da db low below e = absurd (omega (arith, below, digit_from_value c da.0, ap head_of e))
digits_end (c ∷ a) (d ∷ b) x y xs ys da db low below e =
    let more = digits_end a b x y xs ys da.1 db.1 low below (ap tail_of e) in
    (ap (λ l. c ∷ l) more.0 ∙ ap (λ (v : ℕ). v ∷ b) (ap head_of e), more.1)

numbers_end : (m n x y : ℕ) (xs ys : List ℕ) → m < 2 ^ 64 → n < 2 ^ 64 → x < 48 → y < 48 → decimal m ++ x ∷ xs ≡ decimal n ++ y ∷ ys → (m ≡ n) × (x ∷ xs ≡ y ∷ ys)
numbers_end m n x y xs ys small few low below e =
    let ends = digits_end (decimal m) (decimal n) x y xs ys (decimal_is_IsNumeral m small).0.1 (decimal_is_IsNumeral n few).0.1 low below e in
    (decimal_injective m n small few ends.0, ends.1)

-- ---- the parts of a head

-- what follows the length
abbrev behind_length : Bool → Bool → List ℕ → List ℕ
behind_length retry close body =
    text_where retry (codes "\r\nRetry-After: 1") ++ (text_where close (codes "\r\nConnection: close") ++ (codes "\r\n\r\n" ++ body))

-- it begins with a carriage return
abbrev after_return : Bool → Bool → List ℕ → List ℕ
after_return retry close body = tail_of (behind_length retry close body)

begins_so : (retry close : Bool) (body : List ℕ) → behind_length retry close body ≡ 13 ∷ after_return retry close body
begins_so true close body = refl
begins_so false true body = refl
begins_so false false body = refl

-- the third byte tells which line it is
third : (a b : List ℕ) → a ≡ b → get_or a 2 0 ≡ get_or b 2 0
third a b e = ap (λ l. get_or l 2 0) e

close_is : (close later : Bool) (a b : List ℕ) → text_where close (codes "\r\nConnection: close") ++ (codes "\r\n\r\n" ++ a) ≡ text_where later (codes "\r\nConnection: close") ++ (codes "\r\n\r\n" ++ b)
    → (close ≡ later) × (a ≡ b)
close_is true true a b e =
    (refl, append_cancel_left (codes "\r\n\r\n") a b (append_cancel_left (codes "\r\nConnection: close") (codes "\r\n\r\n" ++ a) (codes "\r\n\r\n" ++ b) e))
close_is true false a b e = absurd (omega (arith, third (codes "\r\nConnection: close" ++ (codes "\r\n\r\n" ++ a)) (codes "\r\n\r\n" ++ b) e))
close_is false true a b e = absurd (omega (arith, third (codes "\r\n\r\n" ++ a) (codes "\r\nConnection: close" ++ (codes "\r\n\r\n" ++ b)) e))
close_is false false a b e = (refl, append_cancel_left (codes "\r\n\r\n") a b e)

retry_is : (retry again close later : Bool) (a b : List ℕ) → behind_length retry close a ≡ behind_length again later b → (retry ≡ again) × (close ≡ later) × (a ≡ b)
retry_is true true close later a b e =
    let more = close_is close later a b (append_cancel_left (codes "\r\nRetry-After: 1") _ _ e) in (refl, more.0, more.1)
retry_is true false true later a b e = absurd (no_retry true later a b e)
  where
    no_retry : (close later : Bool) (a b : List ℕ) → behind_length true close a ≡ behind_length false later b → ⊥
    no_retry close true a b e = omega (arith, ap (λ l. get_or l 2 0) e)
    no_retry close false a b e = omega (arith, ap (λ l. get_or l 2 0) e)
retry_is true false false later a b e = absurd (no_retry false later a b e)
  where
    no_retry : (close later : Bool) (a b : List ℕ) → behind_length true close a ≡ behind_length false later b → ⊥
    no_retry close true a b e = omega (arith, ap (λ l. get_or l 2 0) e)
    no_retry close false a b e = omega (arith, ap (λ l. get_or l 2 0) e)
retry_is false true true later a b e = absurd (omega (arith, ap (λ l. get_or l 2 0) e))
retry_is false true false later a b e = absurd (omega (arith, ap (λ l. get_or l 2 0) e))
retry_is false false close later a b e = let more = close_is close later a b e in (refl, more.0, more.1)

-- the kinds of texts differ in a byte, the 17th or the 29th
kind_is : (kind other : ContentType) (a b : List ℕ) → content_type_line kind ++ a ≡ content_type_line other ++ b → (kind ≡ other) × (a ≡ b)
kind_is Json Json a b e = (refl, append_cancel_left (content_type_line Json) a b e)
kind_is Json PlainText a b e = absurd (omega (arith, ap (λ l. get_or l 16 0) e))
kind_is Json MetricsText a b e = absurd (omega (arith, ap (λ l. get_or l 16 0) e))
kind_is Json OpenApi a b e = absurd (omega (arith, ap (λ l. get_or l 28 0) e))
kind_is PlainText Json a b e = absurd (omega (arith, ap (λ l. get_or l 16 0) e))
kind_is PlainText PlainText a b e = (refl, append_cancel_left (content_type_line PlainText) a b e)
kind_is PlainText MetricsText a b e = absurd (omega (arith, ap (λ l. get_or l 28 0) e))
kind_is PlainText OpenApi a b e = absurd (omega (arith, ap (λ l. get_or l 16 0) e))
kind_is MetricsText Json a b e = absurd (omega (arith, ap (λ l. get_or l 16 0) e))
kind_is MetricsText PlainText a b e = absurd (omega (arith, ap (λ l. get_or l 28 0) e))
kind_is MetricsText MetricsText a b e = (refl, append_cancel_left (content_type_line MetricsText) a b e)
kind_is MetricsText OpenApi a b e = absurd (omega (arith, ap (λ l. get_or l 16 0) e))
kind_is OpenApi Json a b e = absurd (omega (arith, ap (λ l. get_or l 28 0) e))
kind_is OpenApi PlainText a b e = absurd (omega (arith, ap (λ l. get_or l 16 0) e))
kind_is OpenApi MetricsText a b e = absurd (omega (arith, ap (λ l. get_or l 16 0) e))
kind_is OpenApi OpenApi a b e = (refl, append_cancel_left (content_type_line OpenApi) a b e)

-- ---- the whole

-- parts, one after the other, in front of a body
abbrev joined : List (List ℕ) → List ℕ → List ℕ
joined [] body = body
joined (part ∷ parts) body = part ++ joined parts body

joins : (parts : List (List ℕ)) (body : List ℕ) → concat parts ++ body ≡ joined parts body
joins [] body = refl
joins (part ∷ parts) body = append_assoc part (concat parts) body ∙ ap (λ l. part ++ l) (joins parts body)

-- what stands behind the phrase of a status
abbrev behind_phrase : Bool → Content → List ℕ
behind_phrase close c =
    content_type_line c.kind
    ++ (codes "\r\nContent-Length: "
    ++ (decimal (length (c.text ++ 10 ∷ [])) ++ behind_length c.retry close (c.text ++ 10 ∷ [])))

-- a reply in its parts
abbrev behind_code : Bool → Content → List ℕ
behind_code close c = phrase c.code ++ behind_phrase close c

in_parts : (close : Bool) (c : Content) → content_text close (Some c) ≡ codes "HTTP/1.1 " ++ (decimal c.code ++ 32 ∷ behind_code close c)
in_parts close c =
    joins (codes "HTTP/1.1 " ∷ decimal c.code ∷ codes " " ∷ phrase c.code ∷ content_type_line c.kind ∷ codes "\r\nContent-Length: " ∷ decimal (length (c.text ++ 10 ∷ []))
    ∷ text_where c.retry (codes "\r\nRetry-After: 1") ∷ text_where close (codes "\r\nConnection: close") ∷ codes "\r\n\r\n" ∷ []) (c.text ++ 10 ∷ [])

one_content : (close later : Bool) (a b : Content) → MayBeSent a → MayBeSent b → content_text close (Some a) ≡ content_text later (Some b) → (a ≡ b) × (close ≡ later)
one_content close later a b sent also e =
    let size : Content → ℕ = λ c. length (c.text ++ 10 ∷ []) in
    let codes_are = numbers_end a.code b.code 32 32 (behind_code close a) (behind_code later b) (omega (arith, sent.code)) (omega (arith, also.code)) (omega arith) (omega arith)
    (append_cancel_left (codes "HTTP/1.1 ") _ _ (sym (in_parts close a) ∙ e ∙ in_parts later b)) in
    let behind : behind_code close a ≡ behind_code later b = ap tail_of codes_are.1 in
    let kinds = kind_is a.kind b.kind _ _ (append_cancel_left (phrase a.code) _ _ (behind ∙ ap (λ (n : ℕ). phrase n ++ behind_phrase later b) (sym codes_are.0))) in
    let lengths = numbers_end (size a) (size b) 13 13 (after_return a.retry close (a.text ++ 10 ∷ [])) (after_return b.retry later (b.text ++ 10 ∷ []))
    (omega (arith, sent.fits, length-append a.text (10 ∷ []))) (omega (arith, also.fits, length-append b.text (10 ∷ []))) (omega arith) (omega arith)
    (ap (λ l. decimal (size a) ++ l) (sym (begins_so a.retry close (a.text ++ 10 ∷ [])))
    ∙ append_cancel_left (codes "\r\nContent-Length: ") _ _ kinds.1 ∙ ap (λ l. decimal (size b) ++ l) (begins_so b.retry later (b.text ++ 10 ∷ []))) in
    let rest = retry_is a.retry b.retry close later (a.text ++ 10 ∷ []) (b.text ++ 10 ∷ [])
    (begins_so a.retry close (a.text ++ 10 ∷ []) ∙ lengths.1 ∙ sym (begins_so b.retry later (b.text ++ 10 ∷ []))) in
    let text : a.text ≡ b.text = append_cancel_right a.text b.text (10 ∷ []) rest.2 in
    ((λ i. record { code = codes_are.0 i; retry = rest.0 i; kind = kinds.0 i; text = text i }), rest.1)

pub replies_tell_apart : RepliesTellApart
replies_tell_apart form other close later reply again said told is also sent may e =
    one_content close later said told sent may (ap (content_text close) (sym is) ∙ e ∙ ap (content_text later) also)
