-- The replies of a session, and how many of them have which codes.
use Rattle.std.specs.Prelude.{◌≡◌, ℕ, ◌+◌, ◌⊎◌, List, [], ◌∷◌, ◌++◌, length, count_by, nat_lt, Bool, Option, None, Some}
use Rattle.std.specs.List.{flat_map}
use Rattle.api_errors.specs.Reasons.{code_of as reason_code}
use Rattle.api_errors.specs.declared.reasons.Reason.{Reason}
use Rattle.http_read.specs.declared.request.Req.{Req}
use Rattle.http_send.specs.Replies.{typed_reply_text}
use Rattle.http_send.specs.declared.replies.ContentType.{ContentType}
use Rattle.sess_reply.specs.Contents.{Content}
use Rattle.sess_reply.specs.Replies.{content_of, form_of}
use Rattle.sess_serve.specs.Answers.{Answer, replied, streamed}
use Rattle.sess_serve.specs.Steps.{Exchange}

-- the code of a reply that says something
abbrev pub code_in : Option Content → List ℕ
code_in None = []
code_in (Some content) = content.code ∷ []

-- the status code of the reply to a request; a stream has none that counts
abbrev pub reply_code : Req → Answer → List ℕ
reply_code req (replied reply) = code_in (content_of (form_of req) reply)
reply_code req (streamed ask stream) = []

-- the codes of the replies, in order
abbrev pub codes_of : List Exchange → List ℕ
codes_of exchanges = flat_map (λ (e : Exchange). reply_code e.request e.answer) exchanges

-- the request wasn't refused
abbrev pub is_ok : ℕ → Bool
is_ok code = nat_lt code 400

-- of the replies before the last, so many have a code below 400, and so many another
pub record AreCounted (replies : List ℕ) (ok refused : ℕ) : Type 0 where
  pub before : List ℕ
  pub last : ℕ
  pub parted : replies ≡ before ++ last ∷ []
  pub ok_is : ok ≡ count_by is_ok before
  pub others : ok + refused ≡ length before

-- ---- replies in the bytes that were written

-- the codes that replies have: that of an accepted request, of an accepted create, of a server that isn't ready, and those
-- of failures
abbrev pub IsCode : ℕ → Type 0
IsCode code = (code ≡ 200) ⊎ ((code ≡ 201) ⊎ ((code ≡ 503) ⊎ ((reason : Reason) × (code ≡ reason_code reason))))

-- a whole reply with this code
pub record IsReply (code : ℕ) (text : List ℕ) : Type 0 where
  pub kind : ContentType
  pub retry : Bool
  pub close : Bool
  pub body : List ℕ
  pub text_is : text ≡ typed_reply_text kind code retry close body
  pub known : IsCode code

-- replies with these codes, one after the other
abbrev pub AreReplies : List ℕ → List ℕ → Type 0
AreReplies [] text = text ≡ []
AreReplies (code ∷ others) text =
    (first : List ℕ) × (rest : List ℕ) × (text ≡ first ++ rest) × IsReply code first × AreReplies others rest
