-- What calls come to that emit a text or send it, one after another.
use Rattle.std.proofs.Common.{◌≡◌, ℕ, List, [], ◌∷◌, ◌++◌, Bool, refl, sym, ◌∙◌, subst, arith, append-nil, Ok, Err, Some}
use Rattle.std.specs.Prelude.{Option, Result, IsErrAnd}
use Rattle.edge_io.specs.Counts.{Rose}
use Rattle.edge_io.proofs.ToldLemmas.{AppendedSome-second, AppendedSome-first, AppendedSome-nil, appended-nil}
use Rattle.http_send.specs.Replies.{typed_reply_text}
use Rattle.edge_io.specs.Sent.{Sent, IsWrittenOut, IsBrokenOff}
use Rattle.http_send.specs.declared.replies.ContentType.{ContentType}
use Rattle.edge_io.proofs.SentLemmas.{sent_of, bytes_of, written-behind, broken-behind}
use Rattle.api_errors.specs.declared.failures.Failure.{Failure}
use Rattle.sess_reply.specs.Contents.{Content, refusal_content}
use Rattle.sess_reply.specs.Replies.{content_text}
use Rattle.sess_reply.specs.Sending.{Emits, Sends}
use Rattle.sess_reply.specs.declared.broken.Broken.{Broken}
use Rattle.sess_reply.specs.declared.broken.Broken.TheVariants.{Fault, Memory}

-- ---- one text

-- what is held back was sent on, or that failed
pub flushed : (a b : Option (List ℕ)) (f g : ℕ) → b ≡ a → g ≡ f → IsWrittenOut [] (bytes_of a b f g)
flushed a b f g kept quiet = (kept ∙ sym (appended-nil a), quiet)

pub flush-broken : (a b : Option (List ℕ)) (f g : ℕ) → b ≡ a → Rose f g → IsBrokenOff [] (bytes_of a b f g)
flush-broken a b f g kept rose = (([], [], refl, kept ∙ sym (appended-nil a)), rose)

-- a call that the sink failed broke its text off
pub emits-broken : {A : Type 0} (r : Result A Broken) (text : List ℕ) (sent : Sent)
    → IsErrAnd r (λ why. why ≡ Fault) → IsBrokenOff text sent → Emits r text sent
emits-broken r text sent failed p = grind arith

pub sends-broken : {A : Type 0} (r : Result A Broken) (text : List ℕ) (sent : Sent)
    → IsErrAnd r (λ why. why ≡ Fault) → IsBrokenOff text sent → Sends r text sent
sends-broken r text sent failed p = grind arith

-- a call that had no memory before anything was written
pub sends-nothing : {A : Type 0} (r : Result A Broken) (a : Option (List ℕ)) (s : Type 0) (f : ℕ) (text : List ℕ)
    → IsErrAnd r (λ why. why ≡ Memory) → Sends r text (sent_of a a s s f f)
sends-nothing r a s f text failed = let none = AppendedSome-nil a text in grind (arith, none)

-- a call that passes an error on
pub emits-error : (A : Type 0) {B : Type 0} (r : Result B Broken) (why : Broken) (text : List ℕ) (sent : Sent)
    → IsErrAnd r (λ e. e ≡ why) → Emits {A = A} (Err why) text sent → Emits r text sent
emits-error A r why text sent failed p = grind (arith, p)

pub sends-error : (A : Type 0) {B : Type 0} (r : Result B Broken) (why : Broken) (text : List ℕ) (sent : Sent)
    → IsErrAnd r (λ e. e ≡ why) → Emits {A = A} (Err why) text sent → Sends r text sent
sends-error A r why text sent failed p = grind (arith, p)

-- the text is this one
pub emits-as : {A : Type 0} (r : Result A Broken) (text other : List ℕ) (sent : Sent) → text ≡ other → Emits r text sent → Emits r other sent
emits-as r text other sent same p = subst (λ t. Emits r t sent) same p

pub sends-as : {A : Type 0} (r : Result A Broken) (text other : List ℕ) (sent : Sent) → text ≡ other → Sends r text sent → Sends r other sent
sends-as r text other sent same p = subst (λ t. Sends r t sent) same p

-- ---- a text in two parts

-- a call that failed in the first part
pub emits-first : (A : Type 0) (why : Broken) (first second : List ℕ) (sent : Sent) → Emits {A = A} (Err why) first sent → Emits {A = A} (Err why) (first ++ second) sent
emits-first A why first second sent p = (AppendedSome-first sent.written_old sent.written_new first second p.0, p.1)

-- a call in the second part, where the first is written out
pub emits-behind : {A : Type 0} (r : Result A Broken) (a b c : Option (List ℕ)) (s t u : Type 0) (f g h : ℕ) (first second : List ℕ)
    → IsWrittenOut first (bytes_of a b f g) → Emits r second (sent_of b c t u g h) → Emits r (first ++ second) (sent_of a c s u f h)
emits-behind (Ok v) a b c s t u f g h first second before p = written-behind a b c f g h first second before p
emits-behind (Err Fault) a b c s t u f g h first second before p = broken-behind a b c f g h first second before p
emits-behind (Err Memory) a b c s t u f g h first second before p = (AppendedSome-second a b c first second before.0 p.0, p.1 ∙ before.1)

pub sends-behind : {A : Type 0} (r : Result A Broken) (a b c : Option (List ℕ)) (s t u : Type 0) (f g h : ℕ) (first second : List ℕ)
    → IsWrittenOut first (bytes_of a b f g) → Sends r second (sent_of b c t u g h) → Sends r (first ++ second) (sent_of a c s u f h)
sends-behind r a b c s t u f g h first second before p = (emits-behind r a b c s t u f g h first second before p.0, p.1)

-- what is written out is sent on
pub sends-on : {A : Type 0} (r : Result A Broken) (a b c : Option (List ℕ)) (s t u : Type 0) (f g h : ℕ) (text : List ℕ)
    → IsWrittenOut text (bytes_of a b f g) → Sends r [] (sent_of b c t u g h) → Sends r text (sent_of a c s u f h)
sends-on r a b c s t u f g h text before p =
    sends-as r (text ++ []) text (sent_of a c s u f h) (append-nil text) (sends-behind r a b c s t u f g h text [] before p)

-- ---- replies

-- what is sent is a content's text
pub content-sends : {A : Type 0} (r : Result A Broken) (sent : Sent) (kind : ContentType) (code : ℕ) (retry close : Bool) (text : List ℕ) (content : Content)
    → kind ≡ content.kind → code ≡ content.code → retry ≡ content.retry → text ≡ content.text
    → Sends r (typed_reply_text kind code retry close (text ++ 10 ∷ [])) sent → Sends r (content_text close (Some content)) sent
content-sends r sent kind code retry close text content kind_is code_is retry_is text_is p =
    sends-as r (typed_reply_text kind code retry close (text ++ 10 ∷ [])) (content_text close (Some content)) sent (cc (kind_is, code_is, retry_is, text_is)) p

-- what is sent is what is told
pub told-sends : {A : Type 0} (r : Result A Broken) (sent : Sent) (close : Bool) (told other : Option Failure) → told ≡ other
    → Sends r (content_text close (refusal_content told)) sent → Sends r (content_text close (refusal_content other)) sent
told-sends r sent close told other same p = subst (λ t. Sends r (content_text close (refusal_content t)) sent) same p
