-- Bytes that stand for themselves.
use Rattle.std.proofs.Common.{◌≡◌, ℕ, ◌+◌, ◌<◌, Bool, true, false, ◌&&◌, List, [], ◌∷◌, ◌++◌, length, take, get_or, true≢false, refl, sym, ap, ◌∙◌, cond}
use Rattle.std.specs.Prelude.{All, IsAscii, IsTrue, Result, Ok, Err, OnOk, is_ok}
use Rattle.std.specs.Str.Lossy.{utf8_lossy}
use Rattle.std.proofs.lemmas.List.Elements.{All-head, All-tail, All-more, All-weaker}
use Rattle.std.proofs.lemmas.Str.Ascii.{IsAscii-from_all}
use Rattle.std.proofs.lemmas.Str.{IsUtf8-from_ascii, utf8_lossy-IsUtf8}
use Rattle.percent_encoding.specs.Percent.{percent_decode}
use Rattle.percent_encoding.proofs.PercentLemmas.{percent_decode-nil, percent_decode_not_percent}
use Rattle.form_urlencoded.specs.Form.{IsPlain, decode}
use Rattle.form_urlencoded.proofs.FormLemmas.{decode_plain}
use Rattle.http_read.specs.Pieces.{IsItself}

-- bytes that stand for themselves
pub itself-ascii : (bs : List ℕ) → All IsItself bs → IsAscii bs
itself-ascii bs all = IsAscii-from_all bs (All-weaker IsItself (λ b. b < 128) (λ b is. is.0) bs all)

itself-plain : (bs : List ℕ) → All IsItself bs → All IsPlain bs
itself-plain bs all = All-weaker IsItself IsPlain (λ b is. is.1) bs all

-- are text as they stand
pub plain-text : (bs : List ℕ) → All IsItself bs → utf8_lossy bs ≡ bs
plain-text bs all = utf8_lossy-IsUtf8 bs (IsUtf8-from_ascii bs (itself-ascii bs all))

-- in a path
percent_decode_plain : (bs : List ℕ) → All IsPlain bs → percent_decode bs ≡ bs
percent_decode_plain [] plain = percent_decode-nil
percent_decode_plain (b ∷ bs) plain =
    let first = All-head IsPlain b bs plain in
    percent_decode_not_percent b bs first.1 ∙ ap (λ l. b ∷ l) (percent_decode_plain bs (All-tail IsPlain b bs plain))

pub plain-segment : (bs : List ℕ) → All IsItself bs → utf8_lossy (percent_decode bs) ≡ bs
plain-segment bs all = ap utf8_lossy (percent_decode_plain bs (itself-plain bs all)) ∙ plain-text bs all

-- and in a query
pub plain-piece : (bs : List ℕ) → All IsItself bs → utf8_lossy (decode bs) ≡ bs
plain-piece bs all = ap utf8_lossy (decode_plain bs (itself-plain bs all)) ∙ plain-text bs all

-- what holds, holds where a call was well
pub on-ok : {T E P : Type 0} (r : Result T E) → P → OnOk r P
on-ok (Ok x) p = p
on-ok (Err e) p = tt

-- what was put behind a list, where that was well
pub appended : {T E : Type 0} (r : Result T E) (now was more : List ℕ) → now ≡ cond (is_ok r) (was ++ more) was → OnOk r (now ≡ was ++ more)
appended (Ok x) now was more e = e
appended (Err x) now was more e = tt

-- bytes that stand for themselves, up to and with one more
pub itself-more : (bs : List ℕ) (i d : ℕ) (was byte : Bool) → i < length bs → (IsTrue was → All IsItself (take i bs)) → (IsTrue byte → IsItself (get_or bs i d))
    → IsTrue (was && byte) → All IsItself (take (i + 1) bs)
itself-more bs i d true true h all this sure = All-more IsItself bs i d h (all refl) (this refl)
itself-more bs i d true false h all this sure = absurd (true≢false (sym sure))
itself-more bs i d false byte h all this sure = absurd (true≢false (sym sure))
