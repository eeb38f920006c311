-- Lemmas on what ends tell.
use Rattle.std.proofs.Common.{◌≡◌, ℕ, ◌+◌, ◌-◌, List, [], ◌++◌, None, Some, length, take, drop, refl, sym, ap, ◌∙◌, append_assoc, append-nil, take-append-drop, take_all, take-add, length-drop, subst, arith}
use Rattle.std.specs.Prelude.{Option, IsSome}
use Rattle.edge_io.specs.Told.{appended, prepended, AppendedSome, Noted}

-- two texts went out, one after the other
pub appended-appended : {A : Type 0} (old : Option (List A)) (first second : List A)
    → appended (appended old first) second ≡ appended old (first ++ second)
appended-appended None first second = refl
appended-appended (Some sofar) first second = ap Some (append_assoc sofar first second)

-- nothing went out
pub appended-nil : {A : Type 0} (old : Option (List A)) → appended old [] ≡ old
appended-nil None = refl
appended-nil (Some sofar) = ap Some (append-nil sofar)

-- two texts were taken, one after the other
pub prepended-prepended : {A : Type 0} (first second : List A) (new : Option (List A))
    → prepended first (prepended second new) ≡ prepended (first ++ second) new
prepended-prepended first second None = refl
prepended-prepended first second (Some rest) = ap Some (sym (append_assoc first second rest))

-- nothing was taken
pub prepended-nil : {A : Type 0} (new : Option (List A)) → prepended [] new ≡ new
prepended-nil None = refl
prepended-nil (Some rest) = refl

-- nothing of a text went out
pub AppendedSome-nil : {A : Type 0} (old : Option (List A)) (text : List A) → AppendedSome old old text
AppendedSome-nil old text = ([], text, refl, sym (appended-nil old))

-- the whole text went out
pub AppendedSome-whole : {A : Type 0} (old new : Option (List A)) (text : List A) → new ≡ appended old text → AppendedSome old new text
AppendedSome-whole old new text e = (text, [], sym (append-nil text), e)

-- a beginning of the first text is one of both
pub AppendedSome-first : {A : Type 0} (old new : Option (List A)) (first second : List A)
    → AppendedSome old new first → AppendedSome old new (first ++ second)
AppendedSome-first old new first second p =
    (p.0, p.1 ++ second, ap (λ l. l ++ second) p.2 ∙ append_assoc p.0 p.1 second, p.3)

-- the first text went out, and a beginning of the second
pub AppendedSome-second : {A : Type 0} (old mid new : Option (List A)) (first second : List A)
    → mid ≡ appended old first → AppendedSome mid new second → AppendedSome old new (first ++ second)
AppendedSome-second old mid new first second e p = (
  first ++ p.0,
  p.1,
  ap (λ l. first ++ l) p.2 ∙ sym (append_assoc first p.0 p.1),
  p.3 ∙ ap (λ m. appended m p.0) e ∙ appended-appended old first p.0,
)

-- the slice from `at` on is what is left there
pub slice_from : (bytes : List ℕ) (at : ℕ) → take (length bytes - at) (drop at bytes) ≡ drop at bytes
slice_from bytes at = take_all (length bytes - at) (drop at bytes) (simp length-drop (omega arith))

-- after the first `at` bytes went out, and `n` of those behind them
pub appended-next : (old mid new : Option (List ℕ)) (bytes : List ℕ) (at n : ℕ)
    → mid ≡ appended old (take at bytes) → new ≡ appended mid (take n (take (length bytes - at) (drop at bytes)))
    → new ≡ appended old (take (at + n) bytes)
appended-next old mid new bytes at n before now =
    now
    ∙ ap (λ l. appended mid (take n l)) (slice_from bytes at)
    ∙ ap (λ m. appended m (take n (drop at bytes))) before
    ∙ appended-appended old (take at bytes) (take n (drop at bytes))
    ∙ ap (appended old) (sym (take-add at n bytes))

-- the first `at` bytes went out
pub AppendedSome-front : (old new : Option (List ℕ)) (bytes : List ℕ) (at : ℕ)
    → new ≡ appended old (take at bytes) → AppendedSome old new bytes
AppendedSome-front old new bytes at e = (take at bytes, drop at bytes, sym (take-append-drop at bytes), e)

-- nothing was noted
pub Noted-nil : {A : Type 0} (old : Option (List A)) → Noted old old []
Noted-nil old told = sym (appended-nil old)

-- what was appended to is told where the whole is
told_before : {A : Type 0} (mid : Option (List A)) (more : List A) → IsSome (appended mid more) → IsSome mid
told_before None more told = told
told_before (Some sofar) more told = refl

-- what was noted first and what was noted then join
pub Noted-join : {A : Type 0} (old mid new : Option (List A)) (first second : List A)
    → Noted old mid first → Noted mid new second → Noted old new (first ++ second)
Noted-join old mid new first second before now told =
    let e = now told in
    let mid_told = told_before mid second (subst IsSome e told) in
    e ∙ ap (λ m. appended m second) (before mid_told) ∙ appended-appended old first second
