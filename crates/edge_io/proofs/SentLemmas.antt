-- What calls that write come to, one after another.
use Rattle.std.proofs.Common.{◌≡◌, ℕ, List, [], ◌++◌, refl, sym, ap, subst, ◌∙◌, Ok, Err}
use Rattle.std.specs.Prelude.{Option, Result, IsErr}
use Rattle.edge_io.specs.Told.{appended}
use Rattle.edge_io.specs.declared.fault.Failed.{Failed}
use Rattle.edge_io.proofs.ToldLemmas.{AppendedSome-second, AppendedSome-first, appended-appended, appended-nil}
use Rattle.edge_io.specs.Counts.{Rose}
use Rattle.edge_io.specs.Sent.{Sent, IsWrittenOut, IsBrokenOff, Writes}

-- what went through a sink, by its parts
abbrev pub sent_of : Option (List ℕ) → Option (List ℕ) → Type 0 → Type 0 → ℕ → ℕ → Sent
sent_of a b s t f g = record { written_old = a; written_new = b; settled_old = s; settled_new = t; faults_old = f; faults_new = g }

-- the same, where it doesn't matter what is held back
abbrev pub bytes_of : Option (List ℕ) → Option (List ℕ) → ℕ → ℕ → Sent
bytes_of a b f g = sent_of a b (Unit {0}) (Unit {0}) f g

-- nothing was done
pub written-nothing : (a : Option (List ℕ)) (f : ℕ) → IsWrittenOut [] (bytes_of a a f f)
written-nothing a f = (sym (appended-nil a), refl)

-- a text breaks off in its first part
pub broken-first : (a b : Option (List ℕ)) (f g : ℕ) (first second : List ℕ)
    → IsBrokenOff first (bytes_of a b f g) → IsBrokenOff (first ++ second) (bytes_of a b f g)
broken-first a b f g first second p = (AppendedSome-first a b first second p.0, p.1)

-- behind a text that was written another one is, or breaks off
module _ (a b c : Option (List ℕ)) (f g h : ℕ) (first second : List ℕ) (before : IsWrittenOut first (bytes_of a b f g)) where
  pub written-behind : IsWrittenOut second (bytes_of b c g h) → IsWrittenOut (first ++ second) (bytes_of a c f h)
  written-behind p = (p.0 ∙ ap (λ m. appended m second) before.0 ∙ appended-appended a first second, p.1 ∙ before.1)

  pub broken-behind : IsBrokenOff second (bytes_of b c g h) → IsBrokenOff (first ++ second) (bytes_of a c f h)
  broken-behind p = (AppendedSome-second a b c first second before.0 p.0, subst (λ n. Rose n h) before.1 p.1)

-- a call that failed broke its text off
pub writes-broken : {A : Type 0} (r : Result A Failed) (text : List ℕ) (sent : Sent) → IsErr r → IsBrokenOff text sent → Writes r text sent
writes-broken (Ok v) text sent failed p = absurd (cc)
writes-broken (Err e) text sent failed p = p

-- the text is this one
pub writes-as : {A : Type 0} (r : Result A Failed) (text other : List ℕ) (sent : Sent) → text ≡ other → Writes r text sent → Writes r other sent
writes-as r text other sent same p = subst (λ t. Writes r t sent) same p

-- a call writes a text behind another one
pub writes-behind : {A : Type 0} (r : Result A Failed) (a b c : Option (List ℕ)) (s t u : Type 0) (f g h : ℕ) (first second : List ℕ)
    → IsWrittenOut first (bytes_of a b f g) → Writes r second (sent_of b c t u g h) → Writes r (first ++ second) (sent_of a c s u f h)
writes-behind (Ok v) a b c s t u f g h first second before p = written-behind a b c f g h first second before p
writes-behind (Err e) a b c s t u f g h first second before p = broken-behind a b c f g h first second before p
