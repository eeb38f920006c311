-- What went through a sink in a call, and what a call that writes a text comes to.
use Rattle.std.specs.Prelude.{◌≡◌, ℕ, List, Option, Result, Ok, Err}
use Rattle.edge_io.specs.Counts.{Rose}
use Rattle.edge_io.specs.Told.{appended, AppendedSome}
use Rattle.edge_io.specs.declared.fault.Failed.{Failed}

-- what went through a sink: what was written, where it is told; whether nothing is held back; and its count of faults
pub record Sent : Type 1 where
  pub written_old : Option (List ℕ)
  pub written_new : Option (List ℕ)
  pub settled_old : Type 0
  pub settled_new : Type 0
  pub faults_old : ℕ
  pub faults_new : ℕ

-- what went through a sink, by what it tells before and after
abbrev pub sent_through : {K : Type 0} → (K → Option (List ℕ)) → (K → Type 0) → (K → ℕ) → K → K → Sent
sent_through written settled faults old new = record {
  written_old = written old;
  written_new = written new;
  settled_old = settled old;
  settled_new = settled new;
  faults_old = faults old;
  faults_new = faults new;
}

-- all of the text was written, and no fault was counted
abbrev pub IsWrittenOut : List ℕ → Sent → Type 0
IsWrittenOut text sent = (sent.written_new ≡ appended sent.written_old text) × (sent.faults_new ≡ sent.faults_old)

-- the same, and nothing is held back
abbrev pub IsSentOn : List ℕ → Sent → Type 0
IsSentOn text sent = IsWrittenOut text sent × sent.settled_new

-- a fault was counted behind a beginning of the text, maybe all of it
abbrev pub IsBrokenOff : List ℕ → Sent → Type 0
IsBrokenOff text sent = AppendedSome sent.written_old sent.written_new text × Rose sent.faults_old sent.faults_new

-- what a call that writes a text comes to: it is written out, or broken off
abbrev pub Writes : {A : Type 0} → Result A Failed → List ℕ → Sent → Type 0
Writes (Ok done) text sent = IsWrittenOut text sent
Writes (Err failed) text sent = IsBrokenOff text sent
