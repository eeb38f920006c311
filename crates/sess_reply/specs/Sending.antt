-- What writing a text comes to, where memory may be wanting.
use Rattle.std.specs.Prelude.{◌≡◌, List, ℕ, Result, Ok, Err, OnOk}
use Rattle.edge_io.specs.Told.{appended, AppendedSome}
use Rattle.edge_io.specs.Counts.{Rose}
use Rattle.edge_io.specs.Sent.{Sent}
use Rattle.sess_reply.specs.declared.broken.Broken.{Broken}
use Rattle.sess_reply.specs.declared.broken.Broken.TheVariants.{Fault, Memory}

-- what was written of a text: all of it, or a beginning where the call stopped
abbrev pub Shows : {A : Type 0} → Result A Broken → List ℕ → Sent → Type 0
Shows (Ok done) text sent = sent.written_new ≡ appended sent.written_old text
Shows (Err why) text sent = AppendedSome sent.written_old sent.written_new text

-- the sink's count of faults: it rose where the sink failed, and else it stays
abbrev pub Counts : {A : Type 0} → Result A Broken → Sent → Type 0
Counts (Ok done) sent = sent.faults_new ≡ sent.faults_old
Counts (Err Fault) sent = Rose sent.faults_old sent.faults_new
Counts (Err Memory) sent = sent.faults_new ≡ sent.faults_old

-- what a call that emits a text comes to
abbrev pub Emits : {A : Type 0} → Result A Broken → List ℕ → Sent → Type 0
Emits result text sent = Shows result text sent × Counts result sent

-- what a call comes to that emits a text and sends it on, so that nothing is held back
abbrev pub Sends : {A : Type 0} → Result A Broken → List ℕ → Sent → Type 0
Sends result text sent = Emits result text sent × OnOk result sent.settled_new
