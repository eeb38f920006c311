-- What asking for a watch comes to.
use Rattle.std.specs.Prelude.{ℕ, List, [], Result, Ok, Err}
use Rattle.edge_io.specs.Sent.{Sent, IsWrittenOut, IsSentOn, IsBrokenOff}
use Rattle.line_stream.specs.declared.asking.AskNo.{AskNo}
use Rattle.line_stream.specs.declared.asking.AskNo.TheVariants.{WriteFault, Memory}

-- the request was sent on; or it was broken off; or there was no memory for it, and nothing was written
abbrev pub Asks : Result (Unit {0}) AskNo → List ℕ → Sent → Type 0
Asks (Ok asked) text sent = IsSentOn text sent
Asks (Err WriteFault) text sent = IsBrokenOff text sent
Asks (Err Memory) text sent = IsWrittenOut [] sent
