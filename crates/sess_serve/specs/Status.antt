-- The exit status of each end of a session.
use Rattle.std.specs.Prelude.{ℕ}
use Rattle.sess_serve.specs.declared.ends.SessionEnd.{SessionEnd}
use Rattle.sess_serve.specs.declared.ends.SessionEnd.TheVariants.{Done, Watched, ReadFault, WriteFault, CutShort, Refused, TooMany, Memory}

-- the exit status of a program that ran one session, by its end: 0 where all was answered or a watch ended
abbrev pub status_of : SessionEnd → ℕ
status_of Done = 0
status_of (Watched how) = 0
status_of ReadFault = 3
status_of WriteFault = 4
status_of CutShort = 5
status_of (Refused fault) = 6
status_of TooMany = 7
status_of Memory = 8
