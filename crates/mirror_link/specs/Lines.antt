-- What a mirror's log makes of a line, as it was read.
use Rattle.std.specs.Prelude.{◌≡◌, ℕ, ◌^◌, ◌<◌, ◌≤◌, ◌⊎◌, List, Option, None, Some, Result, Ok, Err, option_map}
use Rattle.kube_meta.specs.declared.resources.Resource.TheVariants.{Pods}
use Rattle.rev_log.specs.Logs.{end_of}
use Rattle.watch_lines.specs.Laws.{as_read}
use Rattle.watch_lines.specs.Lines.{ReadsPeerLine}
use Rattle.watch_lines.specs.declared.peer_line.PeerLine.{PeerLine}
use Rattle.watch_lines.specs.declared.peer_line.PeerLine.TheVariants as peer
use Rattle.watch_rules.specs.Bodies.{Line}
use Rattle.mirror_log.specs.Faults.{event_fault, mark_fault}
use Rattle.mirror_link.specs.declared.link_refusal.LinkNo.{LinkNo}
use Rattle.mirror_link.specs.declared.link_refusal.LinkNo.TheVariants as no
use Rattle.mirror_log.specs.MirrorLogs.{MirrorLogData, Takes, TakesSome, seen_to}
use Rattle.mirror_link.specs.Refusals.{taking_refusal}
use Rattle.mirror_link.specs.declared.heard.Heard.{Heard}
use Rattle.mirror_link.specs.declared.heard.Heard.TheVariants as heard

-- its revision is at most the last one
abbrev pub IsBounded : PeerLine → Type 0
IsBounded (peer.Told kind obj rev) = rev ≤ 2 ^ 62
IsBounded (peer.Bookmark at closing) = at ≤ 2 ^ 62
IsBounded (peer.Error code) = Unit {0}

-- what is wrong first with what was read of a line's text, if anything
abbrev pub line_fault : MirrorLogData → Option PeerLine → Option LinkNo
line_fault m None = Some no.BadLine
line_fault m (Some (peer.Told kind obj rev)) =
    option_map taking_refusal (event_fault m.selection m.most_gap m.log m.kept (record { kind = kind; obj = obj; rev = rev }))
line_fault m (Some (peer.Bookmark at closing)) = option_map taking_refusal (mark_fault m.most_gap (end_of m.log) m.kept at closing)
line_fault m (Some (peer.Error code)) = Some (no.Told code)

-- it was taken whole, or in part, and is this line of a body
pub record TakesRead (old : MirrorLogData) (read : Option PeerLine) (new : MirrorLogData) : Type 0 where
  pub line : Line
  pub is : read ≡ Some (as_read line)
  pub no_fault : line_fault old read ≡ None
  pub takes : Takes old line new

pub record TakesSomeRead (old : MirrorLogData) (read : Option PeerLine) (new : MirrorLogData) : Type 0 where
  pub line : Line
  pub is : read ≡ Some (as_read line)
  pub no_fault : line_fault old read ≡ None
  pub takes : TakesSome old line new

-- what is answered to it
abbrev pub HearsRead : MirrorLogData → Option PeerLine → Result ℕ LinkNo → MirrorLogData → Type 0
HearsRead old read (Ok to) new = TakesRead old read new × (to ≡ end_of new.log)
HearsRead old read (Err (no.Passed to at)) new = TakesSomeRead old read new × (to ≡ end_of new.log) × (at ≡ seen_to new) × (to < at)
HearsRead old read (Err no.Memory) new = TakesSomeRead old read new
HearsRead old read (Err why) new = (line_fault old read ≡ Some why) × (new ≡ old)

-- and to its text
abbrev pub HearsText : MirrorLogData → List ℕ → Result Heard LinkNo → MirrorLogData → Type 0
HearsText old text (Ok (heard.Line to)) new = (found : Option PeerLine) × ReadsPeerLine Pods text found × HearsRead old found (Ok to) new
HearsText old text (Ok (heard.Ended to)) new = ⊥
HearsText old text (Err why) new =
    ((why ≡ no.Memory) × (new ≡ old)) ⊎ ((found : Option PeerLine) × ReadsPeerLine Pods text found × HearsRead old found (Err why) new)
