-- Laws of mirrors over the bytes of their peer.
use Rattle.std.specs.Prelude.{◌≡◌, ℕ, List, [], ◌∷◌, ◌++◌, Option, None, Some}
use Rattle.kube_meta.specs.declared.resources.Resource.TheVariants.{Pods}
use Rattle.meta_view.specs.declared.form.Form.TheVariants.{Whole}
use Rattle.rev_log.specs.Logs.{Log}
use Rattle.watch_rules.specs.declared.ask.WatchAsk.{WatchAsk}
use Rattle.watch_rules.specs.Bodies.{Line, Told, Bookmark, Closing, Lost, BeginsBody}
use Rattle.watch_lines.specs.Texts.{line_text}
use Rattle.watch_lines.specs.Lines.{ReadsPeerLine}
use Rattle.watch_lines.specs.declared.peer_line.PeerLine.{PeerLine}
use Rattle.mirror_link.specs.Hearing.{FollowsIn}
use Rattle.mirror_link.specs.Lines.{line_fault}
use Rattle.mirror_link.specs.Peers.{IsPeer, IsAskOf}
use Rattle.mirror_link.specs.Views.{MirrorData, IsMirror, log_part}
use Rattle.mirror_link.specs.declared.link_refusal.LinkNo.{LinkNo}
use Rattle.mirror_link.specs.declared.link_refusal.LinkNo.TheVariants as no

-- nothing is wrong with a line, unless it is too far behind the last
abbrev pub IsAtMostGap : Option LinkNo → Type 0
IsAtMostGap None = Unit {0}
IsAtMostGap (Some (no.Gap last got)) = Unit {0}
IsAtMostGap (Some why) = ⊥

-- the same of each line but a loss, of which nothing is said
abbrev pub IsLawfulFault : Line → Option LinkNo → Type 0
IsLawfulFault (Told t) fault = IsAtMostGap fault
IsLawfulFault (Bookmark at) fault = IsAtMostGap fault
IsLawfulFault (Closing at) fault = IsAtMostGap fault
IsLawfulFault (Lost at floor) fault = Unit {0}

-- whatever is read of the text of the next line of a lawful body that a mirror follows, it is refused for a gap alone
abbrev pub LawfulLinesAreHeard : Type 0
LawfulLinesAreHeard =
    (peer : Log) (ask : WatchAsk) (log_floor low b from : ℕ) (lines : List Line) (line : Line) (m : MirrorData) (text : List ℕ) (found : Option PeerLine) →
    IsMirror m → text ≡ line_text Whole Pods line → ReadsPeerLine Pods text found → IsPeer peer m.selection → IsAskOf m.selection ask from lines →
    FollowsIn peer b from lines m → BeginsBody peer log_floor low ask from (lines ++ line ∷ []) → IsLawfulFault line (line_fault (log_part m) found)
