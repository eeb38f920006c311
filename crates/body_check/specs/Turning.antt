-- What a line is to a walk.
use Rattle.std.specs.Prelude.{◌≡◌, ℕ, ◌≤◌, false, IsTrue, List, Option, MatchOption}
use Rattle.watch_lines.specs.Values.{ReadsByValue}
use Rattle.watch_lines.specs.declared.peer_line.PeerLine.{PeerLine}
use Rattle.watch_lines.specs.declared.peer_line.PeerLine.TheVariants as peer
use Rattle.watch_rules.specs.declared.ask.WatchAsk.{WatchAsk}
use Rattle.body_check.specs.declared.walk.Walk.{Walk}
use Rattle.body_check.specs.Turns.{MayCome, TakesTo, MarksTo}
use Rattle.body_check.specs.declared.turns.Turn.{Turn}
use Rattle.body_check.specs.declared.turns.Turn.TheVariants.{On, End, Bad}

-- a line may come next, by what the walk keeps
abbrev pub TakesLine : WatchAsk → Walk → PeerLine → Type 0
TakesLine ask walk (peer.Told kind obj rev) = MayCome ask.selection walk kind obj rev
TakesLine ask walk (peer.Bookmark at closing) = IsTrue ask.bookmarks × (closing ≡ false) × (walk.to ≤ at)
TakesLine ask walk (peer.Error code) = code ≡ 410

-- what it makes of the walk; a loss ends it
abbrev pub MovesBy : PeerLine → Walk → Walk → Type 0
MovesBy (peer.Told kind obj rev) old now = TakesTo (record { kind = kind; obj = obj; rev = rev }) old now
MovesBy (peer.Bookmark at closing) old now = MarksTo at old now
MovesBy (peer.Error code) old now = ⊥

abbrev pub IsTurnBy : WatchAsk → PeerLine → Walk → Walk → Turn → Type 0
IsTurnBy ask line old now On = TakesLine ask old line × MovesBy line old now
IsTurnBy ask line old now End = (line ≡ peer.Error 410) × (now ≡ old)
IsTurnBy ask line old now Bad = ¬ TakesLine ask old line

-- What a text is to a walk: by the line that it tells, or bad.
pub record IsTurn (ask : WatchAsk) (text : List ℕ) (old now : Walk) (turn : Turn) : Type 0 where
  pub found : Option PeerLine
  pub reads : ReadsByValue ask.selection.resource text found
  pub is : MatchOption found (turn ≡ Bad) (λ line. IsTurnBy ask line old now turn)
