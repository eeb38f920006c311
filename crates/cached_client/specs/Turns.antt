-- What the lines of a watch are to a turn, where it stands then, and whether it rests.
use Rattle.std.specs.Prelude.{◌==◌, ℕ, Bool, not, ◌&&◌, nat_le, length, Option, option_map, if◌then◌else◌}
use Rattle.std.specs.Global.{Vec}
use Rattle.select_all.specs.Streams.{TransitionData}
use Rattle.client_api.specs.declared.answers.Took.{Took}
use Rattle.client_api.specs.declared.answers.Took.TheVariants.{Events, Quiet}
use Rattle.client_api.specs.Facts.{Watched}

-- what the lines up to a revision are to a turn, where the log is seen up to `seen`
abbrev pub took_of : ℕ → ℕ → Vec TransitionData → ℕ → Took
took_of from upto lines seen = if length lines.items == 0 then Quiet upto (nat_le upto seen) else Events from upto lines

-- a watch, if there is one, at this revision
abbrev pub moved_to : ℕ → Option Watched → Option Watched
moved_to upto watching = option_map (λ (watched : Watched). record watched { position = upto }) watching

-- Whether a watch to which nothing was sent rests: its lane isn't behind, and the revision that was loaded is neither
-- above its position nor above what is seen.
abbrev pub rests : Bool → ℕ → ℕ → ℕ → Bool
rests behind loaded at seen = not behind && (nat_le loaded at && nat_le loaded seen)
