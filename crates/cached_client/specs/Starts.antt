-- Why a watch doesn't begin.
use Rattle.std.specs.Prelude.{ℕ, Option, option_and_then}
use Rattle.watch_rules.specs.declared.starts.Start.{Start}
use Rattle.client_api.specs.declared.answers.ListNo.{ListNo}
use Rattle.client_api.specs.Refusals.{refusal_above}
use Rattle.client_api.specs.Starts.{meaning_of}

-- the refusal of a start that names a revision above this one
abbrev pub start_refusal : Start → ℕ → Option ListNo
start_refusal start current = option_and_then (λ meaning. refusal_above meaning current) (meaning_of start)
