use Rattle.line_stream.proofs.StreamLemmas.{streams-stand}
use Rattle.line_stream.proofs.AgreeLemmas.{streams-read-back}
use Rattle.line_stream.proofs.laws.streams_are_read_back.Goals as goal

pub returns : goal.returns
returns c = record { stand = streams-stand; read = streams-read-back }
