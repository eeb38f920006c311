use Rattle.ws_watch.proofs.MessageLemmas.{bytes_tell_messages}
use Rattle.ws_watch.proofs.laws.bytes_tell_messages.Goals as goal

pub returns : goal.returns
returns c = bytes_tell_messages
