use Rattle.laws.proofs.ReplyTextLemmas.{replies_tell_apart}
use Rattle.laws.proofs.reply_texts.replies_tell_apart.Goals as goal

pub returns : goal.returns
returns c = replies_tell_apart
