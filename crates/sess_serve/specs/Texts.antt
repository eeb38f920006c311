-- The bytes of answers.
use Rattle.std.specs.Prelude.{ℕ, List, is_some}
use Rattle.std.specs.List.{flat_map}
use Rattle.http_read.specs.declared.request.Req.{Req}
use Rattle.watch_rules.specs.declared.ask.WatchAsk.{WatchAsk}
use Rattle.sess_turns.specs.Terms.{Terms}
use Rattle.sess_turns.specs.Turns.{watch_lines, end_of_watch}
use Rattle.sess_serve.specs.Wire.{Wire}
use Rattle.sess_serve.specs.Http.{http}
use Rattle.sess_serve.specs.Answers.{Stream, gone, begun, Answer, replied, streamed}
use Rattle.sess_serve.specs.Steps.{Exchange}

-- a stream has an end where it has come to one; a watch whose start is gone is told so by one line
abbrev pub stream_bytes_by : Wire → Terms → Req → WatchAsk → Stream → List ℕ
stream_bytes_by wire terms req ask (gone asked floor) = wire.gone_text req asked floor
stream_bytes_by wire terms req ask (begun pass turns) =
    wire.stream_text req ask.selection.resource (watch_lines terms ask pass turns) (is_some (end_of_watch turns.finish))

-- the bytes of an answer: those of a reply, or those of a stream
abbrev pub answer_bytes_by : Wire → Terms → Req → Answer → List ℕ
answer_bytes_by wire terms req (replied reply) = wire.reply_text req reply
answer_bytes_by wire terms req (streamed ask stream) = stream_bytes_by wire terms req ask stream

-- the bytes by which a request was answered
abbrev pub answer_text_by : Wire → Terms → Exchange → List ℕ
answer_text_by wire terms e = answer_bytes_by wire terms e.request e.answer

-- the answers, one after the other
abbrev pub answer_texts_by : Wire → Terms → List Exchange → List ℕ
answer_texts_by wire terms exchanges = flat_map (answer_text_by wire terms) exchanges

-- the same, where the wire is HTTP
abbrev pub answer_bytes : Terms → Req → Answer → List ℕ
answer_bytes = answer_bytes_by http

abbrev pub answer_text : Terms → Exchange → List ℕ
answer_text = answer_text_by http

abbrev pub answer_texts : Terms → List Exchange → List ℕ
answer_texts = answer_texts_by http
