use Rattle.std.proofs.Common.{◌∙◌}
use Rattle.http_send.proofs.replies.begin_typed_reply.Goals as goal

pub returns : goal.returns
returns g c =
    rw (
      ← c.as_bytes.ensures.value ∙ c.format.ensures.text,
      ← c.as_bytes-2.ensures.value ∙ c.phrase_of.ensures,
      ← c.as_bytes-3.ensures.value ∙ c.format-2.ensures.text,
      ← c.content_type_line.ensures,
      ← c.piece_where.ensures,
      ← c.piece_where-2.ensures,
    )
    c.parts.ensures
