use Rattle.std.proofs.Common.{◌∙◌, ◌||◌, ap, bytes_eq, codes}
use Rattle.http_read.proofs.head.make_request.Goals as goal

pub returns : goal.returns
returns c =
    rw (
      c.in_ok-method_text.ensures,
      c.in_ok-path.ensures.0,
      c.in_ok-path.ensures.1,
      c.from_vec.ensures ∙ c.new.ensures.items,
      c.asks_close.ensures ∙ ap (λ close. close || bytes_eq c.args.method.now (codes "HEAD")) c.connection_asks-asked.ensures.close,
      c.is_foreign.ensures,
      c.is_unreadable.ensures,
      c.in_ok-accept.ensures,
      c.in_ok-upgrade.ensures,
    )
