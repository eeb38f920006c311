use Rattle.std.proofs.Common.{sym, ap, subst}
use Rattle.std.specs.Result.{result_ok}
use Rattle.base64.specs.GeneralPurpose.{IsDecodeFailure}
use Rattle.base64.specs.Engines.{url_safe_no_pad}
use Rattle.list_rules.specs.Tokens.{token_body}
use Rattle.list_rules.proofs.tokens.decoded.Goals as goal

pub returns-in-Ok : goal.returns-in-Ok
unfolding token_body
returns-in-Ok c = sym (ap result_ok c.in-Ok.ensures.ok)

pub returns-in-Err-DecodeError : goal.returns-in-Err-DecodeError
unfolding token_body
returns-in-Err-DecodeError c =
    sym (ap result_ok (subst (IsDecodeFailure url_safe_no_pad c.args.text.now) c.in-Err-DecodeError.field-0-is c.in-Err-DecodeError.ensures.err))
