use Rattle.std.proofs.Common.{◌≡◌, true, rules}
use Rattle.std.specs.List.{list_all}
use Rattle.json_obj.specs.Plain.{is_plain_byte}
use Rattle.json_obj.proofs.Printed.{escape_plain}
use Rattle.json_obj.proofs.quote.push_quoted.Goals as goal

pub returns-then-is_plain : goal.returns-then-is_plain
returns-then-is_plain c =
    let all : list_all is_plain_byte c.args.text.now ≡ true = search rules in
    rw (escape_plain c.args.text.now all) c.push_plain.ensures
