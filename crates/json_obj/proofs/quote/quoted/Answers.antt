use Rattle.std.proofs.Common.{◌≡◌, [], ◌∷◌, ◌∙◌, rules}
use Rattle.json.specs.Token.{string}
use Rattle.json.specs.Print.{quoted}
use Rattle.json_obj.proofs.Printed.{print-string}
use Rattle.json_obj.proofs.quote.quoted.Goals as goal

pub returns : goal.returns
returns c =
    let tokens : c.string.new.self.tokens ≡ string c.args.text.now ∷ [] = search rules in
    let before : c.string.new.self.before ≡ [] = search rules in
    let printed : c.into_inner.result.items ≡ quoted c.args.text.now =
    c.into_inner.ensures.items ∙ rw (before, tokens) (print-string c.args.text.now) in
    search rules
