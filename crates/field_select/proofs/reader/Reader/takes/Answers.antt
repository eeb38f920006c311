use Rattle.std.proofs.lemmas.Str.Pattern.{strip_prefix_char}
use Rattle.field_select.proofs.Runs.{stripped}
use Rattle.field_select.proofs.reader.Reader.takes.Goals as goal

pub returns-in-None-clause-answer : goal.returns-in-None-clause-answer
returns-in-None-clause-answer c =
    let bytes = c.args.self.now.rest.now in
    let none = rw c.in-None.is at (strip_prefix_char c.args.byte bytes c.strip_prefix.result c.strip_prefix.ensures.cases c.requires) in
    (stripped c.args.byte bytes none).0

pub returns-in-None-clause-left : goal.returns-in-None-clause-left
returns-in-None-clause-left c =
    let bytes = c.args.self.now.rest.now in
    let none = rw c.in-None.is at (strip_prefix_char c.args.byte bytes c.strip_prefix.result c.strip_prefix.ensures.cases c.requires) in
    (stripped c.args.byte bytes none).1
