use Rattle.json_obj.proofs.object.kept.Goals as goal

pub returns-clause-utf8 : goal.returns-clause-utf8
returns-clause-utf8 c = rw (c.from_string.ensures, ← c.as_str-utf8.ensures.value) c.as_str-utf8.utf8
