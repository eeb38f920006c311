-- The texts of a token that the code lends, as plain data.
use Rattle.list_rules.specs.declared.tokens.Texts.{Texts}
use Rattle.list_rules.specs.Tokens.{TokenTexts}

abbrev pub seen : Texts → TokenTexts
seen t = record {
  version = t.version.now;
  revision = t.revision.now;
  resource = t.resource.now;
  namespace = t.namespace.now;
  key = t.key.now;
  label = t.label.now;
  field = t.field.now;
}
