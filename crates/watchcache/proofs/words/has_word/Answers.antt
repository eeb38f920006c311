use Rattle.std.proofs.Common.{◌∙◌, string_bytes}
use Rattle.std.specs.Str.{bytes_eq}
use Rattle.clap.proofs.WalkLemmas.{list_any-map}
use Rattle.watchcache.proofs.words.has_word.Goals as goal

pub returns : goal.returns
returns c = c.has_text.ensures ∙ list_any-map (λ w. bytes_eq w c.args.word.now) string_bytes c.args.words.now
