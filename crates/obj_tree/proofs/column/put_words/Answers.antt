use Rattle.std.proofs.Common.{ℕ, List, length, ap, ◌∙◌, arith}
use Rattle.std.specs.List.{remove}
use Rattle.std.proofs.lemmas.List.Edits.{length-insert}
use Rattle.obj_tree.proofs.WordLemmas.{put_removed}
use Rattle.obj_tree.proofs.column.put_words.Goals as goal

pub remove-requires : goal.remove-requires
remove-requires c =
    omega (arith, c.requires.fields, length-insert c.args.fields.now c.args.place c.fields.result c.requires.fields, ap length c.in_ok-insert.ensures.ok)

pub returns-in-Err-clause-err : goal.returns-in-Err-clause-err
returns-in-Err-clause-err c = (
  c.remove.ensures ∙ ap (λ (words : List ℕ). remove words c.args.place) c.in_ok-insert.ensures.ok ∙ put_removed c.args.fields.now c.args.place c.fields.result c.requires.fields,
  c.in-Err.ensures.err,
)
