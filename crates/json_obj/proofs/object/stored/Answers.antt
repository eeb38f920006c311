use Rattle.std.proofs.Common.{rules}
use Rattle.serde_json.specs.View.{view}
use Rattle.json_obj.specs.Objects.{metadata_of}
use Rattle.json_obj.proofs.Refused.{plain-members_in, plain-metadata_of}
use Rattle.json_obj.proofs.object.stored.Goals as goal

pub returns : goal.returns
returns c =
    let d = view c.args.value.now in
    record {
      key = rw c.requires.metadata at c.in_ok-key.ensures;
      labels = λ name. rw c.requires.metadata at (c.in_ok-labels.ensures name);
      sorted = search rules;
      fields = c.in_ok-fields.ensures;
      text = λ plain revision. rw (c.kept.ensures.same, c.kept-2.ensures.same) (c.requires.text.text (plain-members_in d plain) (plain-members_in (metadata_of d) (plain-metadata_of d plain)) revision);
      metadata = λ plain revision. rw (c.kept.ensures.same, c.kept-2.ensures.same) (c.requires.text.metadata (plain-members_in (metadata_of d) (plain-metadata_of d plain)) revision);
      front_utf8 = c.kept.ensures.utf8;
      back_utf8 = c.kept-2.ensures.utf8;
    }
