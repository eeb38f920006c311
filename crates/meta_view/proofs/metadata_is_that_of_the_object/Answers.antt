use Rattle.json_obj.specs.Objects.{shown_metadata, members_in, metadata_of}
use Rattle.meta_view.proofs.Texts.{partial_text}
use Rattle.meta_view.proofs.metadata_is_that_of_the_object.Goals as goal

pub returns : goal.returns
returns c = λ resource ns d o revision is plain.
    partial_text _ (shown_metadata ns revision (members_in (metadata_of d))) (is.metadata plain revision)
