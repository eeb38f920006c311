-- What was copied under the lock is made behind it.
use Rattle.std.proofs.Common.{◌∙◌}
use Rattle.up_api.specs.Sections.{log_of}
use Rattle.up_store.proofs.door.StoreDoorUpstream.history.Goals as goal

pub returns-clause-history : goal.returns-clause-history
returns-clause-history g c =
    c.in_ok-made.ensures.history (log_of g.N.LogFacts.base c.old_history.new.told) c.old_history.new.told.floor c.args.resource c.in_ok-old.ensures.history

pub returns-clause-floor : goal.returns-clause-floor
returns-clause-floor g c = c.in_ok-made.ensures.floor ∙ c.in_ok-old.ensures.floor

pub returns-clause-upto : goal.returns-clause-upto
returns-clause-upto g c = c.in_ok-made.ensures.upto ∙ c.in_ok-old.ensures.upto
