use Rattle.std.proofs.Common.{ap, ◌∙◌}
use Rattle.up_store.proofs.revisions.SharedRevision.get.Goals as goal

pub returns : goal.returns
returns c = ap (λ parts. parts.revision) c.deref.ensures ∙ c.self.view_is
