use Rattle.std.proofs.Common.{ap, ◌∙◌}
use Rattle.up_store.specs.Kept.{fitting}
use Rattle.up_store.proofs.KeptLemmas.{floor-within}
use Rattle.up_store.proofs.kept.Kept.floor_within.Goals as goal

pub returns-clause-bytes : goal.returns-clause-bytes
returns-clause-bytes c = λ log floor keeps.
    floor-within log floor c.args.self.now c.args.bytes c.fitting.result c.floor_behind.result (c.fitting.ensures keeps.bytes ∙ ap (λ n. fitting n c.args.self.now.revisions.items) c.from.ensures) (c.floor_behind.ensures.behind log floor keeps) keeps
