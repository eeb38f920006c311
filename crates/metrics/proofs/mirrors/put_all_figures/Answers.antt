use Rattle.metrics.specs.Families.{all_mirror_figures}
use Rattle.metrics.proofs.mirrors.put_all_figures.Goals as goal

pub returns : goal.returns
unfolding all_mirror_figures
returns c = c.put_figures.ensures
