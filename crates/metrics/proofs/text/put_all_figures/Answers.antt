use Rattle.metrics.specs.Families.{all_figures}
use Rattle.metrics.proofs.text.put_all_figures.Goals as goal

pub returns : goal.returns
unfolding all_figures
returns c = c.put_figures.ensures
