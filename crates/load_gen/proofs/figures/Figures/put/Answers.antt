use Rattle.std.proofs.Common.{◌∙◌}
use Rattle.load_gen.specs.Figures.{figure_lines}
use Rattle.load_gen.proofs.figures.Figures.put.Goals as goal

pub returns : goal.returns
unfolding figure_lines
returns g c =
    rw (
      ← c.as_bytes.ensures.value ∙ c.format.ensures.text,
      ← c.as_bytes-2.ensures.value ∙ c.format-2.ensures.text,
      ← c.as_bytes-3.ensures.value ∙ c.format-3.ensures.text,
      ← c.as_bytes-4.ensures.value ∙ c.format-4.ensures.text,
      ← c.as_bytes-5.ensures.value ∙ c.format-5.ensures.text,
    )
    c.parts.ensures
