use Rattle.reflect_core.proofs.PumpLemmas.{learns-on}
use Rattle.shared_client.proofs.cacher.Cacher.rebuild_each.Goals as goal

pub returns-in_err-rebuild-2-clause-learns : goal.returns-in_err-rebuild-2-clause-learns
returns-in_err-rebuild-2-clause-learns g c = learns-on _ _ _ c.rebuild.ensures.section.learns c.rebuild-2.ensures.section.learns

pub returns-clause-learns : goal.returns-clause-learns
returns-clause-learns g c = learns-on _ _ _ c.rebuild.ensures.section.learns (learns-on _ _ _ c.rebuild-2.ensures.section.learns c.rebuild-3.ensures.section.learns)
