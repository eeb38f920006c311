use Rattle.std.proofs.Common.{inl, rules}
use Rattle.watchcache.proofs.InputLemmas.{begun, ended, more}
use Rattle.watchcache.proofs.inputs.read_all.Goals as goal

pub loop-init : goal.loop-init
loop-init g c = (begun _ _ (search rules), search rules, search rules, search rules)

pub returns-then-n-eq0-clause-taken : goal.returns-then-n-eq0-clause-taken
returns-then-n-eq0-clause-taken g c = ended _ _ _ _ _ c.in-Ok.n c.loop.invariant.0 c.in-Ok.ensures.taken (search rules)

pub returns-then-n-eq0-clause-whole : goal.returns-then-n-eq0-clause-whole
returns-then-n-eq0-clause-whole g c = inl (c.in-Ok.ensures.end (search rules) (search rules))

pub loop-preserved : goal.loop-preserved
loop-preserved g c =
    (more _ _ _ _ _ _ c.in-Ok.n c.loop.invariant.0 c.in-Ok.ensures.taken (search rules), search rules, search rules, search rules)
