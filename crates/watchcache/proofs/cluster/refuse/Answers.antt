use Rattle.std.proofs.Common.{inl, inr, refl}
use Rattle.watchcache.proofs.cluster.refuse.Goals as goal

pub returns-in-Net-clause-refuses : goal.returns-in-Net-clause-refuses
returns-in-Net-clause-refuses g c = inr (c.in-Net.ensures.served, inl (c.in-Net.ensures.lacks, (refl, refl)))

pub returns-in-Memory-clause-refuses : goal.returns-in-Memory-clause-refuses
returns-in-Memory-clause-refuses g c = inr (c.in-Memory.ensures.served, inr (c.in-Memory.ensures.lacks, (refl, refl)))

pub returns-in-Refused-clause-refuses : goal.returns-in-Refused-clause-refuses
returns-in-Refused-clause-refuses g c =
    let lacks = c.in-Refused.ensures.lacks in
    inl (lacks.3, (lacks.0, c.in-Refused.ensures.served), c.write_refusal.ensures)
