use Rattle.std.proofs.Common.{rules}
use Rattle.cases.proofs.scripts.scene.Scene.new.Goals as goal

pub invariant_of-result : goal.invariant_of-result
invariant_of-result g c = record {
  of = search rules;
  reflects = search rules;
  stands = c.in_ok-hub.ensures.stands;
  known = search rules;
}
