use Rattle.std.proofs.Common.{◌≡◌, ◌-◌}
use Rattle.label_select.specs.Reading.{requirements_at}
use Rattle.label_select.specs.Left.{left}
use Rattle.label_select.proofs.Loops.{after_these}
use Rattle.label_select.proofs.reading.requirements_of.Given as goal

abbrev pub invariant-loop : goal.invariant-loop
invariant-loop l = record {
  same_end : l.tokens.end ≡ l.fn.tokens.end;
  so_far : after_these l.requirements.items (requirements_at (64 - l.counter) l.tokens.end (left l.tokens)) ≡ requirements_at 64 l.fn.tokens.end (left l.fn.tokens);
}
