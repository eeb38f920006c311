use Rattle.std.proofs.Common.{◌≡◌, ◌≤◌, drop, false, length}
use Rattle.std.specs.Fmt.{digits_onto}
use Rattle.http_send.specs.Replies.{hexadecimal}
use Rattle.http_send.proofs.hexadecimal.write_hexadecimal.Given as goal

-- the digits of what is left, put in front of those that are written, are the text
abbrev pub invariant-loop-at : goal.invariant-loop-at
invariant-loop-at l = record {
  within : l.at ≤ 64;
  length_is : length l.out ≡ 64;
  text : digits_onto l.at 16 false l.rest (drop l.at l.out) ≡ hexadecimal l.n;
}

abbrev pub decreases-loop-at : goal.decreases-loop-at
decreases-loop-at l = l.at
