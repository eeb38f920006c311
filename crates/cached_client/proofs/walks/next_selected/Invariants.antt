use Rattle.std.proofs.Common.{◌≡◌, length}
use Rattle.select_all.specs.Listings.{listing}
use Rattle.cached_client.specs.Walks.{AreWithin}
use Rattle.cached_client.proofs.walks.next_selected.Given as goal

-- no row so far is selected
abbrev pub invariant-loop-shown : goal.invariant-loop-shown
invariant-loop-shown l = record {
  listing : listing l.fn.selection l.fn.rows ≡ listing l.fn.selection l.rows;
  within : AreWithin l.fn.selection l.fn.rows → AreWithin l.fn.selection l.rows;
}

abbrev pub decreases-loop-shown : goal.decreases-loop-shown
decreases-loop-shown l = length l.rows
