use Rattle.std.proofs.Common.{◌≡◌, ◌<◌, ◌++◌, map, length}
use Rattle.select_all.specs.Listings.{listing}
use Rattle.cached_client.specs.Walks.{AreWithin}
use Rattle.cached_client.proofs.walks.first.Given as goal

-- the objects so far, and then the selected ones of those that are left, are all that are selected; and the page, where
-- there is a limit, isn't full
abbrev pub invariant-loop-shown : goal.invariant-loop-shown
invariant-loop-shown l = record {
  listing : map (λ s. s.value) l.kept.items ++ listing l.fn.selection l.rows ≡ listing l.fn.selection l.fn.rows;
  room : 0 < l.fn.limit → length l.kept.items < l.fn.limit;
  within : AreWithin l.fn.selection l.fn.rows → AreWithin l.fn.selection l.rows;
}

abbrev pub decreases-loop-shown : goal.decreases-loop-shown
decreases-loop-shown l = length (listing l.fn.selection l.rows)
