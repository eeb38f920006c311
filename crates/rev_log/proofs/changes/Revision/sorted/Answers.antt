-- The sorted changes rise, since no object comes twice.
use Rattle.std.proofs.Common.{◌≡◌, length, rules}
use Rattle.std.specs.Ordering.{is_lt}
use Rattle.std.proofs.lemmas.Fn.{always_returns_same}
use Rattle.std.proofs.lemmas.List.Sorted.{All-permutation, length_permutation}
use Rattle.rev_log.specs.Changes.{change_cmp, HasItsKey}
use Rattle.rev_log.proofs.ChangeLemmas.{change_weak, sorted_rise}
use Rattle.rev_log.proofs.changes.Revision.sorted.Goals as goal

pub invariant_of-result : goal.invariant_of-result
invariant_of-result c =
    let before = c.args.changes.items in
    let after = c.sort_unstable_by.new.self.items in
    let perm = c.sort_unstable_by.ensures.permutation in
    let up = c.sort_unstable_by.ensures.sorted (λ a b. is_lt (change_cmp a b)) change_weak (always_returns_same _ _ _ (λ a r g called. search rules)) in
    let long : length after ≡ length before = length_permutation before after perm in
    record {
      few = rw long c.requires.few;
      rising = sorted_rise before after perm c.requires.distinct up;
      numbered = All-permutation (λ change. change.rev ≡ c.args.rev) before after perm c.requires.numbered;
      keyed = All-permutation HasItsKey before after perm (rw (← c.deref.ensures.value) c.are_keyed.ensures);
    }

pub returns-clause-form : goal.returns-clause-form
returns-clause-form c = invariant_of-result c
