use Rattle.std.proofs.Common.{◌≡◌, ℕ, true, List, length, get_or, ap, sym, ◌∙◌, subst, arith}
use Rattle.kube_meta.specs.Words.{has_bits}
use Rattle.kube_meta.proofs.WordLemmas.{has_none}
use Rattle.obj_tree.specs.Words.{HaveFours, IsFirstWith}
use Rattle.obj_tree.proofs.column.Column.first_with.Goals as goal

-- every word has no bits
pub returns-then-mask-eq0 : goal.returns-then-mask-eq0
returns-then-mask-eq0 c = record {
  behind = omega arith;
  inside = c.requires;
  lack = λ k from lt. absurd (omega (arith, from, lt));
  has = λ lt. subst (λ (mask : ℕ). has_bits (get_or c.args.self.now c.args.from 0) mask ≡ true) (sym c.if-mask-eq0.true) (has_none (get_or c.args.self.now c.args.from 0));
}

pub first_with-requires-clause-from : goal.first_with-requires-clause-from
first_with-requires-clause-from c = omega (arith, c.requires, ap length (c.deref.ensures.value ∙ c.self.view_is))

pub first_with-requires-clause-fours : goal.first_with-requires-clause-fours
first_with-requires-clause-fours c = subst (λ (words : List ℕ). HaveFours c.self.inside.fours words) (sym c.deref.ensures.value) c.self.invariant

pub returns : goal.returns
returns c =
    subst (λ (words : List ℕ). IsFirstWith c.args.mask words c.args.from c.first_with.result) (c.deref.ensures.value ∙ c.self.view_is) c.first_with.ensures
