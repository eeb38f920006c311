use Rattle.std.proofs.Common.{◌≡◌, ℕ, true, get_or, inl, inr, sym, ◌∙◌, subst, arith, lit<}
use Rattle.std.proofs.lemmas.Bool.{cases_lt}
use Rattle.std.proofs.lemmas.Nat.{mod_below}
use Rattle.kube_meta.specs.Words.{has_bits}
use Rattle.kube_meta.proofs.WordLemmas.{lacks_within}
use Rattle.obj_tree.specs.Words.{four_at}
use Rattle.obj_tree.proofs.WordLemmas.{same_four}
use Rattle.obj_tree.proofs.column.lacking.Goals as goal

pub overflow_sub-result : goal.overflow_sub-result
overflow_sub-result c = omega (arith, mod_below c.args.at 4 (lit< tt))

-- the word at the place alone
pub returns-then-has_bits-clause-lack : goal.returns-then-has_bits-clause-lack
returns-then-has_bits-clause-lack c = λ k from lt inside. elim (cases_lt 0 c.lack_of.result) [
  | inl some ↦
      let one = c.lack_of.ensures.lack some in
      let here : k ≡ c.args.at = omega (arith, from, lt, one.0) in
      rw here one.1
  | inr none ↦ absurd (omega (arith, from, lt, none))
]

pub returns-then-has_bits-clause-has : goal.returns-then-has_bits-clause-has
returns-then-has_bits-clause-has c = c.lack_of.ensures.has

-- all that are left of the four
pub returns-clause-lack : goal.returns-clause-lack
returns-clause-lack c = λ k from lt inside.
    let fours = c.args.fours.now in
    let word = get_or c.args.words.now k 0 in
    let joint = get_or fours (four_at c.args.at) 0 in
    let joins : has_bits joint word ≡ true = subst (λ (n : ℕ). has_bits (get_or fours n 0) word ≡ true) (same_four c.args.at k from lt) (c.requires.fours k inside) in
    lacks_within joint word c.args.mask joins (sym c.has_bits.ensures ∙ c.if-has_bits.false)

pub returns-clause-has : goal.returns-clause-has
returns-clause-has c = λ none. absurd (omega (arith, none, mod_below c.args.at 4 (lit< tt)))
