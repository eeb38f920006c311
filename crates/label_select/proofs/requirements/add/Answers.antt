use Rattle.std.proofs.Common.{true, List, ℕ, subst}
use Rattle.std.specs.BTreeSet.{Updates}
use Rattle.std.specs.Cmp.Lexicographic.{slice_cmp}
use Rattle.std.specs.Ordering.{nat_cmp}
use Rattle.label_select.proofs.SetLaws.{added}
use Rattle.label_select.proofs.requirements.add.Goals as goal
use Rattle.label_select.proofs.requirements.add.Goals.{in-Ok, in-Err}

pub returns : goal.returns
returns c =
    elim c.match-insert.branch [
      | in-Ok w ↦ rw w.result-is (
          added c.args.ordered.now c.insert.new.self c.args.text.now
          (subst (λ (k : List ℕ). Updates (slice_cmp nat_cmp) c.args.ordered.now c.insert.new.self k true) c.in_ok-copy.ensures.cases w.in-Ok.ensures.updates)
          )
      | in-Err w ↦ rw w.result-is tt
    ]
