use Rattle.std.proofs.Common.{◌≡◌, sym, ◌∙◌, ap, [], get_or, set, rules, refl}
use Rattle.std.proofs.lemmas.List.{get_or_default}
use Rattle.kube_meta.specs.Labels.{IsAt}
use Rattle.kube_meta.proofs.LabelLemmas.{value_found, value_in_gap, puts_only_set, puts_only_insert}
use Rattle.kube_meta.proofs.label_pairs.Labels.put.Goals as goal

-- the name is at its place: its value is answered, and written over
pub returns-in-Ok-clause-old : goal.returns-in-Ok-clause-old
returns-in-Ok-clause-old c =
    let text : c.as_str.result.now ≡ c.args.name = cc in
    let at : IsAt c.self.inside.pairs.items c.args.name c.in-Ok.at = rw (c.self.view_is, ← text) c.in-Ok.ensures.found in
    let value = value_found _ c.self.invariant _ _ at in
    let read : c.index_mut.result.now ≡ get_or c.self.inside.pairs.items c.in-Ok.at ([], []) = c.index_mut.ensures.value ∙ get_or_default _ _ _ ([], []) at.in_range in
    rw (← c.self.view_is, value, c.replace.ensures.value, read) refl

pub returns-in-Ok-clause-ok : goal.returns-in-Ok-clause-ok
returns-in-Ok-clause-ok c =
    let text : c.as_str.result.now ≡ c.args.name = cc in
    let at : IsAt c.self.inside.pairs.items c.args.name c.in-Ok.at = rw (c.self.view_is, ← text) c.in-Ok.ensures.found in
    let read : c.index_mut.result.now ≡ get_or c.self.inside.pairs.items c.in-Ok.at ([], []) = c.index_mut.ensures.value ∙ get_or_default _ _ _ ([], []) at.in_range in
    let same_name : c.index_mut.result.now.0 ≡ c.args.name = ap (λ pair. pair.0) read ∙ at.has_name in
    let now : c.match-name.self ≡ set c.self.inside.pairs.items c.in-Ok.at (c.index_mut.result.now.0, c.replace.new.dest) = search rules in
    rw (now, ← c.self.view_is, same_name, c.replace.ensures.after) (puts_only_set _ c.self.invariant c.args.name c.in-Ok.at at c.args.value)

-- the pair is added in the gap
pub returns-in_ok-insert-in-Err-clause-old : goal.returns-in_ok-insert-in-Err-clause-old
returns-in_ok-insert-in-Err-clause-old c =
    let text : c.as_str.result.now ≡ c.args.name = cc in
    rw (← text) (sym (value_in_gap _ _ _ c.in-Err.ensures.absent))

pub returns-in_ok-insert-in-Err-clause-ok : goal.returns-in_ok-insert-in-Err-clause-ok
returns-in_ok-insert-in-Err-clause-ok c =
    let text : c.as_str.result.now ≡ c.args.name = cc in
    rw (c.in_ok-insert-in-Err.ensures.items, c.self.view_is, ← text) (puts_only_insert _ _ _ c.in-Err.ensures.absent _)
