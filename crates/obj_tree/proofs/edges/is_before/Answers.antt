use Rattle.std.proofs.Common.{◌++◌, ◌∷◌, [], ℕ, List, ap, ◌∙◌}
use Rattle.std.specs.Cmp.Lexicographic.{slice_cmp}
use Rattle.std.specs.Ordering.{nat_cmp, is_lt}
use Rattle.obj_tree.specs.Edges.{edge_text}
use Rattle.obj_tree.proofs.EdgeLemmas.{told_by_byte, told_by_end, told_by_text}
use Rattle.obj_tree.proofs.edges.is_before.Goals as goal

pub returns-in-Some-first : goal.returns-in-Some-first
returns-in-Some-first c =
    let edge = c.args.edge.now in
    let key = c.as_bytes-key.result.now in
    told_by_byte key c.as_bytes-text.result.now c.in-Some.rest.now c.in-Some-first.byte.now edge.next c.in-Some.ensures.cases.0 c.in-Some.ensures.cases.1 c.in-Some-first.ensures.value
    ∙ ap (λ (t : List ℕ). is_lt (slice_cmp nat_cmp key (t ++ edge.next ∷ []))) c.as_bytes-text.ensures.value
    ∙ ap (λ (k : List ℕ). is_lt (slice_cmp nat_cmp k (edge_text edge))) (c.as_bytes-key.ensures.value ∙ c.as_str.ensures.value)

pub returns-in-None-first : goal.returns-in-None-first
returns-in-None-first c =
    let edge = c.args.edge.now in
    let key = c.as_bytes-key.result.now in
    told_by_end key c.as_bytes-text.result.now c.in-Some.rest.now edge.next c.in-Some.ensures.cases.0 c.in-Some.ensures.cases.1 c.in-None-first.ensures.value
    ∙ ap (λ (t : List ℕ). is_lt (slice_cmp nat_cmp key (t ++ edge.next ∷ []))) c.as_bytes-text.ensures.value
    ∙ ap (λ (k : List ℕ). is_lt (slice_cmp nat_cmp k (edge_text edge))) (c.as_bytes-key.ensures.value ∙ c.as_str.ensures.value)

pub returns-in-None : goal.returns-in-None
returns-in-None c =
    let edge = c.args.edge.now in
    let key = c.as_bytes-key.result.now in
    c.is_lt.ensures
    ∙ ap is_lt c.cmp.ensures
    ∙ told_by_text key c.as_bytes-text.result.now edge.next c.in-None.ensures.cases
    ∙ ap (λ (t : List ℕ). is_lt (slice_cmp nat_cmp key (t ++ edge.next ∷ []))) c.as_bytes-text.ensures.value
    ∙ ap (λ (k : List ℕ). is_lt (slice_cmp nat_cmp k (edge_text edge))) (c.as_bytes-key.ensures.value ∙ c.as_str.ensures.value)
