use Rattle.std.proofs.Common.{◌≡◌, ℕ, List, length, Less, Greater, ap, sym, ◌∙◌}
use Rattle.std.specs.Prelude.{◌==◌}
use Rattle.std.proofs.lemmas.List.{length-map}
use Rattle.std.specs.Cmp.Lexicographic.{slice_cmp}
use Rattle.std.specs.Ordering.{nat_cmp}
use Rattle.encode_once.specs.Prefixes.{first_bytes}
use Rattle.obj_tree.specs.Pages.{values_of, begins_by}
use Rattle.obj_tree.proofs.PrefixLemmas.{begins_below, begins_over}
use Rattle.obj_tree.proofs.page.PagePart.begins_by.Goals as goal

pub returns-in-Less : goal.returns-in-Less
returns-in-Less c =
    let key = c.args.sought.now in
    let prefix = c.self.inside.prefix in
    let less : slice_cmp nat_cmp prefix.bytes (first_bytes 48 key) ≡ Less = ap (slice_cmp nat_cmp prefix.bytes) (sym c.prefix.ensures) ∙ sym c.order.ensures ∙ c.in-Less.is in
    sym (begins_below prefix key _ c.self.invariant.0 less) ∙ ap (begins_by key) c.self.view_is

pub returns-in-Greater : goal.returns-in-Greater
returns-in-Greater c =
    let key = c.args.sought.now in
    let prefix = c.self.inside.prefix in
    let greater : slice_cmp nat_cmp prefix.bytes (first_bytes 48 key) ≡ Greater = ap (slice_cmp nat_cmp prefix.bytes) (sym c.prefix.ensures) ∙ sym c.order.ensures ∙ c.in-Greater.is in
    c.is_empty.ensures ∙ ap (λ (xs : List _). length xs == 0) c.as_slice.ensures.value ∙ ap (λ (n : ℕ). n == 0) (sym (length-map c.self.inside.rows.items (λ p. p.value))) ∙ begins_over (values_of c.self.inside.rows.items) prefix key c.self.invariant.0 greater ∙ ap (begins_by key) c.self.view_is
