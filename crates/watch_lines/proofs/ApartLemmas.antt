-- Lines of different sorts have different texts, and so have bookmarks and losses at different revisions.
use Rattle.std.proofs.Common.{◌≡◌, ℕ, ◌≤◌, ◌^◌, Bool, List, ◌++◌, get_or, decimal, sym, ap, ◌∙◌, arith}
use Rattle.std.specs.Prelude.{codes}
use Rattle.std.proofs.lemmas.Fmt.{decimal_injective}
use Rattle.std.proofs.lemmas.List.{append_cancel_left, append_cancel_right}
use Rattle.kube_meta.specs.declared.resources.Resource.{Resource}
use Rattle.kube_meta.specs.declared.objects.Obj.{Obj}
use Rattle.meta_view.specs.declared.form.Form.TheVariants.{Whole}
use Rattle.meta_view.specs.Lines.{object_line, bookmark_line, expired_line}
use Rattle.select_all.specs.declared.selection.Kind.{Kind}
use Rattle.select_all.specs.declared.selection.Kind.TheVariants.{Added, Modified, Deleted}
use Rattle.watch_lines.specs.Texts.{type_of}
use Rattle.watch_lines.specs.Numbers.{bookmark_front, bookmark_back, loss_front, loss_numbers}
use Rattle.watch_lines.proofs.TextLemmas.{bookmark_parted, loss_parted, around_one, spaceless, back_of_loss}

-- ---- the tenth byte is the first of the type

pub told_no_mark : (kind : Kind) (obj : Obj) (rev : ℕ) (resource : Resource) (n : ℕ) (closing : Bool) → object_line Whole (type_of kind) obj rev ≡ bookmark_line Whole resource n closing → ⊥
told_no_mark Added obj rev resource n closing e = let bad : 65 ≡ 66 = ap (λ (l : List ℕ). get_or l 9 0) e in omega (arith, bad)
told_no_mark Modified obj rev resource n closing e = let bad : 77 ≡ 66 = ap (λ (l : List ℕ). get_or l 9 0) e in omega (arith, bad)
told_no_mark Deleted obj rev resource n closing e = let bad : 68 ≡ 66 = ap (λ (l : List ℕ). get_or l 9 0) e in omega (arith, bad)

pub told_no_loss : (kind : Kind) (obj : Obj) (rev : ℕ) (at floor : ℕ) → object_line Whole (type_of kind) obj rev ≡ expired_line at floor → ⊥
told_no_loss Added obj rev at floor e = let bad : 65 ≡ 69 = ap (λ (l : List ℕ). get_or l 9 0) e in omega (arith, bad)
told_no_loss Modified obj rev at floor e = let bad : 77 ≡ 69 = ap (λ (l : List ℕ). get_or l 9 0) e in omega (arith, bad)
told_no_loss Deleted obj rev at floor e = let bad : 68 ≡ 69 = ap (λ (l : List ℕ). get_or l 9 0) e in omega (arith, bad)

pub mark_no_loss : (resource : Resource) (n : ℕ) (closing : Bool) (at floor : ℕ) → bookmark_line Whole resource n closing ≡ expired_line at floor → ⊥
mark_no_loss resource n closing at floor e = let bad : 66 ≡ 69 = ap (λ (l : List ℕ). get_or l 9 0) e in omega (arith, bad)

pub marks_apart : (resource : Resource) (closing : Bool) (n m : ℕ) → n ≤ 2 ^ 62 → m ≤ 2 ^ 62 → bookmark_line Whole resource n closing ≡ bookmark_line Whole resource m closing → n ≡ m
marks_apart resource closing n m low other_low e =
    let parts : bookmark_front resource closing ++ (decimal n ++ bookmark_back) ≡ bookmark_front resource closing ++ (decimal m ++ bookmark_back) =
    sym (bookmark_parted resource n closing) ∙ e ∙ bookmark_parted resource m closing in
    decimal_injective n m (omega (arith, low)) (omega (arith, other_low))
    (append_cancel_right (decimal n) (decimal m) bookmark_back (append_cancel_left (bookmark_front resource closing) (decimal n ++ bookmark_back) (decimal m ++ bookmark_back) parts))

pub losses_apart : (at floor other other_floor : ℕ) → at ≤ 2 ^ 62 → other ≤ 2 ^ 62 → expired_line at floor ≡ expired_line other other_floor → at ≡ other
losses_apart at floor other other_floor low other_low e =
    let parts : loss_front ++ loss_numbers at floor ≡ loss_front ++ loss_numbers other other_floor = sym (loss_parted at floor) ∙ e ∙ loss_parted other other_floor in
    let numbers : loss_numbers at floor ≡ loss_numbers other other_floor = append_cancel_left loss_front (loss_numbers at floor) (loss_numbers other other_floor) parts in
    decimal_injective at other (omega (arith, low)) (omega (arith, other_low))
    (around_one (decimal at) (decimal other) (codes "(" ++ (decimal floor ++ back_of_loss)) (codes "(" ++ (decimal other_floor ++ back_of_loss)) (spaceless at) (spaceless other) numbers).0

pub floors_apart : (at floor other other_floor : ℕ) → floor ≤ 2 ^ 62 → other_floor ≤ 2 ^ 62 → expired_line at floor ≡ expired_line other other_floor → floor ≡ other_floor
floors_apart at floor other other_floor low other_low e =
    let parts : loss_front ++ loss_numbers at floor ≡ loss_front ++ loss_numbers other other_floor = sym (loss_parted at floor) ∙ e ∙ loss_parted other other_floor in
    let numbers : loss_numbers at floor ≡ loss_numbers other other_floor = append_cancel_left loss_front (loss_numbers at floor) (loss_numbers other other_floor) parts in
    let seconds : codes "(" ++ (decimal floor ++ back_of_loss) ≡ codes "(" ++ (decimal other_floor ++ back_of_loss) =
    (around_one (decimal at) (decimal other) (codes "(" ++ (decimal floor ++ back_of_loss)) (codes "(" ++ (decimal other_floor ++ back_of_loss)) (spaceless at) (spaceless other) numbers).1 in
    decimal_injective floor other_floor (omega (arith, low)) (omega (arith, other_low))
    (append_cancel_right (decimal floor) (decimal other_floor) back_of_loss (append_cancel_left (codes "(") (decimal floor ++ back_of_loss) (decimal other_floor ++ back_of_loss) seconds))
