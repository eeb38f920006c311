-- Openings, as bytes determine them.
use Rattle.std.specs.Prelude.{◌≡◌, ℕ, List, ◌++◌, Option}
use Rattle.mirror_link.specs.Openings.{OpeningData, IsOpeningOf}
use Rattle.mirror_link.specs.Reading.{HasOpening, HasNoOpening, HasBadLine}
use Rattle.mirror_link.specs.declared.link_refusal.LinkNo.{LinkNo}
use Rattle.mirror_link.specs.declared.link_refusal.LinkNo.TheVariants.{Memory}
use Rattle.select_all.specs.declared.selection.Selection.{Selection}

-- bytes have one opening at most, by its rows and their base, and bytes that follow don't change it
abbrev pub OpeningsAreOne : Type 0
OpeningsAreOne =
    (bytes more : List ℕ) (first second : OpeningData) → HasOpening bytes first → HasOpening (bytes ++ more) second → (second.rows ≡ first.rows) × (second.base ≡ first.base)

-- bytes that begin with an opening have no refusal of one, whatever follows, but for want of memory
abbrev pub OpeningsAreNotRefused : Type 0
OpeningsAreNotRefused =
    (bytes more : List ℕ) (opening : OpeningData) (left : Option (List ℕ)) (why : LinkNo) → IsOpeningOf opening → HasOpening bytes opening →
    HasNoOpening opening.selection (bytes ++ more) left why → why ≡ Memory

-- a line that an opening can't have is refused in one way, whatever follows
abbrev pub BadLinesAgree : Type 0
BadLinesAgree = (s : Selection) (bytes more : List ℕ) (why later : LinkNo) → HasBadLine s bytes why → HasBadLine s (bytes ++ more) later → later ≡ why
