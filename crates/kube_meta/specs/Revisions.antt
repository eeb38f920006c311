-- The text of a revision: decimal digits without a sign or a leading zero, from 0 to 2 ^ 62.
use Rattle.std.specs.Prelude.{◌≡◌, ◌≤◌, decimal, ℕ, Bool, ◌&&◌, ◌==◌, ◌^◌, not, nat_lt, List, length, slice_index, Result, Ok, Err, if◌then◌else◌}
use Rattle.std.specs.Str.{all_ascii_digits}
use Rattle.std.specs.Str.Parse.{digits_value}
use Rattle.kube_meta.specs.declared.revisions.RevNo.{RevNo}
use Rattle.kube_meta.specs.declared.revisions.RevNo.TheVariants.{Empty, NotDigits, LeadingZero, TooGreat}

-- more than one digit, and the first is `0`
abbrev pub has_leading_zero : List ℕ → Bool
has_leading_zero text = nat_lt 1 (length text) && (slice_index text 0 == 48)

-- the revision that a text names, or the first reason why it names none
abbrev pub revision_of : List ℕ → Result ℕ RevNo
revision_of text =
    if length text == 0 then Err Empty else
    (if not (all_ascii_digits text) then Err NotDigits else
    (if has_leading_zero text then Err LeadingZero else
    (if nat_lt (2 ^ 62) (digits_value 10 text) then Err TooGreat else
    Ok (digits_value 10 text))))

-- what is written of a revision is read back as that revision, and nothing else is
abbrev pub RevisionsAreReadBack : Type 0
RevisionsAreReadBack =
    ((revision : ℕ) → revision ≤ 2 ^ 62 → revision_of (decimal revision) ≡ Ok revision) ×
    ((text : List ℕ) (revision : ℕ) → revision_of text ≡ Ok revision → (revision ≤ 2 ^ 62) × (text ≡ decimal revision))
