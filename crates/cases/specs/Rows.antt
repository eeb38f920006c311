-- How a row is written: `STEP => ANSWER`, and behind the answer, after two blanks, `# why`.
use Rattle.std.specs.Prelude.{◌≡◌, ◌≢◌, ℕ, ◌+◌, ◌-◌, ◌<◌, ◌^◌, Bool, ◌==◌, ◌||◌, List, [], ◌++◌, length, None, ◌⊎◌, not, codes, slice_index}
use Rattle.std.specs.Str.Pattern.{FindsText, SplitsAroundMatch}
use Rattle.std.specs.List.{count_by}
use Rattle.std.specs.Str.{trim}

-- whether a line says nothing: it is empty, or begins with `#`
abbrev pub is_silent : List ℕ → Bool
is_silent line = length line == 0 || slice_index line 0 == 35

-- the parts of a text around the first place of a mark
abbrev pub AreAround : List ℕ → List ℕ → List ℕ → List ℕ → Type 0
AreAround mark text before behind = SplitsAroundMatch (FindsText mark) text before behind

abbrev pub Lacks : List ℕ → List ℕ → Type 0
Lacks mark text = FindsText mark text None

-- the step of a line, and what stands behind its first arrow; nothing does where that ends the line, and where there is none
-- the answer is one that is given for that
abbrev pub AreParts : List ℕ → List ℕ → List ℕ → List ℕ → Type 0
AreParts line no_row step rest =
    AreAround (codes " => ") line step rest
    ⊎ (Lacks (codes " => ") line × (line ≡ step ++ codes " =>") × (rest ≡ []))
    ⊎ (Lacks (codes " => ") line × ((front : List ℕ) → line ≢ front ++ codes " =>") × (step ≡ line) × (rest ≡ no_row))

-- an answer without the comment behind it
abbrev pub IsBeforeComment : List ℕ → List ℕ → Type 0
IsBeforeComment text answer =
    (Lacks (codes "  # ") text × (answer ≡ text)) ⊎ ((comment : List ℕ) × AreAround (codes "  # ") text answer comment)

-- the step and the answer of a line that is a row
abbrev pub IsRowOf : List ℕ → List ℕ → List ℕ → List ℕ → Type 0
IsRowOf line no_row step wanted =
    (rest : List ℕ) × (answer : List ℕ) × AreParts line no_row step rest × IsBeforeComment rest answer × (wanted ≡ trim answer)

-- how many of these lines are rows
abbrev pub rows_among : List (List ℕ) → ℕ
rows_among lines = count_by (λ line. not (is_silent line)) lines

-- a count that was `old` counts each of these lines that is a row, and is `new` then; the greatest count stays
abbrev pub CountsRows : List (List ℕ) → ℕ → ℕ → Type 0
CountsRows lines old new = new < 2 ^ 64 - 1 → new ≡ old + rows_among lines
