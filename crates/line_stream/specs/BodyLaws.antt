-- Laws of whole bodies.
use Rattle.std.specs.Prelude.{◌≡◌, ℕ, List, ◌++◌}
use Rattle.line_stream.specs.Bodies.{IsBody}

-- bytes that begin with a reply of code 200 that is whole have one body, and what follows it; bytes that come later
-- change neither: it doesn't matter how the bytes came in pieces
abbrev pub BodiesAreDetermined : Type 0
BodiesAreDetermined =
    (bytes more text other after later : List ℕ) → IsBody bytes text after → IsBody (bytes ++ more) other later
    → (other ≡ text) × (later ≡ after ++ more)
