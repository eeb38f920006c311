-- The bytes between two places of a buffer.
use Rattle.std.proofs.Common.{◌≡◌, ℕ, ◌+◌, ◌-◌, ◌≤◌, List, ◌++◌, length, take, drop, sym, ap, ◌∙◌, arith, append-nil, length-take, length-drop, length-take-le, min}
use Rattle.std.proofs.lemmas.List.{take_min, drop-take, drop-drop, drop-append-le, take-append-le}
use Rattle.std.proofs.Math.Seq.{take-append-add}

-- the first bytes are let go
pub window-consume : (b : List ℕ) (start end n : ℕ) → n ≤ end - start
    → take (end - (start + n)) (drop (start + n) b) ≡ drop n (take (end - start) (drop start b))
window-consume b start end n h =
    let m = end - (start + n) in
    ap (λ l. take m l) (sym (drop-drop n start b)) ∙ sym (drop-take n m (drop start b))
    ∙ ap (λ (k : ℕ). drop n (take k (drop start b))) {x = n + m} {y = end - start} (omega arith)

-- the window of a buffer whose front was kept
window-front : (b more : List ℕ) (start end : ℕ) → start ≤ end → end ≤ length b
    → drop start (take end b ++ more) ≡ take (end - start) (drop start b) ++ more
window-front b more start end o w =
    drop-append-le start (take end b) more (simp length-take (omega arith))
    ∙ ap (λ (k : ℕ). drop start (take k b) ++ more) {x = end} {y = start + (end - start)} (omega arith)
    ∙ ap (λ l. l ++ more) (drop-take start (end - start) b)

-- bytes were written behind the window
pub window-fill : (b new rest : List ℕ) (start end n : ℕ) → start ≤ end → end ≤ length b → n ≤ length new
    → take (end + n - start) (drop start (take end b ++ (new ++ rest))) ≡ take (end - start) (drop start b) ++ take n new
window-fill b new rest start end n o w k =
    let old = take (end - start) (drop start b) in
    let long : length old ≡ end - start = length-take-le (end - start) (drop start b) (simp length-drop (omega arith)) in
    ap (λ l. take (end + n - start) l) (window-front b (new ++ rest) start end o w)
    ∙ ap (λ (m : ℕ). take m (old ++ (new ++ rest))) {x = end + n - start} {y = length old + n} (omega arith)
    ∙ take-append-add old (new ++ rest) n
    ∙ ap (λ l. old ++ l) (take-append-le n new rest k)

-- nothing was kept of what was written behind the window
pub window-kept : (b more : List ℕ) (start end : ℕ) → start ≤ end → end ≤ length b
    → take (end - start) (drop start (take end b ++ more)) ≡ take (end - start) (drop start b)
window-kept b more start end o w =
    let old = take (end - start) (drop start b) in
    let long : length old ≡ end - start = length-take-le (end - start) (drop start b) (simp length-drop (omega arith)) in
    ap (λ l. take (end - start) l) (window-front b more start end o w)
    ∙ ap (λ (m : ℕ). take m (old ++ more)) {x = end - start} {y = length old + 0} (omega arith)
    ∙ take-append-add old more 0 ∙ append-nil old

-- as many bytes as a window has lie between its two places
pub window-length : (b value : List ℕ) (start end : ℕ) {n : ℕ} → take (end - start) (drop start b) ≡ value → end ≤ length b → n ≤ length value → n ≤ end - start
window-length b value start end e w h =
    omega (arith, h, ap length e, length-take (end - start) (drop start b), length-drop start b)

-- the first bytes, as many as there are
pub take-min : (bytes : List ℕ) (n most : ℕ) → n ≡ min (length bytes) most → take n bytes ≡ take most bytes
take-min bytes n most e =
    ap (λ (k : ℕ). take k bytes) {x = n} {y = min most (length bytes)} (omega arith) ∙ take_min most bytes

-- the front of a list in which a part was written: what was there before, and the front of the part
pub take-part : (xs ys after : List ℕ) (a n : ℕ) → a ≤ length xs → n ≤ length ys → take (a + n) (take a xs ++ (ys ++ after)) ≡ take a xs ++ take n ys
take-part xs ys after a n w k =
    ap (λ (m : ℕ). take m (take a xs ++ (ys ++ after))) {x = a + n} {y = length (take a xs) + n} (omega (arith, length-take-le a xs w))
    ∙ take-append-add (take a xs) (ys ++ after) n ∙ ap (λ l. take a xs ++ l) (take-append-le n ys after k)
