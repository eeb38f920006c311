-- Draws, by their numbers.
use Rattle.std.proofs.Common.{◌≡◌, ℕ, suc, ◌+◌, ◌*◌, List, [], ◌∷◌, ◌++◌, ap, ◌∙◌, sym, arith, map, length, append-nil, append_assoc}
use Rattle.std.proofs.lemmas.Grind.{flat_map-append}
use Rattle.std.proofs.lemmas.List.FromFn.{map-range_with_len_more}
use Rattle.std.proofs.lemmas.List.Folds.{flat_map-map}
use Rattle.std.specs.List.{flat_map, range_with_len}
use Rattle.load_gen.specs.Draws.{next, state_after, drawn}
use Rattle.load_gen.specs.Requests.{action_of, request_at, request_text, text_for}
use Rattle.load_gen.specs.declared.requests.Action.{Action}
use Rattle.load_gen.specs.declared.requests.LoadRequest.{LoadRequest}

-- one more draw
state_more : (from n m s : ℕ) → m ≡ n + 1 → s ≡ state_after from n → next s ≡ state_after from m
unfolding state_after
state_more from n m s one e = let k : m ≡ suc n = omega arith in rw k (ap next e)

pub three_more : (from n s : ℕ) → s ≡ state_after from (3 * n) → next (next (next s)) ≡ state_after from (3 * (n + 1))
three_more from n s e =
    state_more from (3 * n + 2) (3 * (n + 1)) (next (next s)) (omega arith)
    (state_more from (3 * n + 1) (3 * n + 2) (next s) (omega arith) (state_more from (3 * n) (3 * n + 1) s (omega arith) e))

-- what the three draws give
pub request_is : (from n s : ℕ) (r : LoadRequest) → s ≡ state_after from (3 * n) →
    r.action ≡ action_of (drawn (next s) 10) → r.object ≡ drawn (next (next s)) 200 → r.group ≡ drawn (next (next (next s))) 4 →
    r ≡ request_at from n
request_is from n s r e action object group =
    let one : next s ≡ state_after from (3 * n + 1) = state_more from (3 * n) (3 * n + 1) s (omega arith) e in
    let two : next (next s) ≡ state_after from (3 * n + 1 + 1) =
    state_more from (3 * n + 1) (3 * n + 1 + 1) (next s) (omega arith) one in
    let three : next (next (next s)) ≡ state_after from (3 * n + 2 + 1) =
    state_more from (3 * n + 2) (3 * n + 2 + 1) (next (next s)) (omega arith)
    (state_more from (3 * n + 1) (3 * n + 2) (next s) (omega arith) one) in
    let a : r.action ≡ action_of (drawn (state_after from (3 * n + 1)) 10) = action ∙ ap (λ (x : ℕ). action_of (drawn x 10)) one in
    let o : r.object ≡ drawn (state_after from (3 * n + 1 + 1)) 200 = object ∙ ap (λ (x : ℕ). drawn x 200) two in
    let g : r.group ≡ drawn (state_after from (3 * n + 2 + 1)) 4 = group ∙ ap (λ (x : ℕ). drawn x 4) three in
    let of_action : Action → LoadRequest = λ x. record { action = x; object = r.object; group = r.group } in
    let of_object : ℕ → LoadRequest = λ x. record { action = (request_at from n).action; object = x; group = r.group } in
    let of_group : ℕ → LoadRequest = λ x. record { action = (request_at from n).action; object = (request_at from n).object; group = x } in
    ap of_action a ∙ ap of_object o ∙ ap of_group g

-- one more piece
pub flat_more : (f : ℕ → List ℕ) (n : ℕ) → flat_map f (range_with_len 0 (n + 1)) ≡ flat_map f (range_with_len 0 n) ++ f n
flat_more f n =
    let same : map (λ (x : ℕ). x) (range_with_len 0 (n + 1)) ≡ map (λ (x : ℕ). x) (range_with_len 0 n) ++ n ∷ [] =
    map-range_with_len_more (λ (x : ℕ). x) 0 n n (omega arith) in
    let left = flat_map-map f (λ (x : ℕ). x) (range_with_len 0 (n + 1)) in
    let right = flat_map-map f (λ (x : ℕ). x) (range_with_len 0 n) in
    sym left ∙ ap (flat_map f) same ∙ flat_map-append f (map (λ (x : ℕ). x) (range_with_len 0 n)) (n ∷ [])
    ∙ ap (λ (x : List ℕ). x ++ (f n ++ [])) right ∙ simp append-nil

-- the text of a request by what it is for, behind other bytes
pub text_when : (r : LoadRequest) (a : Action) (before after : List ℕ) → r.action ≡ a → after ≡ before ++ text_for a r → after ≡ before ++ request_text r
unfolding request_text
text_when r a before after is e = e ∙ ap (λ (x : Action). before ++ text_for x r) (sym is)

-- a head, a number and a body behind other bytes
pub with_object : (bytes b1 b2 b3 host sep object own : List ℕ) (size : ℕ → List ℕ) (n : ℕ) → b1 ≡ bytes ++ host → b2 ≡ b1 ++ size n → b3 ≡ b2 ++ sep →
    object ≡ own → n ≡ length object → b3 ++ object ≡ bytes ++ (host ++ (size (length own) ++ (sep ++ own)))
with_object bytes b1 b2 b3 host sep object own size n one two three own-is n-is =
    ap (λ (x : List ℕ). x ++ object) (three ∙ ap (λ (x : List ℕ). x ++ sep) (two ∙ ap (λ (x : List ℕ). x ++ size n) one))
    ∙ append_assoc ((bytes ++ host) ++ size n) sep object ∙ append_assoc (bytes ++ host) (size n) (sep ++ object)
    ∙ append_assoc bytes host (size n ++ (sep ++ object))
    ∙ ap (λ (m : ℕ). bytes ++ (host ++ (size m ++ (sep ++ object)))) (n-is ∙ ap length own-is)
    ∙ ap (λ (o : List ℕ). bytes ++ (host ++ (size (length own) ++ (sep ++ o)))) own-is
