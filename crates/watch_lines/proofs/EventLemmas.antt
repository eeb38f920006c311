-- The text of an event tells its type and its object.
use Rattle.std.proofs.Common.{◌≡◌, ℕ, List, ◌++◌, get_or, refl, sym, ap, ◌∙◌}
use Rattle.std.specs.Prelude.{◌≢◌, ◌==◌, if◌then◌else◌}
use Rattle.std.proofs.lemmas.List.{append_cancel_left, append_cancel_right}
use Rattle.json_obj.specs.Replies.{event_front, event_back, event_text}
use Rattle.json_obj.specs.declared.pieces.EventType.{EventType}
use Rattle.json_obj.specs.declared.pieces.EventType.TheVariants.{Added, Modified, Deleted, Bookmark, Error}

-- the type of an event, by its tenth byte
abbrev pub type_by : ℕ → EventType
type_by b = if b == 65 then Added else (if b == 77 then Modified else (if b == 68 then Deleted else (if b == 66 then Bookmark else Error)))

typed-by : (type : EventType) (shown : List ℕ) → type_by (get_or (event_text type shown) 9 0) ≡ type
typed-by Added shown = refl
typed-by Modified shown = refl
typed-by Deleted shown = refl
typed-by Bookmark shown = refl
typed-by Error shown = refl

pub typed : (text : List ℕ) (type : EventType) (shown : List ℕ) → text ≡ event_text type shown → type_by (get_or text 9 0) ≡ type
typed text type shown same = ap (λ t. type_by (get_or t 9 0)) same ∙ typed-by type shown

pub same-shown : (type : EventType) (a b : List ℕ) → event_text type a ≡ event_text type b → a ≡ b
same-shown type a b e = append_cancel_right a b event_back (append_cancel_left (event_front type) (a ++ event_back) (b ++ event_back) e)

pub same-type : (type other : EventType) (a b : List ℕ) → event_text type a ≡ event_text other b → type ≡ other
same-type type other a b e = sym (typed-by type a) ∙ typed (event_text type a) other b e

-- events with one text are one event
pub events-apart : (type other : EventType) (a b : List ℕ) → event_text type a ≡ event_text other b → (type ≡ other) × (a ≡ b)
events-apart type other a b e =
    let same : type ≡ other = same-type type other a b e in
    (same, same-shown type a b (e ∙ ap (λ t. event_text t b) (sym same)))

-- where a text doesn't begin so
pub no-front : (text piece front rest : List ℕ) → piece ≡ front → ((more : List ℕ) → text ≢ piece ++ more) → text ≡ front ++ rest → ⊥
no-front text piece front rest same none e = none rest (e ∙ ap (λ (l : List ℕ). l ++ rest) (sym same))
