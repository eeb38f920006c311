-- Texts, written piece by piece.
use Rattle.std.proofs.Common.{◌≡◌, ℕ, ◌+◌, ◌<◌, Bool, true, List, [], ◌∷◌, ◌++◌, length, map, take, get_or, sym, ap, ◌∙◌, arith, append_assoc}
use Rattle.std.specs.Prelude.{nat_lt}
use Rattle.std.proofs.lemmas.Bool.{lt-ltb}
use Rattle.std.proofs.lemmas.List.{map_more, length-map, length-take-le}
use Rattle.serde_json.specs.Written.{comma_if}
use Rattle.json_obj.specs.Replies.{items_text}
use Rattle.rev_log.specs.Changes.{ChangeData}
use Rattle.watch_record.specs.Revisions.{text_of_change}
use Rattle.watch_record.proofs.ReadLemmas.{items-push}

regrouped : (o comma key object resource : List ℕ) → ((o ++ (comma ++ key)) ++ object) ++ resource ≡ o ++ (comma ++ (key ++ (object ++ resource)))
regrouped o comma key object resource = simp append_assoc

pub one-change : (o a b n comma key object resource : List ℕ) → a ≡ o ++ (comma ++ key) → b ≡ a ++ object → n ≡ b ++ resource
    → n ≡ o ++ (comma ++ (key ++ (object ++ resource)))
one-change o a b n comma key object resource first second third =
    third ∙ ap (λ l. l ++ resource) (second ∙ ap (λ l. l ++ object) first) ∙ regrouped o comma key object resource

line-regrouped : (o front items back : List ℕ) → ((o ++ front) ++ items) ++ back ≡ o ++ (front ++ (items ++ back))
line-regrouped o front items back = simp append_assoc

pub one-line : (o a b n front items back : List ℕ) → a ≡ o ++ front → b ≡ a ++ items → n ≡ b ++ back → n ≡ o ++ (front ++ (items ++ back))
one-line o a b n front items back first second third =
    third ∙ ap (λ l. l ++ back) (second ∙ ap (λ l. l ++ items) first) ∙ line-regrouped o front items back

pub changes-more : (old middle new : List ℕ) (changes : List ChangeData) (i : ℕ) (c : ChangeData) (later : Bool) → i < length changes → c ≡ get_or changes i c
    → middle ≡ old ++ items_text (map text_of_change (take i changes)) → later ≡ nat_lt 0 i → new ≡ middle ++ (comma_if later ++ text_of_change c)
    → new ≡ old ++ items_text (map text_of_change (take (i + 1) changes))
changes-more old middle new changes i c later within at so_far first here =
    let texts = map text_of_change (take i changes) in
    let size : length texts ≡ i = length-map (take i changes) text_of_change ∙ length-take-le i changes (omega arith) in
    let more : map text_of_change (take (i + 1) changes) ≡ texts ++ text_of_change c ∷ [] =
    map_more text_of_change changes i c within ∙ ap (λ x. texts ++ text_of_change x ∷ []) (sym at) in
    here ∙ ap (λ l. l ++ (comma_if later ++ text_of_change c)) so_far
    ∙ append_assoc old (items_text texts) (comma_if later ++ text_of_change c)
    ∙ ap (λ l. old ++ l) (sym (ap items_text more ∙ items-push texts (text_of_change c) later (first ∙ ap (nat_lt 0) (sym size))))

pub later-true : (i : ℕ) → true ≡ nat_lt 0 (i + 1)
later-true i = sym (lt-ltb 0 (i + 1) (omega arith))
