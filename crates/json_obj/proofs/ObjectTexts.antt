-- The text of an object around its revision, from what was written step by step.
use Rattle.std.proofs.Common.{◌≡◌, ℕ, List, [], ◌∷◌, ◌++◌, true, false, decimal, refl, sym, ap, ◌∙◌, append_assoc}
use Rattle.std.specs.Prelude.{codes}
use Rattle.std.proofs.lemmas.List.{append_cancel_left}
use Rattle.json.specs.Print.{quoted}
use Rattle.serde_json.specs.Data.{Data, string, object, Members, put}
use Rattle.serde_json.specs.Written.{compact_text, members_text}
use Rattle.json_obj.specs.Members.{Put, Opens, WritesText}
use Rattle.json_obj.specs.Objects.{shown_metadata}
use Rattle.json_obj.proofs.Digits.{escape-decimal}

regrouped : (front opening digits closing back : List ℕ) → (front ++ opening) ++ digits ++ (closing ++ back) ≡ front ++ ((opening ++ digits ++ closing) ++ back)
regrouped front opening digits closing back = simp append_assoc

quotes_apart : (front digits back : List ℕ) → (front ++ 34 ∷ []) ++ digits ++ (34 ∷ back) ≡ front ++ ((34 ∷ (digits ++ 34 ∷ [])) ++ back)
quotes_apart front digits back = simp append_assoc

quoted-decimal : (n : ℕ) → quoted (decimal n) ≡ 34 ∷ (decimal n ++ 34 ∷ [])
quoted-decimal n = ap (λ x. 34 ∷ (x ++ 34 ∷ [])) (escape-decimal n)

pub metadata_text : (f0 f1 f2 f3 f4 opening closing ns : List ℕ) (m0 m1 m2 : Members) (revision : ℕ)
    → f1 ≡ f0 ++ 123 ∷ [] → WritesText (codes "namespace") ns f1 false m0 f2 m1 → Opens (codes "resourceVersion") f2 true m1 f3 m2
    → f4 ≡ f3 ++ 34 ∷ [] → f4 ≡ f0 ++ opening → closing ≡ 34 ∷ members_text true m2
    → opening ++ decimal revision ++ closing ≡ compact_text (shown_metadata ns revision m0)
metadata_text f0 f1 f2 f3 f4 opening closing ns m0 m1 m2 revision start first second quote grown closed =
    let digits = decimal revision in
    let last : List Put = (codes "resourceVersion", string digits) ∷ [] in
    let text = members_text false (put (codes "namespace") (string ns) (put (codes "resourceVersion") (string digits) m0)) in
    let here : f0 ++ (opening ++ digits ++ closing) ≡ f4 ++ digits ++ closing = rw grown (simp append_assoc) in
    let there : f4 ++ digits ++ closing ≡ f3 ++ ((34 ∷ (digits ++ 34 ∷ [])) ++ members_text true m2) = rw (quote, closed) (quotes_apart f3 digits (members_text true m2)) in
    let value : f3 ++ ((34 ∷ (digits ++ 34 ∷ [])) ++ members_text true m2) ≡ f3 ++ (quoted digits ++ members_text true m2) = ap (λ x. f3 ++ (x ++ members_text true m2)) (sym (quoted-decimal revision)) in
    let opened : f2 ++ members_text true (put (codes "resourceVersion") (string digits) m1) ≡ f3 ++ (quoted digits ++ members_text true m2) = second (string digits) [] tt in
    let named : f1 ++ text ≡ f2 ++ members_text true (put (codes "resourceVersion") (string digits) m1) = first last (refl, tt) in
    let whole : f1 ++ text ≡ f0 ++ (123 ∷ text) = rw start (append_assoc f0 (123 ∷ []) text) in
    append_cancel_left f0 _ _ (here ∙ there ∙ value ∙ sym opened ∙ sym named ∙ whole)

pub object_text : (f1 f2 f3 before front closing back opening version kind digits : List ℕ) (ms m1 m2 m3 : Members) (d : Data)
    → f1 ≡ 123 ∷ [] → WritesText (codes "apiVersion") version f1 false ms f2 m1 → WritesText (codes "kind") kind f2 true m1 f3 m2
    → Opens (codes "metadata") f3 true m2 before m3
    → front ≡ before ++ opening → back ≡ closing ++ members_text true m3 → opening ++ digits ++ closing ≡ compact_text d
    → front ++ digits ++ back ≡ compact_text (object (put (codes "apiVersion") (string version) (put (codes "kind") (string kind) (put (codes "metadata") d ms))))
object_text f1 f2 f3 before front closing back opening version kind digits ms m1 m2 m3 d start first second third in_front in_back within =
    let one : List Put = (codes "metadata", d) ∷ [] in
    let two : List Put = (codes "kind", string kind) ∷ one in
    let text = members_text false (put (codes "apiVersion") (string version) (put (codes "kind") (string kind) (put (codes "metadata") d ms))) in
    let apart : front ++ digits ++ back ≡ before ++ ((opening ++ digits ++ closing) ++ members_text true m3) = rw (in_front, in_back) (regrouped before opening digits closing (members_text true m3)) in
    let value : before ++ ((opening ++ digits ++ closing) ++ members_text true m3) ≡ before ++ (compact_text d ++ members_text true m3) = ap (λ x. before ++ (x ++ members_text true m3)) within in
    let opened : f3 ++ members_text true (put (codes "metadata") d m2) ≡ before ++ (compact_text d ++ members_text true m3) = third d [] tt in
    let kinds : f2 ++ members_text true (put (codes "kind") (string kind) (put (codes "metadata") d m1)) ≡ f3 ++ members_text true (put (codes "metadata") d m2) = second one (refl, tt) in
    let versions : f1 ++ text ≡ f2 ++ members_text true (put (codes "kind") (string kind) (put (codes "metadata") d m1)) = first two (refl, (refl, tt)) in
    let whole : f1 ++ text ≡ 123 ∷ text = rw start refl in
    apart ∙ value ∙ sym opened ∙ sym kinds ∙ sym versions ∙ whole
