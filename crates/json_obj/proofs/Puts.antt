-- Members that are put around those of an object, in the order of their names.
use Rattle.std.proofs.Common.{◌≡◌, ℕ, List, [], ◌∷◌, Ordering, Less, Equal, Greater, nat_cmp, is_eq, refl, sym, ap, ◌∙◌, subst, Bool, true, false, ◌||◌, ◌++◌, true≢false, Option, Some, None, Bor, String, Global, append_assoc}
use Rattle.std.specs.Prelude.{MatchOption}
use Rattle.std.specs.Cmp.Lexicographic.{slice_cmp}
use Rattle.std.specs.Ordering.{match_ordering, ordering_reverse}
use Rattle.std.proofs.lemmas.Cmp.{nat_list_cmp_total}
use Rattle.std.proofs.lemmas.Map.Text.{is_eq-slice_cmp}
use Rattle.std.proofs.lemmas.Slice.Eq.{bytes_eq-Decides}
use Rattle.serde_json.specs.Data.{Data, Members, no_members, member, put}
use Rattle.serde_json.specs.View.{members_view}
use Rattle.serde_json.specs.declared.value.Value.{Value}
use Rattle.json_obj.specs.Orderly.{IsBelow}
use Rattle.json_obj.specs.Members.{Grows, Put, puts, IsBefore, members_from}

-- the order of two names
abbrev pub cmp : List ℕ → List ℕ → Ordering
cmp = slice_cmp nat_cmp

pub turned : (a b : List ℕ) (o : Ordering) → cmp a b ≡ o → cmp b a ≡ ordering_reverse o
turned a b o e = nat_list_cmp_total.antisymm b a ∙ ap ordering_reverse e

pub same_name : (a b : List ℕ) → cmp a b ≡ Equal → a ≡ b
same_name a b e = (bytes_eq-Decides a b).0 (sym (is_eq-slice_cmp a b) ∙ ap is_eq e)

-- what stands before the name stands before all that the name stands before
pub IsBefore-below : (l name : List ℕ) (gs : List Put) → cmp name l ≡ Greater → IsBefore name gs → IsBefore l gs
IsBefore-below l name [] above before = tt
IsBefore-below l name (g ∷ gs) above before = (nat_list_cmp_total.trans l name g.0 (turned name l Greater above) before.0, IsBefore-below l name gs above before.1)

put-past : (k l : List ℕ) (d e : Data) (ms : Members) → cmp l k ≡ Less → put k d (member l e ms) ≡ member l e (put k d ms)
put-past k l d e ms before = rw (turned l k Less before) refl

-- a first member that stands before them stays the first
pub puts-past : (gs : List Put) (l : List ℕ) (e : Data) (ms : Members) → IsBefore l gs → puts gs (member l e ms) ≡ member l e (puts gs ms)
puts-past [] l e ms before = refl
puts-past (g ∷ gs) l e ms before = ap (put g.0 g.1) (puts-past gs l e ms before.1) ∙ put-past g.0 l g.1 e (puts gs ms) before.0

put-below : (name : List ℕ) (d : Data) (ms : Members) → IsBelow name ms → put name d ms ≡ member name d ms
put-below name d no_members below = refl
put-below name d (member l e ms) below = rw below refl

IsBelow-match : (name : List ℕ) (o : Ordering) (a b c : Members) → IsBelow name a → IsBelow name b → IsBelow name c → IsBelow name (match_ordering o a b c)
IsBelow-match name Less a b c p q r = p
IsBelow-match name Equal a b c p q r = q
IsBelow-match name Greater a b c p q r = r

pub IsBelow-put : (name k : List ℕ) (d : Data) (ms : Members) → cmp name k ≡ Less → IsBelow name ms → IsBelow name (put k d ms)
IsBelow-put name k d no_members before below = before
IsBelow-put name k d (member l e ms) before below = IsBelow-match name (cmp k l) _ _ _ before below below

IsBelow-puts : (name : List ℕ) (gs : List Put) (ms : Members) → IsBefore name gs → IsBelow name ms → IsBelow name (puts gs ms)
IsBelow-puts name [] ms before below = below
IsBelow-puts name (g ∷ gs) ms before below = IsBelow-put name g.0 g.1 (puts gs ms) before.0 (IsBelow-puts name gs ms before.1 below)

-- what is put before the first member goes in front
pub put-front : (name : List ℕ) (d : Data) (gs : List Put) (ms : Members) → IsBefore name gs → IsBelow name ms → put name d (puts gs ms) ≡ member name d (puts gs ms)
put-front name d gs ms before below = put-below name d (puts gs ms) (IsBelow-puts name gs ms before below)

-- what is put at the first member's name takes its place
pub put-same : (name l : List ℕ) (d e : Data) (gs : List Put) (ms : Members) → cmp name l ≡ Equal → IsBefore name gs
    → put name d (puts gs (member l e ms)) ≡ member name d (puts gs ms)
put-same name l d e gs ms same before =
    let is = same_name name l same in
    ap (put name d) (puts-past gs l e ms (subst (λ (x : List ℕ). IsBefore x gs) is before)) ∙ rw same (ap (λ x. member x d (puts gs ms)) (sym is))

-- what is put after the first member leaves it the first
pub put-later : (name l : List ℕ) (d e : Data) (gs : List Put) (ms : Members) → cmp name l ≡ Greater → IsBefore name gs
    → put name d (puts gs (member l e ms)) ≡ member l e (put name d (puts gs ms))
put-later name l d e gs ms above before = ap (put name d) (puts-past gs l e ms (IsBefore-below l name gs above before)) ∙ rw above refl

-- a member's text, in front of the text of those after it
pub member_text : (out comma name value more : List ℕ) → out ++ (comma ++ (name ++ 58 ∷ (value ++ more))) ≡ (out ++ (comma ++ (name ++ 58 ∷ value))) ++ more
member_text out comma name value more = simp append_assoc

pub or-false : (a b : Bool) → (a || b) ≡ false → (a ≡ false) × (b ≡ false)
or-false true b e = absurd (true≢false e)
or-false false b e = (refl, e)

-- what is left after the iterator's next step
pub members_from-next : (head : Option (Bor (String Global) × Bor Value)) (rest left : List (String Global × Value))
    → MatchOption head ((rest ≡ []) × (left ≡ [])) (λ e. rest ≡ (e.0.now, e.1.now) ∷ left) → members_from head left ≡ members_view rest
members_from-next None rest left h = sym (ap members_view h.0)
members_from-next (Some e) rest left h = sym (ap members_view h)

pub Grows-again : (a b c : List ℕ) → Grows a b → Grows b c → Grows a c
Grows-again a b c first second = (first.0 ++ second.0, second.1 ∙ ap (λ x. x ++ second.0) first.1 ∙ append_assoc a first.0 second.0)
