-- The object that is stored for a value is one.
use Rattle.std.proofs.Common.{◌≡◌, ℕ, zero, suc, ◌<◌, ◌≤◌, List, [], ◌∷◌, ◌++◌, length, take, drop, Ordering, Less, Equal, Greater, is_eq, Bool, true, false, Some, None, decimal, get_or, refl, sym, ap, ap₂, ◌∙◌, subst, arith, append_assoc, length-drop, length-take}
use Rattle.std.specs.Str.{bytes_eq}
use Rattle.std.proofs.Math.Bridge.{le_prop}
use Rattle.std.proofs.lemmas.Cmp.{nat_list_cmp_total}
use Rattle.std.proofs.lemmas.Fmt.{decimal_digit}
use Rattle.std.proofs.lemmas.Map.Text.{is_eq-slice_cmp}
use Rattle.std.proofs.lemmas.Slice.Eq.{bytes_eq-Decides}
use Rattle.serde_json.specs.Data.{Data}
use Rattle.serde_json.specs.Written.{has_float}
use Rattle.kube_meta.specs.Labels.{Pairs, value_at, name_at, AreSorted}
use Rattle.kube_meta.specs.declared.objects.Obj.{Obj}
use Rattle.kube_meta.specs.declared.resources.Resource.{Resource}
use Rattle.json_obj.specs.Objects.{IsObjectOf}
use Rattle.json_obj.proofs.Puts.{cmp, turned, same_name}

-- ---- labels in order are decided by what they are at each name

tail_sorted : (x : List ℕ × List ℕ) (xs : Pairs) → AreSorted (x ∷ xs) → AreSorted xs
tail_sorted x xs h = λ i j before within. h (suc i) (suc j) (omega arith) (omega arith)

absent : (name : List ℕ) (xs : Pairs) → ((j : ℕ) → j < length xs → cmp name (name_at xs j) ≡ Less) → value_at xs name ≡ None
absent name [] h = refl
absent name (x ∷ xs) h =
    let less : cmp name x.0 ≡ Less = h 0 (omega arith) in
    let other : bytes_eq name x.0 ≡ false = sym (is_eq-slice_cmp name x.0) ∙ ap is_eq less in
    rw other (absent name xs (λ j within. h (suc j) (omega arith)))

above_first : (x : List ℕ × List ℕ) (xs : Pairs) → AreSorted (x ∷ xs) → value_at xs x.0 ≡ None
above_first x xs h = absent x.0 xs (λ j within. h 0 (suc j) (omega arith) (omega arith))

below_all : (name : List ℕ) (x : List ℕ × List ℕ) (xs : Pairs) → AreSorted (x ∷ xs) → cmp name x.0 ≡ Less → value_at (x ∷ xs) name ≡ None
below_all name x xs h less = absent name (x ∷ xs) each
  where
    each : (j : ℕ) → j < length (x ∷ xs) → cmp name (name_at (x ∷ xs) j) ≡ Less
    each zero within = less
    each (suc j) within = nat_list_cmp_total.trans name x.0 (name_at xs j) less (h 0 (suc j) (omega arith) (omega arith))

same_bytes : (text : List ℕ) → bytes_eq text text ≡ true
same_bytes text = (bytes_eq-Decides text text).1 refl

at_first : (x : List ℕ × List ℕ) (xs : Pairs) → value_at (x ∷ xs) x.0 ≡ Some x.1
at_first x xs = rw (same_bytes x.0) refl

rest_same : (b : Bool) (name : List ℕ) (x y : List ℕ × List ℕ) (xs ys : Pairs) → bytes_eq name x.0 ≡ b → x.0 ≡ y.0 → AreSorted (x ∷ xs) → AreSorted (y ∷ ys)
    → value_at (x ∷ xs) name ≡ value_at (y ∷ ys) name → value_at xs name ≡ value_at ys name
rest_same true name x y xs ys is same first second e =
    let here : name ≡ x.0 = (bytes_eq-Decides name x.0).0 is in
    let none : value_at xs name ≡ None = subst (λ n. value_at xs n ≡ None) (sym here) (above_first x xs first) in
    let none' : value_at ys name ≡ None = subst (λ n. value_at ys n ≡ None) (sym (here ∙ same)) (above_first y ys second) in
    none ∙ sym none'
rest_same false name x y xs ys is same first second e =
    let is' : bytes_eq name y.0 ≡ false = ap (bytes_eq name) (sym same) ∙ is in
    rw (is, is') at e

pub one_list : (xs ys : Pairs) → AreSorted xs → AreSorted ys → ((name : List ℕ) → value_at xs name ≡ value_at ys name) → xs ≡ ys
one_list [] [] first second h = refl
one_list [] (y ∷ ys) first second h = let here = h y.0 ∙ at_first y ys in absurd cc
one_list (x ∷ xs) [] first second h = let here = sym (at_first x xs) ∙ h x.0 in absurd cc
one_list (x ∷ xs) (y ∷ ys) first second h =
    by_order (λ same. one_list xs ys (tail_sorted x xs first) (tail_sorted y ys second) (λ name. rest_same (bytes_eq name x.0) name x y xs ys refl same first second (h name))) (cmp x.0 y.0) refl
  where
    by_order : (x.0 ≡ y.0 → xs ≡ ys) → (o : Ordering) → cmp x.0 y.0 ≡ o → x ∷ xs ≡ y ∷ ys
    by_order rest Less is = let here = sym (at_first x xs) ∙ h x.0 ∙ below_all x.0 y ys second is in absurd cc
    by_order rest Greater is = let here = sym (at_first y ys) ∙ sym (h y.0) ∙ below_all y.0 x xs first (turned x.0 y.0 Greater is) in absurd cc
    by_order rest Equal is =
        let same : x.0 ≡ y.0 = same_name x.0 y.0 is in
        let values : Some x.1 ≡ Some y.1 = sym (at_first x xs) ∙ h x.0 ∙ ap (value_at (y ∷ ys)) same ∙ at_first y ys in
        let value : x.1 ≡ y.1 = cc in
        let pair : x ≡ y = ap₂ (λ a b. (a, b)) same value in
        ap₂ (λ a b. a ∷ b) pair (rest same)

-- ---- a text that is open at one place is decided by its texts with 1 and with 2 there

hole : (f g b c : List ℕ) → f ++ 49 ∷ b ≡ g ++ 49 ∷ c → f ++ 50 ∷ b ≡ g ++ 50 ∷ c → (f ≡ g) × (b ≡ c)
hole [] [] b c one two = (refl, ap (drop 1) one)
hole [] (y ∷ g) b c one two =
    let first : 49 ≡ y = ap (λ l. get_or l 0 0) one in
    let second : 50 ≡ y = ap (λ l. get_or l 0 0) two in
    absurd (omega arith)
hole (x ∷ f) [] b c one two =
    let first : x ≡ 49 = ap (λ l. get_or l 0 0) one in
    let second : x ≡ 50 = ap (λ l. get_or l 0 0) two in
    absurd (omega arith)
hole (x ∷ f) (y ∷ g) b c one two =
    let first : x ≡ y = ap (λ l. get_or l 0 0) one in
    let rest = hole f g b c (ap (drop 1) one) (ap (drop 1) two) in
    (ap₂ (λ a l. a ∷ l) first rest.0, rest.1)

pub one_hole : (f g b c : List ℕ) → ((n : ℕ) → f ++ decimal n ++ b ≡ g ++ decimal n ++ c) → (f ≡ g) × (b ≡ c)
one_hole f g b c h =
    let digit : (n : ℕ) (d : List ℕ) → decimal n ≡ d → f ++ (d ++ b) ≡ g ++ (d ++ c) = λ n d is.
    sym (append_assoc f d b) ∙ sym (ap (λ x. (f ++ x) ++ b) is) ∙ h n ∙ ap (λ x. (g ++ x) ++ c) is ∙ append_assoc g d c in
    hole f g b c (digit 1 (49 ∷ []) (decimal_digit 1 (omega arith))) (digit 2 (50 ∷ []) (decimal_digit 2 (omega arith)))

-- ---- objects

abbrev whole_object : (key : List ℕ) (labels : Pairs) (fields : List (List ℕ)) (front back : List ℕ) (from to : ℕ) → from ≤ length front → to ≤ length back → Obj
whole_object key labels fields front back from to in_front in_back =
    record { key = key; labels = labels; fields = fields; front = front; back = back; meta_from = from; meta_to = to; from_in_front = in_front; to_in_back = in_back }

one_bound : (m n : ℕ) (p q : m ≤ n) → p ≡ q
one_bound m n p q = le_prop p q

-- where the metadata lies is told by the two places alone
same_text : (key : List ℕ) (labels : Pairs) (fields : List (List ℕ)) (front front' back back' : List ℕ) (from from' to to' : ℕ) (p : from ≤ length front) (q : to ≤ length back) (p' : from' ≤ length front') (q' : to' ≤ length back')
    → front ≡ front' → back ≡ back' → from ≡ from' → to ≡ to' → whole_object key labels fields front back from to p q ≡ whole_object key labels fields front' back' from' to' p' q'
same_text key labels fields front front' back back' from from' to to' p q p' q' fronts backs froms tos =
    let start = whole_object key labels fields front back from to p q in
    let here : (r : from ≤ length front) (s : to ≤ length back) → start ≡ whole_object key labels fields front back from to r s =
    λ r s. ap₂ (λ a b. whole_object key labels fields front back from to a b) (one_bound from (length front) p r) (one_bound to (length back) q s) in
    let first : (r : from ≤ length front') (s : to ≤ length back) → start ≡ whole_object key labels fields front' back from to r s =
    subst (λ x. (r : from ≤ length x) (s : to ≤ length back) → start ≡ whole_object key labels fields x back from to r s) fronts here in
    let second : (r : from ≤ length front') (s : to ≤ length back') → start ≡ whole_object key labels fields front' back' from to r s =
    subst (λ x. (r : from ≤ length front') (s : to ≤ length x) → start ≡ whole_object key labels fields front' x from to r s) backs first in
    let third : (r : from' ≤ length front') (s : to ≤ length back') → start ≡ whole_object key labels fields front' back' from' to r s =
    subst (λ x. (r : x ≤ length front') (s : to ≤ length back') → start ≡ whole_object key labels fields front' back' x to r s) froms second in
    let fourth : (r : from' ≤ length front') (s : to' ≤ length back') → start ≡ whole_object key labels fields front' back' from' to' r s =
    subst (λ x. (r : from' ≤ length front') (s : x ≤ length back') → start ≡ whole_object key labels fields front' back' from' x r s) tos third in
    fourth p' q'

same_object : (o other : Obj) → o.key ≡ other.key → o.labels ≡ other.labels → o.fields ≡ other.fields → o.front ≡ other.front → o.back ≡ other.back → o.meta_from ≡ other.meta_from → o.meta_to ≡ other.meta_to → o ≡ other
same_object o other key labels fields front back from to =
    let at : List ℕ → Pairs → List (List ℕ) → Obj = λ k l f. whole_object k l f o.front o.back o.meta_from o.meta_to o.from_in_front o.to_in_back in
    ap (λ k. at k o.labels o.fields) key ∙ ap (λ l. at other.key l o.fields) labels ∙ ap (λ f. at other.key other.labels f) fields
    ∙ same_text other.key other.labels other.fields o.front other.front o.back other.back o.meta_from other.meta_from o.meta_to other.meta_to o.from_in_front o.to_in_back other.from_in_front other.to_in_back front back from to

same_drop : (text : List ℕ) (m n : ℕ) → m ≤ length text → n ≤ length text → drop m text ≡ drop n text → m ≡ n
same_drop text m n first second e =
    let lengths = ap length e in
    omega (arith, lengths, length-drop m text, length-drop n text)

same_take : (text : List ℕ) (m n : ℕ) → m ≤ length text → n ≤ length text → take m text ≡ take n text → m ≡ n
same_take text m n first second e =
    let lengths = ap length e in
    omega (arith, lengths, length-take m text, length-take n text)

pub one_object : (resource : Resource) (ns : List ℕ) (d : Data) (o other : Obj) → has_float d ≡ false → IsObjectOf resource ns d o → IsObjectOf resource ns d other → o ≡ other
one_object resource ns d o other plain is also =
    let whole = one_hole o.front other.front o.back other.back (λ n. is.text plain n ∙ sym (also.text plain n)) in
    let part = one_hole (drop o.meta_from o.front) (drop other.meta_from other.front) (take o.meta_to o.back) (take other.meta_to other.back) (λ n. is.metadata plain n ∙ sym (also.metadata plain n)) in
    let from : o.meta_from ≡ other.meta_from =
    same_drop o.front o.meta_from other.meta_from o.from_in_front (rw whole.0 other.from_in_front) (part.0 ∙ ap (drop other.meta_from) (sym whole.0)) in
    let to : o.meta_to ≡ other.meta_to =
    same_take o.back o.meta_to other.meta_to o.to_in_back (rw whole.1 other.to_in_back) (part.1 ∙ ap (take other.meta_to) (sym whole.1)) in
    same_object o other (is.key ∙ sym also.key) (one_list o.labels other.labels is.sorted also.sorted (λ name. is.labels name ∙ sym (also.labels name))) (is.fields ∙ sym also.fields) whole.0 whole.1 from to
