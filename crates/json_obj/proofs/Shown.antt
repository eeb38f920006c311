-- An object as it is shown: what is found in it, and that showing it again changes nothing but the revision.
use Rattle.std.proofs.Common.{◌≡◌, ℕ, suc, ◌≤◌, List, Ordering, Less, Equal, Greater, false, Option, Some, decimal, refl, sym, ap, ◌∙◌, arith, true≢false}
use Rattle.std.specs.Prelude.{codes}
use Rattle.std.specs.Ordering.{match_ordering, ordering_reverse}
use Rattle.std.specs.Str.{bytes_eq}
use Rattle.std.proofs.lemmas.Bool.{or_parts}
use Rattle.std.proofs.lemmas.Cmp.{nat_list_cmp_total}
use Rattle.std.proofs.lemmas.Slice.Eq.{bytes_eq-Decides}
use Rattle.serde_json.specs.Data.{Data, null, boolean, number, string, array, object, Members, no_members, member, put, depth, members_depth}
use Rattle.serde_json.specs.Find.{get, get_member}
use Rattle.serde_json.specs.Written.{has_float, members_have_float}
use Rattle.serde_json.proofs.Views.{get_member-put, get_member-put_other}
use Rattle.kube_meta.specs.Resources.{api_version_of, kind_of}
use Rattle.kube_meta.specs.declared.resources.Resource.{Resource}
use Rattle.json_obj.specs.Objects.{members_in, shown_metadata, shown_object}
use Rattle.json_obj.proofs.Puts.{cmp, turned}

-- texts that a test tells apart
pub apart : (a b : List ℕ) → bytes_eq a b ≡ false → a ≡ b → ⊥
apart a b is e = true≢false (sym ((bytes_eq-Decides a b).1 e) ∙ is)

-- ---- what is put twice, and in which order

pub equal_itself : (k : List ℕ) → cmp k k ≡ Equal
equal_itself k = middle (cmp k k) (nat_list_cmp_total.antisymm k k)
  where
    middle : (o : Ordering) → o ≡ ordering_reverse o → o ≡ Equal
    middle Less e = cc
    middle Equal e = refl
    middle Greater e = cc

put-twice-either : (k l : List ℕ) (d e f : Data) (ms : Members) (o : Ordering) → cmp k l ≡ o → put k d (put k e ms) ≡ put k d ms
    → put k d (match_ordering o (member k e (member l f ms)) (member l e ms) (member l f (put k e ms))) ≡ match_ordering o (member k d (member l f ms)) (member l d ms) (member l f (put k d ms))
put-twice-either k l d e f ms Less is more = rw (equal_itself k) refl
put-twice-either k l d e f ms Equal is more = rw is refl
put-twice-either k l d e f ms Greater is more = rw is (ap (member l f) more)

-- the last value that is put at a name stays
pub put-twice : (k : List ℕ) (d e : Data) (ms : Members) → put k d (put k e ms) ≡ put k d ms
put-twice k d e no_members = rw (equal_itself k) refl
put-twice k d e (member l f ms) = put-twice-either k l d e f ms (cmp k l) refl (put-twice k d e ms)

commute-either : (k l m : List ℕ) (d e f : Data) (ms : Members) → cmp k l ≡ Less → (first second : Ordering) → cmp k m ≡ first → cmp l m ≡ second → put k d (put l e ms) ≡ put l e (put k d ms)
    → put k d (match_ordering second (member l e (member m f ms)) (member m e ms) (member m f (put l e ms))) ≡ put l e (match_ordering first (member k d (member m f ms)) (member m d ms) (member m f (put k d ms)))
commute-either k l m d e f ms before Less Less is here more = rw (before, turned k l Less before, here) refl
commute-either k l m d e f ms before Less Equal is here more = rw (turned k l Less before, is, here) refl
commute-either k l m d e f ms before Less Greater is here more = rw (turned k l Less before, is, here) refl
commute-either k l m d e f ms before Equal Less is here more = let less : cmp k m ≡ Less = nat_list_cmp_total.trans k l m before here in absurd cc
commute-either k l m d e f ms before Equal Equal is here more =
    let same : cmp k l ≡ cmp m l = nat_list_cmp_total.congr k m l is in
    let equal : cmp m l ≡ Equal = turned l m Equal here in
    absurd cc
commute-either k l m d e f ms before Equal Greater is here more = rw (is, here) refl
commute-either k l m d e f ms before Greater Less is here more = let less : cmp k m ≡ Less = nat_list_cmp_total.trans k l m before here in absurd cc
commute-either k l m d e f ms before Greater Equal is here more =
    let same : cmp l k ≡ cmp m k = nat_list_cmp_total.congr l m k here in
    let after : cmp l k ≡ Greater = turned k l Less before in
    let less : cmp m k ≡ Less = turned k m Greater is in
    absurd cc
commute-either k l m d e f ms before Greater Greater is here more = rw (is, here) (ap (member m f) more)

-- what is put at two names may be put in either order
pub commute : (k l : List ℕ) (d e : Data) (ms : Members) → cmp k l ≡ Less → put k d (put l e ms) ≡ put l e (put k d ms)
commute k l d e no_members before = rw (before, turned k l Less before) refl
commute k l d e (member m f ms) before = commute-either k l m d e f ms before (cmp k m) (cmp l m) refl refl (commute k l d e ms before)

-- what is put again takes the place of what was put
two_again : (k l : List ℕ) (x y x' y' : Data) (ms : Members) → cmp k l ≡ Less → put k x (put l y (put k x' (put l y' ms))) ≡ put k x (put l y ms)
two_again k l x y x' y' ms before =
    ap (put k x) (sym (commute k l x' y (put l y' ms) before)) ∙ put-twice k x x' (put l y (put l y' ms)) ∙ ap (put k x) (put-twice l y y' ms)

three_again : (a k m : List ℕ) (x y z x' y' z' : Data) (ms : Members) → cmp a k ≡ Less → cmp k m ≡ Less → cmp a m ≡ Less
    → put a x (put k y (put m z (put a x' (put k y' (put m z' ms))))) ≡ put a x (put k y (put m z ms))
three_again a k m x y z x' y' z' ms first second third =
    ap (λ w. put a x (put k y w)) (sym (commute a m x' z (put k y' (put m z' ms)) third) ∙ ap (put a x') (sym (commute k m y' z (put m z' ms) second) ∙ ap (put k y') (put-twice m z z' ms)))
    ∙ two_again a k x y x' y' (put m z ms) first

pub shown_metadata-again : (ns : List ℕ) (revision before : ℕ) (ms : Members) → shown_metadata ns revision (members_in (shown_metadata ns before ms)) ≡ shown_metadata ns revision ms
shown_metadata-again ns revision before ms =
    ap object (two_again (codes "namespace") (codes "resourceVersion") (string ns) (string (decimal revision)) (string ns) (string (decimal before)) ms refl)

pub shown_object-again : (resource : Resource) (ns : List ℕ) (revision before : ℕ) (ms meta : Members)
    → shown_object resource ns revision (members_in (shown_object resource ns before ms meta)) (members_in (shown_metadata ns before meta)) ≡ shown_object resource ns revision ms meta
shown_object-again resource ns revision before ms meta =
    let version = string (api_version_of resource) in
    let kind = string (kind_of resource) in
    ap object (three_again (codes "apiVersion") (codes "kind") (codes "metadata") version kind (shown_metadata ns revision (members_in (shown_metadata ns before meta))) version kind (shown_metadata ns before meta) ms refl refl refl
    ∙ ap (λ m. put (codes "apiVersion") version (put (codes "kind") kind (put (codes "metadata") m ms))) (shown_metadata-again ns revision before meta))

-- ---- what is found

abbrev pub found : List ℕ → Members → Option Data
found = get_member

pub get-members_in : (name : List ℕ) (d : Data) → get name d ≡ found name (members_in d)
get-members_in name null = refl
get-members_in name (boolean b) = refl
get-members_in name (number n) = refl
get-members_in name (string s) = refl
get-members_in name (array ds) = refl
get-members_in name (object ms) = refl

found-past_two : (name k l : List ℕ) (x y : Data) (ms : Members) → (name ≡ k → ⊥) → (name ≡ l → ⊥) → found name (put k x (put l y ms)) ≡ found name ms
found-past_two name k l x y ms first second = get_member-put_other name k x (put l y ms) first ∙ get_member-put_other name l y ms second

-- in the metadata: the namespace and the revision, and all else as it was
pub shown-namespace : (ns : List ℕ) (revision : ℕ) (ms : Members) → get (codes "namespace") (shown_metadata ns revision ms) ≡ Some (string ns)
shown-namespace ns revision ms = get_member-put (codes "namespace") (string ns) (put (codes "resourceVersion") (string (decimal revision)) ms)

pub shown-revision : (ns : List ℕ) (revision : ℕ) (ms : Members) → get (codes "resourceVersion") (shown_metadata ns revision ms) ≡ Some (string (decimal revision))
shown-revision ns revision ms = get_member-put_other (codes "resourceVersion") (codes "namespace") (string ns) (put (codes "resourceVersion") (string (decimal revision)) ms) (apart _ _ refl) ∙ get_member-put (codes "resourceVersion") (string (decimal revision)) ms

pub shown-name : (ns : List ℕ) (revision : ℕ) (ms : Members) → get (codes "name") (shown_metadata ns revision ms) ≡ found (codes "name") ms
shown-name ns revision ms = found-past_two (codes "name") (codes "namespace") (codes "resourceVersion") (string ns) (string (decimal revision)) ms (apart _ _ refl) (apart _ _ refl)

pub shown-labels : (ns : List ℕ) (revision : ℕ) (ms : Members) → get (codes "labels") (shown_metadata ns revision ms) ≡ found (codes "labels") ms
shown-labels ns revision ms = found-past_two (codes "labels") (codes "namespace") (codes "resourceVersion") (string ns) (string (decimal revision)) ms (apart _ _ refl) (apart _ _ refl)

-- in the object: the version, the kind and the metadata, and all else as it was
pub shown-api_version : (resource : Resource) (ns : List ℕ) (revision : ℕ) (ms meta : Members) → get (codes "apiVersion") (shown_object resource ns revision ms meta) ≡ Some (string (api_version_of resource))
shown-api_version resource ns revision ms meta = get_member-put (codes "apiVersion") (string (api_version_of resource)) (put (codes "kind") (string (kind_of resource)) (put (codes "metadata") (shown_metadata ns revision meta) ms))

pub shown-kind : (resource : Resource) (ns : List ℕ) (revision : ℕ) (ms meta : Members) → get (codes "kind") (shown_object resource ns revision ms meta) ≡ Some (string (kind_of resource))
shown-kind resource ns revision ms meta = get_member-put_other (codes "kind") (codes "apiVersion") (string (api_version_of resource)) (put (codes "kind") (string (kind_of resource)) (put (codes "metadata") (shown_metadata ns revision meta) ms)) (apart _ _ refl)
    ∙ get_member-put (codes "kind") (string (kind_of resource)) (put (codes "metadata") (shown_metadata ns revision meta) ms)

pub shown-metadata : (resource : Resource) (ns : List ℕ) (revision : ℕ) (ms meta : Members) → get (codes "metadata") (shown_object resource ns revision ms meta) ≡ Some (shown_metadata ns revision meta)
shown-metadata resource ns revision ms meta =
    found-past_two (codes "metadata") (codes "apiVersion") (codes "kind") (string (api_version_of resource)) (string (kind_of resource)) (put (codes "metadata") (shown_metadata ns revision meta) ms) (apart _ _ refl) (apart _ _ refl) ∙ get_member-put (codes "metadata") (shown_metadata ns revision meta) ms

pub shown-other : (name : List ℕ) (resource : Resource) (ns : List ℕ) (revision : ℕ) (ms meta : Members) → (name ≡ codes "apiVersion" → ⊥) → (name ≡ codes "kind" → ⊥) → (name ≡ codes "metadata" → ⊥)
    → get name (shown_object resource ns revision ms meta) ≡ found name ms
shown-other name resource ns revision ms meta first second third =
    found-past_two name (codes "apiVersion") (codes "kind") (string (api_version_of resource)) (string (kind_of resource)) (put (codes "metadata") (shown_metadata ns revision meta) ms) first second
    ∙ get_member-put_other name (codes "metadata") (shown_metadata ns revision meta) ms third

-- ---- floats and nesting

plain-either : (o : Ordering) (a b c : Members) → members_have_float a ≡ false → members_have_float b ≡ false → members_have_float c ≡ false → members_have_float (match_ordering o a b c) ≡ false
plain-either Less a b c p q r = p
plain-either Equal a b c p q r = q
plain-either Greater a b c p q r = r

plain-put : (k : List ℕ) (d : Data) (ms : Members) → has_float d ≡ false → members_have_float ms ≡ false → members_have_float (put k d ms) ≡ false
plain-put k d no_members first rest = rw first refl
plain-put k d (member l e ms) first rest =
    let p = or_parts (has_float e) _ rest in
    let more : members_have_float (put k d ms) ≡ false = plain-put k d ms first p.1 in
    plain-either (cmp k l) (member k d (member l e ms)) (member l d ms) (member l e (put k d ms)) (rw (first, p.0) p.1) (rw first p.1) (rw p.0 more)

pub plain-shown_metadata : (ns : List ℕ) (revision : ℕ) (ms : Members) → members_have_float ms ≡ false → has_float (shown_metadata ns revision ms) ≡ false
plain-shown_metadata ns revision ms plain = plain-put (codes "namespace") (string ns) (put (codes "resourceVersion") (string (decimal revision)) ms) refl (plain-put (codes "resourceVersion") (string (decimal revision)) ms refl plain)

pub plain-shown_object : (resource : Resource) (ns : List ℕ) (revision : ℕ) (ms meta : Members) → members_have_float ms ≡ false → members_have_float meta ≡ false → has_float (shown_object resource ns revision ms meta) ≡ false
plain-shown_object resource ns revision ms meta plain plain_meta =
    plain-put (codes "apiVersion") (string (api_version_of resource)) (put (codes "kind") (string (kind_of resource)) (put (codes "metadata") (shown_metadata ns revision meta) ms)) refl
    (plain-put (codes "kind") (string (kind_of resource)) (put (codes "metadata") (shown_metadata ns revision meta) ms) refl
    (plain-put (codes "metadata") (shown_metadata ns revision meta) ms (plain-shown_metadata ns revision meta plain_meta) plain))

depth-either : (o : Ordering) (a b c : Members) (n : ℕ) → members_depth a ≤ n → members_depth b ≤ n → members_depth c ≤ n → members_depth (match_ordering o a b c) ≤ n
depth-either Less a b c n p q r = p
depth-either Equal a b c n p q r = q
depth-either Greater a b c n p q r = r

depth-put : (k : List ℕ) (d : Data) (ms : Members) (n : ℕ) → depth d ≤ n → members_depth ms ≤ n → members_depth (put k d ms) ≤ n
depth-put k d no_members n first rest = omega arith
depth-put k d (member l e ms) n first rest =
    depth-either (cmp k l) (member k d (member l e ms)) (member l d ms) (member l e (put k d ms)) n (omega arith) (omega arith) (omega (arith, depth-put k d ms n first (omega arith)))

depth-shown_metadata : (ns : List ℕ) (revision : ℕ) (ms : Members) (n : ℕ) → members_depth ms ≤ n → depth (shown_metadata ns revision ms) ≤ suc n
depth-shown_metadata ns revision ms n within =
    let inner = depth-put (codes "resourceVersion") (string (decimal revision)) ms n (omega arith) within in
    let outer = depth-put (codes "namespace") (string ns) (put (codes "resourceVersion") (string (decimal revision)) ms) n (omega arith) inner in
    omega (arith, outer)

-- an object as shown nests no deeper than it did
pub depth-shown_object : (resource : Resource) (ns : List ℕ) (revision : ℕ) (ms meta : Members) (n : ℕ) → members_depth ms ≤ n → suc (members_depth meta) ≤ n → depth (shown_object resource ns revision ms meta) ≤ suc n
depth-shown_object resource ns revision ms meta n within meta_within =
    let shown = depth-shown_metadata ns revision meta (members_depth meta) (omega arith) in
    let inner = depth-put (codes "metadata") (shown_metadata ns revision meta) ms n (omega (arith, shown)) within in
    let middle = depth-put (codes "kind") (string (kind_of resource)) (put (codes "metadata") (shown_metadata ns revision meta) ms) n (omega arith) inner in
    let outer = depth-put (codes "apiVersion") (string (api_version_of resource)) (put (codes "kind") (string (kind_of resource)) (put (codes "metadata") (shown_metadata ns revision meta) ms)) n (omega arith) middle in
    omega (arith, outer)
