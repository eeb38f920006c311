-- No byte of a key needs an escape.
use Rattle.std.proofs.Common.{◌≡◌, ℕ, Bool, true, false, List, [], ◌∷◌, ◌++◌, refl, sym, cond, subst}
use Rattle.std.specs.List.{list_all, slice_split, onto_first}
use Rattle.std.proofs.lemmas.Bool.{and_parts, and_from}
use Rattle.std.proofs.lemmas.Bool.Decides.{nat_tests}
use Rattle.std.proofs.Common.{arith}
use Rattle.json.specs.Print.{escape}
use Rattle.kube_meta.specs.Names.{is_dot, is_dns_byte, is_dns_part}
use Rattle.kube_meta.specs.Keys.{namespace_of, name_of, IsKey}
use Rattle.json_obj.specs.Plain.{is_plain_byte}
use Rattle.json_obj.proofs.Printed.{escape_plain}

dns_is_plain : (b : ℕ) → is_dns_byte b ≡ true → is_plain_byte b ≡ true
dns_is_plain b is = grind (arith, nat_tests)

dot_is_plain : (b : ℕ) → is_dot b ≡ true → is_plain_byte b ≡ true
dot_is_plain b is = grind (arith, nat_tests)

abbrev are_dns : List ℕ → Bool
are_dns text = list_all is_dns_byte text

are_plain : (text : List ℕ) → are_dns text ≡ true → list_all is_plain_byte text ≡ true
are_plain [] is = refl
are_plain (b ∷ text) is =
    let parts = and_parts (is_dns_byte b) (are_dns text) is in
    and_from _ _ (dns_is_plain b parts.0) (are_plain text parts.1)

part_is_dns : (text : List ℕ) → is_dns_part text ≡ true → are_dns text ≡ true
part_is_dns text is = (and_parts _ _ (and_parts _ _ is).1).0

parts_are_dns : (parts : List (List ℕ)) → list_all is_dns_part parts ≡ true → list_all are_dns parts ≡ true
parts_are_dns [] is = refl
parts_are_dns (p ∷ parts) is =
    let both = and_parts (is_dns_part p) (list_all is_dns_part parts) is in
    and_from _ _ (part_is_dns p both.0) (parts_are_dns parts both.1)

one_byte : (b : ℕ) (text : List ℕ) (dot : Bool) → is_dot b ≡ dot → (parts : List (List ℕ)) → (list_all are_dns parts ≡ true → list_all is_plain_byte text ≡ true)
    → list_all are_dns (cond dot ([] ∷ parts) (onto_first b parts)) ≡ true → list_all is_plain_byte (b ∷ text) ≡ true
one_byte b text true is parts more e = and_from _ _ (dot_is_plain b is) (more e)
one_byte b text false is [] more e =
    let both = and_parts (are_dns (b ∷ [])) true e in
    and_from _ _ (dns_is_plain b (and_parts (is_dns_byte b) true both.0).0) (more refl)
one_byte b text false is (p ∷ parts) more e =
    let both = and_parts (are_dns (b ∷ p)) (list_all are_dns parts) e in
    let first = and_parts (is_dns_byte b) (are_dns p) both.0 in
    and_from _ _ (dns_is_plain b first.0) (more (and_from _ _ first.1 both.1))

parted_is_plain : (text : List ℕ) → list_all are_dns (slice_split is_dot text) ≡ true → list_all is_plain_byte text ≡ true
parted_is_plain [] e = refl
parted_is_plain (b ∷ text) e = one_byte b text (is_dot b) refl (slice_split is_dot text) (parted_is_plain text) e

plain_append : (a b : List ℕ) → list_all is_plain_byte a ≡ true → list_all is_plain_byte b ≡ true → list_all is_plain_byte (a ++ b) ≡ true
plain_append [] b first second = second
plain_append (x ∷ a) b first second =
    let parts = and_parts (is_plain_byte x) (list_all is_plain_byte a) first in
    and_from _ _ parts.0 (plain_append a b parts.1 second)

pub key-plain : (key : List ℕ) → IsKey key → escape key ≡ key
key-plain key form =
    let ns : list_all is_plain_byte (namespace_of key) ≡ true = are_plain (namespace_of key) (part_is_dns (namespace_of key) (and_parts _ _ form.namespace).1) in
    let name : list_all is_plain_byte (name_of key) ≡ true =
    parted_is_plain (name_of key) (parts_are_dns (slice_split is_dot (name_of key)) (and_parts _ _ form.name).1) in
    escape_plain key (subst (λ k. list_all is_plain_byte k ≡ true) (sym form.parted) (plain_append (namespace_of key) (47 ∷ name_of key) ns name))
