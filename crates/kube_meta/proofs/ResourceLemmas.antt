-- Resources by their names.
use Rattle.std.proofs.Common.{◌≡◌, Bool, true, ℕ, List, [], ◌∷◌, Some, refl, ◌∙◌, ap, inl, inr, bytes_eq}
use Rattle.std.specs.Prelude.{find}
use Rattle.std.proofs.lemmas.Bool.{cases_Bool, and_parts}
use Rattle.std.proofs.lemmas.Slice.Eq.{bytes_eq-Decides}
use Rattle.kube_meta.specs.declared.resources.Resource.{Resource}
use Rattle.kube_meta.specs.declared.resources.Resource.TheVariants.{Pods, ConfigMaps, Deployments}
use Rattle.kube_meta.specs.Resources.{plural_of, group_of, version_of, of_plural, of_group, is_named, all_resources, EachIsListed, PluralsAreReadBack, GroupsAreReadBack, NamesAgree}

-- what is found passes the test
found_passes : {A : Type 0} (p : A → Bool) (xs : List A) (x : A) → find p xs ≡ Some x → p x ≡ true
found_passes p [] x e = absurd (cc)
found_passes p (y ∷ xs) x e = elim (cases_Bool (p y)) [
  | inl pass ↦
      let here : Some y ≡ Some x = rw pass at e in
      let same : y ≡ x = cc in
      rw (← same) pass
  | inr fail ↦ let later : find p xs ≡ Some x = rw fail at e in found_passes p xs x later
]

same_text : (a b : List ℕ) → bytes_eq a b ≡ true → a ≡ b
same_text a b = (bytes_eq-Decides a b).0

pub listed : EachIsListed
listed Pods other = refl
listed ConfigMaps other = refl
listed Deployments other = refl

found_plural : (r : Resource) → of_plural (plural_of r) ≡ Some r
found_plural Pods = refl
found_plural ConfigMaps = refl
found_plural Deployments = refl

pub plurals : PluralsAreReadBack
plurals plural r = (
  λ found. same_text plural (plural_of r) (found_passes (λ x. bytes_eq plural (plural_of x)) all_resources r found),
  λ same. ap of_plural same ∙ found_plural r,
)

found_group : (r : Resource) → of_group (group_of r) (version_of r) (plural_of r) ≡ Some r
found_group Pods = refl
found_group ConfigMaps = refl
found_group Deployments = refl

pub groups : GroupsAreReadBack
groups group version plural r = (
  λ found.
      let parts = and_parts _ _ (found_passes (λ x. is_named x group version plural) all_resources r found) in
      let rest = and_parts _ _ parts.1 in
      (same_text group (group_of r) parts.0, same_text version (version_of r) rest.0, same_text plural (plural_of r) rest.1),
  λ same. rw (same.0, same.1, same.2) (found_group r),
)

pub agree : NamesAgree
agree Pods = record { api_version = refl; message_name = refl; base_path = refl }
agree ConfigMaps = record { api_version = refl; message_name = refl; base_path = refl }
agree Deployments = record { api_version = refl; message_name = refl; base_path = refl }
