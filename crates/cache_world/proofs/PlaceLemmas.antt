-- One cache, or one client, among all that is changed.
use Rattle.std.proofs.Common.{◌≡◌, ℕ, true, false, Option, Some, None, IfSome, refl, sym, subst, nat_eq, cond}
use Rattle.std.proofs.lemmas.Bool.{cond_both, eqb-true}
use Rattle.kube_meta.specs.declared.resources.Resource.{Resource}
use Rattle.kube_meta.specs.declared.resources.Resource.TheVariants.{Pods, ConfigMaps, Deployments}
use Rattle.kube_meta.specs.Resources.{same_resource}
use Rattle.cache_world.specs.World.{WatchData}
use Rattle.cache_world.specs.Steps.{each_of}

pub same_is : (a b : Resource) → same_resource a b ≡ true → a ≡ b
same_is Pods Pods e = refl
same_is Pods ConfigMaps e = absurd (cc)
same_is Pods Deployments e = absurd (cc)
same_is ConfigMaps Pods e = absurd (cc)
same_is ConfigMaps ConfigMaps e = refl
same_is ConfigMaps Deployments e = absurd (cc)
same_is Deployments Pods e = absurd (cc)
same_is Deployments ConfigMaps e = absurd (cc)
same_is Deployments Deployments e = refl

pub same_self : (a : Resource) → same_resource a a ≡ true
same_self Pods = refl
same_self ConfigMaps = refl
same_self Deployments = refl

-- what holds at one resource of a new value, and at the others of the old ones, holds at each
pub at_resource : {A : Type 0} (P : Resource → A → Type 0) (all : Resource → A) (resource : Resource) (new : A) → P resource new → ((r : Resource) → same_resource r resource ≡ false → P r (all r)) →
    (r : Resource) → P r (cond (same_resource r resource) new (all r))
at_resource P all resource new here elsewhere r =
    cond_both (same_resource r resource) new (all r) (P r) (λ e. subst (λ (q : Resource). P q new) (sym (same_is r resource e)) here) (elsewhere r)

pub at_number : {A : Type 0} (P : ℕ → A → Type 0) (all : ℕ → A) (i : ℕ) (new : A) → P i new → ((j : ℕ) → nat_eq j i ≡ false → P j (all j)) →
    (j : ℕ) → P j (cond (nat_eq j i) new (all j))
at_number P all i new here elsewhere j =
    cond_both (nat_eq j i) new (all j) (P j) (λ e. subst (λ (k : ℕ). P k new) (sym (eqb-true j i e)) here) (elsewhere j)

-- a watch that each watch of a resource changes into
pub each_watch : (P Q : WatchData → Type 0) (resource : Resource) (change : WatchData → WatchData) (watch : Option WatchData) → IfSome watch P →
    ((w : WatchData) → same_resource w.lane.selection.resource resource ≡ true → P w → Q (change w)) →
    ((w : WatchData) → same_resource w.lane.selection.resource resource ≡ false → P w → Q w) →
    IfSome (each_of resource change watch) Q
each_watch P Q resource change None is here elsewhere = tt
each_watch P Q resource change (Some w) is here elsewhere =
    cond_both (same_resource w.lane.selection.resource resource) (change w) w Q (λ e. here w e is) (λ e. elsewhere w e is)

pub each_some : {A : Type 0} (P Q : A → Type 0) (o : Option A) → ((x : A) → P x → Q x) → IfSome o P → IfSome o Q
each_some P Q None so is = tt
each_some P Q (Some x) so is = so x is

-- what holds at both tests holds at a test
pub known_some : {A : Type 0} (P : A → Type 0) (o : Option A) (x : A) → o ≡ Some x → IfSome o P → P x
known_some {A = A} P o x same is = subst (λ (p : Option A). IfSome p P) same is
