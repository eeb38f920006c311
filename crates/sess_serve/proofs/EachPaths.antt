-- A request whose path is that of a resource is of that resource.
use Rattle.std.proofs.Common.{◌≡◌, List, ℕ, ap, inl, inr}
use Rattle.std.specs.Option.{option_map_or}
use Rattle.kube_meta.specs.declared.resources.Resource.{Resource}
use Rattle.kube_meta.specs.declared.resources.Resource.TheVariants.{Pods, ConfigMaps, Deployments}
use Rattle.sess_serve.specs.Each.{IsPathIn, resource_at, RequestsAreOfTheirPath}

abbrev of : List (List ℕ) → Resource
of path = option_map_or (λ resource. resource) (resource_at path) Pods

by-path : (path : List (List ℕ)) (resource : Resource) → IsPathIn path resource → of path ≡ resource
by-path path Pods (inl is) = ap of is
by-path path Pods (inr (inl (ns, is))) = ap of is
by-path path Pods (inr (inr (ns, name, is))) = ap of is
by-path path ConfigMaps (inl is) = ap of is
by-path path ConfigMaps (inr (inl (ns, is))) = ap of is
by-path path ConfigMaps (inr (inr (ns, name, is))) = ap of is
by-path path Deployments (inl is) = ap of is
by-path path Deployments (inr (inl (ns, is))) = ap of is
by-path path Deployments (inr (inr (ns, name, is))) = ap of is

pub of-path : RequestsAreOfTheirPath
of-path req resource is = by-path req.path resource is
