use Rattle.std.proofs.Common.{sym, subst, ℕ, List, [], Option, None, IfSome}
use Rattle.cluster_link.specs.Lists.{IsOfAll}
use Rattle.kube_meta.specs.Names.{IsNamespace}
use Rattle.kube_meta.specs.declared.resources.Resource.{Resource}
use Rattle.select_all.specs.Reading.{IsRead}
use Rattle.select_all.specs.declared.selection.Selection.{Selection}
use Rattle.cases.proofs.servers.clusters.all_of.Goals as goal

of_all : (resource : Resource) (s : Selection) → IsRead resource None [] [] s → IsOfAll s
of_all resource s read = record {
  read = subst (λ (n : Option (List ℕ)). IsRead s.resource n [] [] s) (sym read.ns_is) (subst (λ (r : Resource). IsRead r None [] [] s) (sym read.resource_is) read);
  namespace = subst (λ (n : Option (List ℕ)). IfSome n IsNamespace) (sym read.ns_is) tt;
}

pub returns-in-Ok : goal.returns-in-Ok
returns-in-Ok c = of_all c.args.resource c.in-Ok.selection c.in-Ok.ensures.found
