-- Two texts stand for one selection at most.
use Rattle.std.proofs.Common.{◌≡◌, ℕ, List, Option, codes, sym, ◌∙◌}
use Rattle.kube_meta.specs.declared.resources.Resource.{Resource}
use Rattle.select_all.specs.declared.selection.Selection.{Selection}
use Rattle.list_rules.specs.Options.{QueryPairs, parameter_text}
use Rattle.route_req.specs.Asks.{IsSelection}
use Rattle.route_req.specs.Outcomes.{SelectionsAgree}
use Rattle.label_select.proofs.RequirementLaws.{one_selector as one_label_selector}
use Rattle.field_select.proofs.Laws.{one_selector as one_field_selector}

pub selections_agree : SelectionsAgree
selections_agree r ns label field s t is also =
    let resource : s.resource ≡ t.resource = is.resource_is ∙ sym also.resource_is in
    let namespace : s.ns ≡ t.ns = is.ns_is ∙ sym also.ns_is in
    let labels : s.labels ≡ t.labels = one_label_selector label s.labels t.labels is.labels also.labels in
    let fields : s.fields ≡ t.fields = one_field_selector r field s.fields t.fields is.fields also.fields in
    λ i. record { resource = resource i; ns = namespace i; labels = labels i; fields = fields i }

-- those of a request's parameters
pub one_selection : (r : Resource) (ns : Option (List ℕ)) (params : QueryPairs) (s t : Selection) → IsSelection r ns params s → IsSelection r ns params t → s ≡ t
one_selection r ns params s t is also =
    selections_agree r ns (parameter_text (codes "labelSelector") params) (parameter_text (codes "fieldSelector") params) s t is also
