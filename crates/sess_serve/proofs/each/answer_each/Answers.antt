use Rattle.std.proofs.Common.{◌∙◌, refl, sym, inl, inr}
use Rattle.kube_meta.specs.declared.resources.Resource.TheVariants.{Pods, ConfigMaps, Deployments}
use Rattle.sess_serve.proofs.EachRounds.{only-of, answered-by}
use Rattle.sess_serve.proofs.Replying.{unless-memory}
use Rattle.sess_serve.proofs.each.answer_each.Goals as goal

pub returns-in-Pods-clause-answered : goal.returns-in-Pods-clause-answered
returns-in-Pods-clause-answered g c =
    answered-by _ _ _ _ Pods _ _ (sym c.resource_of.ensures ∙ c.in-Pods.is) c.answer.ensures.answered (only-of _ _ _ _ (inl refl) (inr refl) (inr refl))

pub returns-in-Pods-clause-facts_config_maps : goal.returns-in-Pods-clause-facts_config_maps
returns-in-Pods-clause-facts_config_maps g c = refl

pub returns-in-Pods-clause-facts_deployments : goal.returns-in-Pods-clause-facts_deployments
returns-in-Pods-clause-facts_deployments g c = refl

pub returns-in-Pods-clause-kept_config_maps : goal.returns-in-Pods-clause-kept_config_maps
returns-in-Pods-clause-kept_config_maps g c = λ whole. unless-memory c.answer.result whole

pub returns-in-Pods-clause-kept_deployments : goal.returns-in-Pods-clause-kept_deployments
returns-in-Pods-clause-kept_deployments g c = λ whole. unless-memory c.answer.result whole

pub returns-in-ConfigMaps-clause-answered : goal.returns-in-ConfigMaps-clause-answered
returns-in-ConfigMaps-clause-answered g c =
    answered-by _ _ _ _ ConfigMaps _ _ (sym c.resource_of.ensures ∙ c.in-ConfigMaps.is) c.answer-in-ConfigMaps.ensures.answered (only-of _ _ _ _ (inr refl) (inl refl) (inr refl))

pub returns-in-ConfigMaps-clause-facts_pods : goal.returns-in-ConfigMaps-clause-facts_pods
returns-in-ConfigMaps-clause-facts_pods g c = refl

pub returns-in-ConfigMaps-clause-facts_deployments : goal.returns-in-ConfigMaps-clause-facts_deployments
returns-in-ConfigMaps-clause-facts_deployments g c = refl

pub returns-in-ConfigMaps-clause-kept_pods : goal.returns-in-ConfigMaps-clause-kept_pods
returns-in-ConfigMaps-clause-kept_pods g c = λ whole. unless-memory c.answer-in-ConfigMaps.result whole

pub returns-in-ConfigMaps-clause-kept_deployments : goal.returns-in-ConfigMaps-clause-kept_deployments
returns-in-ConfigMaps-clause-kept_deployments g c = λ whole. unless-memory c.answer-in-ConfigMaps.result whole

pub returns-in-Deployments-clause-answered : goal.returns-in-Deployments-clause-answered
returns-in-Deployments-clause-answered g c =
    answered-by _ _ _ _ Deployments _ _ (sym c.resource_of.ensures ∙ c.in-Deployments.is) c.answer-in-Deployments.ensures.answered (only-of _ _ _ _ (inr refl) (inr refl) (inl refl))

pub returns-in-Deployments-clause-facts_pods : goal.returns-in-Deployments-clause-facts_pods
returns-in-Deployments-clause-facts_pods g c = refl

pub returns-in-Deployments-clause-facts_config_maps : goal.returns-in-Deployments-clause-facts_config_maps
returns-in-Deployments-clause-facts_config_maps g c = refl

pub returns-in-Deployments-clause-kept_pods : goal.returns-in-Deployments-clause-kept_pods
returns-in-Deployments-clause-kept_pods g c = λ whole. unless-memory c.answer-in-Deployments.result whole

pub returns-in-Deployments-clause-kept_config_maps : goal.returns-in-Deployments-clause-kept_config_maps
returns-in-Deployments-clause-kept_config_maps g c = λ whole. unless-memory c.answer-in-Deployments.result whole
