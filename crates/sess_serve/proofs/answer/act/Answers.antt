use Rattle.std.proofs.Common.{refl}
use Rattle.sess_serve.proofs.Replying.{facts-acted, facts-rest, facts-still, unless-memory}
use Rattle.sess_serve.proofs.answer.act.Goals as goal

pub returns-in-Write-clause-answered : goal.returns-in-Write-clause-answered
returns-in-Write-clause-answered g c = c.step_write.ensures.replied c.args.settings.now _

pub returns-in-Write-clause-facts : goal.returns-in-Write-clause-facts
returns-in-Write-clause-facts g c = facts-acted (g.C.Client.facts c.args.client.now) (g.C.Client.facts c.step_write.new.client) c.step_write.ensures.facts

pub returns-in-Get-clause-answered : goal.returns-in-Get-clause-answered
returns-in-Get-clause-answered g c = c.step_get.ensures.replied c.args.settings.now _

pub returns-in-Get-clause-facts : goal.returns-in-Get-clause-facts
returns-in-Get-clause-facts g c = facts-rest (g.C.Client.facts c.args.client.now) (g.C.Client.facts c.step_get.new.client) (facts-still (g.C.Client.facts c.args.client.now) (g.C.Client.facts c.step_get.new.client) c.step_get.ensures.facts)

pub returns-in-List-clause-answered : goal.returns-in-List-clause-answered
returns-in-List-clause-answered g c = c.step_list.ensures.replied c.args.settings.now _

pub returns-in-List-clause-facts : goal.returns-in-List-clause-facts
returns-in-List-clause-facts g c = facts-rest (g.C.Client.facts c.args.client.now) (g.C.Client.facts c.step_list.new.client) (facts-still (g.C.Client.facts c.args.client.now) (g.C.Client.facts c.step_list.new.client) c.step_list.ensures.facts)

pub returns-in-Operate-clause-answered : goal.returns-in-Operate-clause-answered
returns-in-Operate-clause-answered g c = c.step_operate.ensures.replied c.args.settings.now _

pub returns-in-Operate-clause-facts : goal.returns-in-Operate-clause-facts
returns-in-Operate-clause-facts g c = facts-acted (g.C.Client.facts c.args.client.now) (g.C.Client.facts c.step_operate.new.client) c.step_operate.ensures.facts

pub returns-in-Transact-clause-answered : goal.returns-in-Transact-clause-answered
returns-in-Transact-clause-answered g c = c.step_transact.ensures.replied c.args.settings.now _

pub returns-in-Transact-clause-facts : goal.returns-in-Transact-clause-facts
returns-in-Transact-clause-facts g c = facts-acted (g.C.Client.facts c.args.client.now) (g.C.Client.facts c.step_transact.new.client) c.step_transact.ensures.facts

pub returns-in-Metrics-clause-answered : goal.returns-in-Metrics-clause-answered
returns-in-Metrics-clause-answered g c = c.step_metrics.ensures.replied c.args.settings.now _

pub returns-in-Metrics-clause-facts : goal.returns-in-Metrics-clause-facts
returns-in-Metrics-clause-facts g c = facts-rest (g.C.Client.facts c.args.client.now) (g.C.Client.facts c.step_metrics.new.client) (facts-still (g.C.Client.facts c.args.client.now) (g.C.Client.facts c.step_metrics.new.client) c.step_metrics.ensures.facts)

pub returns-in-Describe-clause-answered : goal.returns-in-Describe-clause-answered
returns-in-Describe-clause-answered g c = c.step_describe.ensures c.args.settings.now _

pub returns-in-Describe-clause-facts : goal.returns-in-Describe-clause-facts
returns-in-Describe-clause-facts g c = refl

pub returns-in-Describe-clause-kept : goal.returns-in-Describe-clause-kept
returns-in-Describe-clause-kept g c = λ whole. unless-memory c.step_describe.result whole

pub returns-in-Watch-clause-facts : goal.returns-in-Watch-clause-facts
returns-in-Watch-clause-facts g c = facts-rest (g.C.Client.facts c.args.client.now) (g.C.Client.facts c.step_watch.new.client) c.step_watch.ensures.facts
