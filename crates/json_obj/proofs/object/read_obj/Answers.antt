use Rattle.std.proofs.Common.{option_map}
use Rattle.serde_json.specs.View.{view}
use Rattle.json_obj.proofs.Refused.{members_refusal-not_json}
use Rattle.json_obj.proofs.object.read_obj.Goals as goal

pub returns-clause-not_json : goal.returns-clause-not_json
returns-clause-not_json c = λ e d text.
    members_refusal-not_json c.args.resource c.args.ns.now (option_map (λ n. n.now) c.args.name) (view c.in_ok-value.value) ((rw e at c.obj_of.ensures.refused) (λ same. cc))
