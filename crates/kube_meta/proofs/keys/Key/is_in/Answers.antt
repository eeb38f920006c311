use Rattle.std.proofs.Common.{◌≡◌, ◌∙◌, bytes_eq, rules}
use Rattle.kube_meta.specs.Keys.{namespace_of}
use Rattle.kube_meta.proofs.KeyLemmas.{in_its_namespace}
use Rattle.kube_meta.proofs.keys.Key.is_in.Goals as goal

pub returns : goal.returns
returns c =
    let same : c.eq.result ≡ bytes_eq (namespace_of c.args.self.now) c.args.ns.now = search rules in
    same ∙ in_its_namespace c.args.ns.now c.args.self.now c.ns.ensures.whole
