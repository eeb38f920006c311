-- What stands before and after the first slash was tested, or the whole where there is none.
use Rattle.std.proofs.Common.{◌≡◌, ◌+◌, Some, None, true, false, sym, ◌∙◌, position, take, drop, rules}
use Rattle.kube_meta.specs.Names.{is_slash, is_dns_subdomain, is_label_name}
use Rattle.kube_meta.proofs.NameLemmas.{label_key_parted, label_key_whole, rest_whole}
use Rattle.kube_meta.proofs.names.is_label_key.Goals as goal

pub returns-then-is_dns_subdomain : goal.returns-then-is_dns_subdomain
returns-then-is_dns_subdomain c =
    let text : c.as_bytes-bytes.result.now ≡ c.args.text.now = c.as_bytes-bytes.ensures.value in
    let found : position is_slash c.args.text.now ≡ Some c.in-Some.slash = cc in
    let prefix : is_dns_subdomain (take c.in-Some.slash c.args.text.now) ≡ true = sym (rw (← text) c.if-is_dns_subdomain.ensures) in
    let name : c.is_label_name.result ≡ is_label_name (drop (c.in-Some.slash + 1) c.args.text.now) =
    rw (← rest_whole (c.in-Some.slash + 1) c.args.text.now, ← text) c.is_label_name.ensures in
    rw (label_key_parted c.args.text.now c.in-Some.slash found, prefix) name

pub returns-else-is_dns_subdomain : goal.returns-else-is_dns_subdomain
returns-else-is_dns_subdomain c =
    let text : c.as_bytes-bytes.result.now ≡ c.args.text.now = c.as_bytes-bytes.ensures.value in
    let found : position is_slash c.args.text.now ≡ Some c.in-Some.slash = cc in
    let prefix : is_dns_subdomain (take c.in-Some.slash c.args.text.now) ≡ false = rw (← text) (sym c.is_dns_subdomain.ensures ∙ c.if-is_dns_subdomain.false) in
    rw (label_key_parted c.args.text.now c.in-Some.slash found, prefix) c.if-is_dns_subdomain.false

pub returns-in-None : goal.returns-in-None
returns-in-None c =
    let absent : position is_slash c.args.text.now ≡ None = cc in
    let whole = label_key_whole c.args.text.now absent in
    search (rules, whole)
