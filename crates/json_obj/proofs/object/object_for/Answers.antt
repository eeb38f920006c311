use Rattle.std.proofs.Common.{◌≡◌, Some, None, true, false, true≢false, option_map, sym, ap, rules}
use Rattle.std.specs.Prelude.{codes, unwrap_or}
use Rattle.serde_json.specs.Data.{null}
use Rattle.serde_json.specs.Find.{get}
use Rattle.serde_json.specs.View.{view}
use Rattle.json_obj.specs.Objects.{is_metadata, revision_in, metadata_of}
use Rattle.json_obj.proofs.Refused.{is_metadata-revision, allowed, members_allowed}
use Rattle.json_obj.proofs.object.object_for.Goals as goal

pub returns : goal.returns
returns c =
    let d = view c.args.value.now in
    let m = view c.in-Some-get.metadata.now in
    let path = option_map (λ n. n.now) c.args.name in
    let found : get (codes "metadata") d ≡ Some m = sym c.in-Some-get.ensures in
    let is : metadata_of d ≡ m = ap (λ o. unwrap_or o null) found in
    let good : is_metadata c.args.ns.now path m ≡ true = rw is at (members_allowed c.args.resource c.args.ns.now path d c.requires.allowed).1 in
    let read : c.revision_in.result ≡ revision_in (get (codes "resourceVersion") m) = search rules in
    let given : c.unwrap_or-given.result ≡ unwrap_or c.revision_in.result None = search rules in
    record {
      object = c.in_ok-object.ensures;
      given = rw (is, given, read) (allowed path (revision_in (get (codes "resourceVersion") m)) (is_metadata-revision c.args.ns.now path m good));
    }

pub unreachable-requires-in_default-get : goal.unreachable-requires-in_default-get
unreachable-requires-in_default-get c =
    let d = view c.args.value.now in
    let path = option_map (λ n. n.now) c.args.name in
    let none : get (codes "metadata") d ≡ None = sym c.in_default-get.ensures in
    let is : metadata_of d ≡ null = ap (λ o. unwrap_or o null) none in
    let good : false ≡ true = rw is at (members_allowed c.args.resource c.args.ns.now path d c.requires.allowed).1 in
    true≢false (sym good)
