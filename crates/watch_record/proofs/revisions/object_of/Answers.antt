use Rattle.std.proofs.Common.{string_bytes, ◌∙◌}
use Rattle.std.proofs.lemmas.Str.{IsUtf8-string_bytes}
use Rattle.serde_json.specs.View.{view}
use Rattle.watch_record.proofs.ObjectLemmas.{ReadsText, kept-object, no-object}
use Rattle.watch_record.proofs.revisions.object_of.Goals as goal

pub returns : goal.returns
returns c =
    let from : ReadsText c.in_ok-ns.ns c.in_ok-name.name c.as_bytes.result.now (string_bytes c.in_ok-text.text) c.args.key.now (view c.args.object.now) = record {
      form = c.ns.ensures.whole;
      ns_is = c.in_ok-ns.ensures ∙ c.ns.ensures.value;
      name_is = c.in_ok-name.ensures ∙ c.name.ensures.value;
      bytes_are = c.as_bytes.ensures.value;
      utf8 = IsUtf8-string_bytes c.in_ok-text.text;
      reads = c.in_ok-text.ensures.reads_back c.requires;
      compact = c.in_ok-text.ensures.text;
    } in
    kept-object c.args.resource c.in_ok-ns.ns c.in_ok-name.name c.as_bytes.result.now (string_bytes c.in_ok-text.text) c.args.key.now (view c.args.object.now)
    c.in_ok-obj.field-0 c.in-Some.obj from c.in_ok-obj.ensures c.in-Some.is

pub returns-in_default : goal.returns-in_default
returns-in_default c =
    let from : ReadsText c.in_ok-ns.ns c.in_ok-name.name c.as_bytes.result.now (string_bytes c.in_ok-text.text) c.args.key.now (view c.args.object.now) = record {
      form = c.ns.ensures.whole;
      ns_is = c.in_ok-ns.ensures ∙ c.ns.ensures.value;
      name_is = c.in_ok-name.ensures ∙ c.name.ensures.value;
      bytes_are = c.as_bytes.ensures.value;
      utf8 = IsUtf8-string_bytes c.in_ok-text.text;
      reads = c.in_ok-text.ensures.reads_back c.requires;
      compact = c.in_ok-text.ensures.text;
    } in
    no-object c.args.resource c.in_ok-ns.ns c.in_ok-name.name c.as_bytes.result.now (string_bytes c.in_ok-text.text) c.args.key.now (view c.args.object.now)
    c.in_ok-obj.field-0 from c.in_ok-obj.ensures c.in_default.is
