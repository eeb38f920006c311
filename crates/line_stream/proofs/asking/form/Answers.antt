use Rattle.std.specs.Prelude.{codes}
use Rattle.line_stream.specs.Requests.{start_pairs, selector_pair}
use Rattle.line_stream.proofs.FormLemmas.{whole}
use Rattle.line_stream.proofs.asking.form.Goals as goal

pub returns : goal.returns
returns c =
    rw (c.finish.ensures, c.in_ok-add_selector-2.ensures, c.in_ok-add_selector.ensures, c.in_ok-append_pair-2.ensures.ok, c.in_ok-add_start.ensures, c.in_ok-append_pair.ensures.ok, c.new-form.ensures, c.new.ensures.bytes)
    (whole (codes "watch", codes "true") (codes "allowWatchBookmarks", codes "true") (start_pairs c.args.start) (selector_pair (codes "labelSelector") c.args.label.now) (selector_pair (codes "fieldSelector") c.args.field.now))
