use Rattle.serde_json.specs.View.{view}
use Rattle.watch_lines.proofs.ShownLemmas.{unplaced, all-shown}
use Rattle.watch_lines.proofs.shown.shown_in.Goals as goal

pub returns-in_default : goal.returns-in_default
returns-in_default c = unplaced c.args.resource (view c.args.value.now) (rw c.in_default.is at c.in_ok-ns.ensures)

pub returns : goal.returns
returns c =
    all-shown c.args.resource c.in-Some.ns c.in-Some.name (view c.args.value.now) (c.is_plain.ensures.0 c.if-not-is_plain.false) (rw c.in-Some.is at c.in_ok-ns.ensures)
    c.kept_in.result c.kept_in.ensures
