use Rattle.std.proofs.Common.{refl}
use Rattle.line_stream.proofs.cluster_asking.changes_form.Goals as goal

pub returns : goal.returns
returns c =
    rw (c.finish.ensures, c.in_ok-append_pair-4.ensures.ok, c.in_ok-append_pair-3.ensures.ok, c.in_ok-append_pair-2.ensures.ok, c.in_ok-append_pair.ensures.ok, c.new-form.ensures, c.new.ensures.bytes, c.format.ensures.text)
    refl
