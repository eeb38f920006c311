use Rattle.std.proofs.Common.{refl}
use Rattle.line_stream.proofs.asking.add_start.Goals as goal

pub returns-in_ok-append_pair-in-State-2 : goal.returns-in_ok-append_pair-in-State-2
returns-in_ok-append_pair-in-State-2 c = rw (c.in-State.is, c.in_ok-append_pair-in-State-2.ensures.ok, c.in_ok-append_pair-in-State.ensures.ok) refl

pub returns-in_ok-append_pair-in-Revision : goal.returns-in_ok-append_pair-in-Revision
returns-in_ok-append_pair-in-Revision c = rw (c.in-Revision.is, c.in_ok-append_pair-in-Revision.ensures.ok, c.format.ensures.text) refl
