use Rattle.std.proofs.Common.{◌∙◌}
use Rattle.field_select.specs.Bytes.{is_in}
use Rattle.field_select.proofs.Runs.{cut_behind, taken_is, left_is}
use Rattle.field_select.proofs.reader.Reader.take_run.Goals as goal

pub split_at-requires : goal.split_at-requires
split_at-requires c =
    rw (← c.as_bytes.ensures.value) (cut_behind c.args.run c.as_bytes.result.now c.run_len.result c.as_bytes.ensures.utf8 c.run_len.ensures.within c.run_len.ensures.each c.run_len.ensures.longest)

pub returns-clause-taken : goal.returns-clause-taken
returns-clause-taken c =
    c.split_at.ensures.front ∙ (rw (← c.as_bytes.ensures.value) (taken_is (is_in c.args.run) c.as_bytes.result.now c.run_len.result c.run_len.ensures.within c.run_len.ensures.each c.run_len.ensures.longest))

pub returns-clause-left : goal.returns-clause-left
returns-clause-left c =
    c.split_at.ensures.back ∙ (rw (← c.as_bytes.ensures.value) (left_is (is_in c.args.run) c.as_bytes.result.now c.run_len.result c.run_len.ensures.within c.run_len.ensures.each c.run_len.ensures.longest))
