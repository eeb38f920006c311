use Rattle.http_read.proofs.params.Params.first.Goals as goal

pub value_of-requires : goal.value_of-requires
value_of-requires c = rw (c.as_str.ensures.value, c.as_slice.ensures.value) c.self.invariant
