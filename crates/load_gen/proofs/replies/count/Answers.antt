use Rattle.std.proofs.Common.{◌-◌, length, take, get_or, arith}
use Rattle.load_gen.proofs.ReplyLemmas.{is_some, parted}
use Rattle.load_gen.proofs.replies.count.Goals as goal

pub returns : goal.returns
returns c =
    let codes = c.args.codes.now in
    let few = c.accepted-ok.ensures.few in
    record {
      before = take (length codes - 1) codes;
      last = get_or codes (length codes - 1) 0;
      parted = parted codes (is_some codes c.if-is_empty.ensures);
      ok_is = c.accepted-ok.ensures.count;
      others = omega arith;
    }
