use Rattle.std.proofs.Common.{ℕ, ◌≤◌, ◌+◌, List, ◌++◌, length, sym, ap, ◌∙◌, arith, length-drop}
use Rattle.load_gen.proofs.ReplyLemmas.{one_read, none_left, rest_whole, same_reply}
use Rattle.load_gen.proofs.replies.codes.Goals as goal

pub loop-at-preserved : goal.loop-at-preserved
loop-at-preserved c =
    let text = c.args.text.now in
    let at = c.loop-at.at in
    let reply = c.in-Some.reply in
    let slice = rest_whole text at in
    let slice_length = ap length slice in
    let left = length-drop at text in
    let within = c.in-Some.ensures.within in
    let fits : at + reply.size ≤ length text = omega arith in (
      fits,
      λ codes replies.
          let before = c.loop-at.invariant.1 codes replies in
          let r = one_read text at reply.code reply.size codes c.loop-at.codes.items before.0 c.loop-at-test.true before.1 before.2
          (λ other first behind is told. same_reply reply other (length first) (c.in-Some.ensures.found other first behind (slice ∙ is) told)) in
          (r.0, r.1, r.2 ∙ ap (λ (done : List ℕ). done ++ r.0) (sym c.in_ok-push.ensures.items)),
    )

pub returns : goal.returns
returns c = λ codes replies.
    let before = c.loop-at.invariant.1 codes replies in
    none_left c.args.text.now c.loop-at.at codes c.loop-at.codes.items before.0 c.loop-at-test.false before.1 before.2
