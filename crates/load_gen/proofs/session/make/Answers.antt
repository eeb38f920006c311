use Rattle.std.proofs.Common.{◌≡◌, ℕ, List, ◌++◌, refl, sym, ap, ◌∙◌, arith}
use Rattle.std.specs.List.{flat_map, range_with_len}
use Rattle.load_gen.specs.Draws.{state_after}
use Rattle.load_gen.specs.Requests.{session_text, list_request, request_at, request_text}
use Rattle.load_gen.specs.declared.requests.LoadRequest.{LoadRequest}
use Rattle.load_gen.proofs.DrawLemmas.{three_more, request_is, flat_more}
use Rattle.load_gen.proofs.session.make.Goals as goal

pub loop-number-init : goal.loop-number-init
unfolding state_after
loop-number-init c = (refl, c.new-bytes.ensures.items)

pub loop-number-preserved : goal.loop-number-preserved
loop-number-preserved c =
    let n = c.loop-number._number in
    let f = λ (k : ℕ). request_text (request_at c.args.from k) in
    let before = c.loop-number.invariant in
    let is = request_is c.args.from n c.loop-number.draws.state c.drawn.result before.0 c.drawn.ensures.action c.drawn.ensures.object c.drawn.ensures.group in
    (c.drawn.ensures.state ∙ three_more c.args.from n c.loop-number.draws.state before.0, c.in_ok-put.ensures ∙ ap (λ (x : List ℕ). x ++ request_text c.drawn.result) before.1 ∙ ap (λ (r : LoadRequest). flat_map f (range_with_len 0 n) ++ request_text r) is ∙ sym (flat_more f n))

pub returns : goal.returns
unfolding session_text
returns c =
    let f = λ (k : ℕ). request_text (request_at c.args.from k) in
    let all : c.loop-number._number ≡ c.args.requests = omega arith in
    c.in_ok-put_list.ensures
    ∙ ap (λ (x : List ℕ). x ++ list_request) (c.loop-number.invariant.1 ∙ ap (λ (n : ℕ). flat_map f (range_with_len 0 n)) all)
