-- One more revision adds its part, until there are as many changes as are wanted, or at the log's end.
use Rattle.std.proofs.Common.{◌≡◌, ◌+◌, ◌<◌, ◌≤◌, ◌∷◌, [], ◌++◌, ℕ, length, Some, None, sym, ap, ◌∙◌, subst, arith}
use Rattle.std.proofs.lemmas.List.Sums.{sum_by-append}
use Rattle.up_api.specs.Feeds.{IsPoll, part_of, changes_in}
use Rattle.up_store.proofs.PollLemmas.{part-more, part-none, poll-reached, poll-ended}
use Rattle.up_store.proofs.kept.Kept.poll.Goals as goal

pub loop-i-preserved-in_default : goal.loop-i-preserved-in_default
loop-i-preserved-in_default c =
    let inside : c.loop-i.i < length c.args.self.now.revisions.items = omega (arith, c.args.self.now.revisions.ok.0, c.loop-i-test.true, c.len-i-end.ensures) in
    let order : c.place_of-start.result ≤ c.loop-i.i = omega arith in
    let found : None ≡ part_of c.args.resource c.index.result.now = sym c.in_default.is ∙ c.in_ok-found.ensures ∙ ap (part_of c.args.resource) c.get.ensures in
    record {
      parts = c.loop-i.invariant.parts ∙ part-none c.args.resource c.place_of-start.result c.loop-i.i c.args.self.now.revisions.items c.index.result.now order inside c.index.ensures found;
      wanted = c.loop-i.invariant.wanted;
      some = c.loop-i.invariant.some;
    }

pub loop-i-preserved : goal.loop-i-preserved
loop-i-preserved c =
    let inside : c.loop-i.i < length c.args.self.now.revisions.items = omega (arith, c.args.self.now.revisions.ok.0, c.loop-i-test.true, c.len-i-end.ensures) in
    let order : c.place_of-start.result ≤ c.loop-i.i = omega arith in
    let found : Some c.in-Some.found ≡ part_of c.args.resource c.index.result.now = sym c.in-Some.is ∙ c.in_ok-found.ensures ∙ ap (part_of c.args.resource) c.get.ensures in
    let items : c.push.new.self.items ≡ c.loop-i.revisions.items ++ c.in-Some.found ∷ [] = c.in_ok-push.ensures.items in
    let count : c.len-count.result ≡ length c.in-Some.found.changes = c.len-count.ensures ∙ c.found.inside.changes.ok.0 ∙ ap (λ r. length r.changes) c.found.view_is in
    let sum : changes_in c.push.new.self.items ≡ changes_in c.loop-i.revisions.items + length c.in-Some.found.changes =
    ap changes_in items ∙ sum_by-append (λ revision. length revision.changes) c.loop-i.revisions.items (c.in-Some.found ∷ []) ∙ omega arith in
    record {
      parts = items ∙ ap (λ xs. xs ++ c.in-Some.found ∷ []) c.loop-i.invariant.parts
          ∙ part-more c.args.resource c.place_of-start.result c.loop-i.i c.args.self.now.revisions.items c.index.result.now (Some c.in-Some.found) order inside c.index.ensures found;
      wanted = omega (arith, sum, count, c.loop-i.invariant.wanted, c.if-count-wanted.false);
      some = omega (arith, c.if-count-wanted.false);
    }

pub returns-then-count-wanted : goal.returns-then-count-wanted
returns-then-count-wanted c = λ log floor keeps above within.
    let inside : c.loop-i.i < length c.args.self.now.revisions.items = omega (arith, c.args.self.now.revisions.ok.0, c.loop-i-test.true, c.len-i-end.ensures) in
    let order : c.place_of-start.result ≤ c.loop-i.i = omega arith in
    let found : Some c.in-Some.found ≡ part_of c.args.resource c.index.result.now = sym c.in-Some.is ∙ c.in_ok-found.ensures ∙ ap (part_of c.args.resource) c.get.ensures in
    let count : c.len-count.result ≡ length c.in-Some.found.changes = c.len-count.ensures ∙ c.found.inside.changes.ok.0 ∙ ap (λ r. length r.changes) c.found.view_is in
    let number : c.found.inside.rev ≡ c.in-Some.found.rev = ap (λ r. r.rev) c.found.view_is in
    let polled : IsPoll (log) c.args.resource c.args.from c.args.max (record { from = c.args.from; upto = c.in-Some.found.rev; revisions = c.push.new.self.items }) =
    poll-reached log floor c.args.self.now c.args.resource c.args.from c.place_of-start.result c.args.max c.loop-i.i c.loop-i.wanted c.index.result.now c.in-Some.found c.loop-i.revisions.items c.push.new.self.items
    keeps above (c.place_of-start.ensures.place log floor keeps above within) order inside c.index.ensures found c.loop-i.invariant.parts c.loop-i.invariant.wanted c.loop-i.invariant.some c.in_ok-push.ensures.items (omega (arith, count, c.if-count-wanted.true)) in
    subst (λ (n : ℕ). IsPoll log c.args.resource c.args.from c.args.max (record { from = c.args.from; upto = n; revisions = c.push.new.self.items })) (sym number) polled

pub returns : goal.returns
returns c = λ log floor keeps above within.
    let len : c.args.self.now.revisions.len ≡ length c.args.self.now.revisions.items = c.args.self.now.revisions.ok.0 in
    let end : length c.args.self.now.revisions.items ≤ c.loop-i.i = omega (arith, len, c.len-i-end.ensures, c.loop-i-test.false) in
    poll-ended log floor c.args.self.now c.args.resource c.args.from c.place_of-start.result c.args.max c.loop-i.wanted c.loop-i.i c.loop-i.revisions.items keeps within
    (c.place_of-start.ensures.place log floor keeps above within) end c.loop-i.invariant.parts c.loop-i.invariant.wanted c.loop-i.invariant.some
