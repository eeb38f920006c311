-- Fewer are kept, or the last of those that have so many behind them is.
use Rattle.std.proofs.Common.{◌≡◌, ◌-◌, length, get_or, max, ap, ◌∙◌, arith}
use Rattle.rev_log.specs.Changes.{RevisionData}
use Rattle.up_store.proofs.KeptLemmas.{floor-low, floor-high, place-at}
use Rattle.up_store.proofs.kept.Kept.floor_behind.Goals as goal

pub returns-then-count-history-clause-behind : goal.returns-then-count-history-clause-behind
returns-then-count-history-clause-behind c = λ log floor keeps.
    floor-low log floor c.args.self.now c.args.history keeps (omega (arith, c.if-count-history.true, c.len-count.ensures, c.args.self.now.revisions.ok.0))

pub returns-clause-within : goal.returns-clause-within
returns-clause-within c = λ log floor keeps.
    let len : c.len-count.result ≡ length c.args.self.now.revisions.items = c.len-count.ensures ∙ c.args.self.now.revisions.ok.0 in
    let number : c.behind-index.inside.rev ≡ c.index.result.now.rev = ap (λ (r : RevisionData). r.rev) (c.behind-index.view_is ∙ c.get.ensures) in
    omega (arith, number, (place-at log floor c.args.self.now keeps (c.len-count.result - c.args.history - 1) c.index.result.now (omega (arith, len, c.if-count-history.false)) c.index.ensures).1)

pub returns-clause-behind : goal.returns-clause-behind
returns-clause-behind c = λ log floor keeps.
    let len : c.len-count.result ≡ length c.args.self.now.revisions.items = c.len-count.ensures ∙ c.args.self.now.revisions.ok.0 in
    let number : c.behind-index.inside.rev ≡ c.index.result.now.rev = ap (λ (r : RevisionData). r.rev) (c.behind-index.view_is ∙ c.get.ensures) in
    let is : c.index.result.now ≡ get_or c.args.self.now.revisions.items (length c.args.self.now.revisions.items - c.args.history - 1) c.index.result.now =
    c.index.ensures ∙ ap (λ n. get_or c.args.self.now.revisions.items (n - c.args.history - 1) c.index.result.now) len in
    ap (max floor) (number ∙ floor-high log floor c.args.self.now c.args.history keeps c.index.result.now (omega (arith, len, c.if-count-history.false)) is)
